use Rattle.std.proofs.Common.{refl}
use Rattle.fact_laws.proofs.Moves.{statement_asked, statement_asked_no_more, statement_kept, statement_kept_without}
use Rattle.fact_laws.proofs.law.statements_ask.Goals as goal

pub returns : goal.returns
returns c = record { asked = statement_asked; no_more = statement_asked_no_more; there = λ rows mode s. refl; there_still = λ rows mode id. refl; kept = statement_kept; kept_without = statement_kept_without }
