use Rattle.std.proofs.Common.{refl}
use Rattle.fact_laws.proofs.Moves.{item_there, item_left, item_kept, item_kept_without}
use Rattle.fact_laws.proofs.law.items_arrive.Goals as goal

pub returns : goal.returns
returns c = record { there = item_there; left = item_left; asked = λ rows mode n. refl; asked_still = λ rows mode n. refl; kept = item_kept; kept_without = item_kept_without }
