use Rattle.fact_laws.proofs.Moves.{entry_asked, entry_there, entry_kept}
use Rattle.fact_laws.proofs.law.entries_lead_to_themselves.Goals as goal

pub returns : goal.returns
returns c = record {
  asked = λ rows next mode e h. entry_asked rows next e h mode;
  there = λ rows next mode e h. entry_there rows next e h mode;
  kept = λ rows next e h. entry_kept rows next e h;
}
