use Rattle.cpe_engine.proofs.SlotLemmas.{IsNth}
use Rattle.cpe_engine.proofs.slots.nth_item.Given as goal

abbrev pub invariant-loop-slot : goal.invariant-loop-slot
invariant-loop-slot l = IsNth l.slots l.k l.slot l.left
