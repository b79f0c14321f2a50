use Rattle.certificate_search.specs.certificate_check.Relates.{related}
use Rattle.cpe_engine.proofs.SlotLemmas.{IsLeft}
use Rattle.cpe_engine.proofs.slots.first_related.Given as goal

abbrev pub invariant-loop-slot : goal.invariant-loop-slot
invariant-loop-slot l = IsLeft (related l.relates l.name) l.slots l.slot
