use Rattle.cpe_rows.specs.Verdict.{is_followed}
use Rattle.certificate_search.specs.certificate_check.Relates.{related}
use Rattle.cpe_engine.proofs.SlotLemmas.{IsLeft}
use Rattle.cpe_engine.proofs.leading.first_followed.Given as goal

abbrev pub invariant-loop-slot : goal.invariant-loop-slot
invariant-loop-slot l = IsLeft (is_followed (related l.relates) l.registry.entries l.name) l.slots l.slot
