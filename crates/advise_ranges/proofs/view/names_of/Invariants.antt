use Rattle.std.proofs.Common.{◌≡◌, ◌++◌, drop}
use Rattle.check_results.specs.Slots.{names_in_slots}
use Rattle.advise_ranges.proofs.view.names_of.Given as goal

abbrev pub invariant-loop-id : goal.invariant-loop-id
invariant-loop-id l = l.found ++ names_in_slots l.table (drop l.id-index l.ids) ≡ names_in_slots l.table l.ids
