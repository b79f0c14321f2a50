use Rattle.std.proofs.Common.{◌≡◌, take}
use Rattle.std.specs.List.{flat_map}
use Rattle.cpe_rows.specs.Shape.{depth_of}
use Rattle.cpe_rows.specs.declared.test.CheckKey.{CheckKey}
use Rattle.statement_rows.specs.Askers.{AreAskers, askers_at}
use Rattle.statement_rows.specs.Readings.{check_keys, is_asked}
use Rattle.statement_rows.specs.Tickets.{without_if}
use Rattle.statement_rows.proofs.askers.+remove_all.Given as goal

abbrev pub decreases-remove_all : goal.decreases-remove_all
decreases-remove_all l = depth_of l.test.now

abbrev pub invariant-loop-child : goal.invariant-loop-child
invariant-loop-child l =
    ((q : CheckKey) → askers_at l.askers.entries q ≡ without_if (is_asked (flat_map check_keys (take l.child-index l.child-items)) q) l.ticket (askers_at l.initial.askers.entries q))
    × (AreAskers l.initial.askers.entries → AreAskers l.askers.entries)
