use Rattle.std.proofs.Common.{◌≡◌, false, take}
use Rattle.std.specs.List.{flat_map}
use Rattle.cpe_rows.specs.declared.test.CheckKey.{CheckKey}
use Rattle.cpe_rows.specs.Shape.{depth_of}
use Rattle.statement_rows.specs.Askers.{askers_at, asker_list_at}
use Rattle.statement_rows.specs.Readings.{check_keys, is_asked}
use Rattle.statement_rows.specs.Tickets.{with_last_if}
use Rattle.statement_rows.proofs.askers.+add_all.Given as goal

abbrev pub decreases-add_all : goal.decreases-add_all
decreases-add_all l = depth_of l.test.now

abbrev pub invariant-loop-child : goal.invariant-loop-child
invariant-loop-child l =
    ((q : CheckKey) → askers_at l.askers.entries q ≡ with_last_if (is_asked (flat_map check_keys (take l.child-index l.child-items)) q) l.ticket (askers_at l.initial.askers.entries q))
    × ((q : CheckKey) → is_asked (flat_map check_keys (take l.child-index l.child-items)) q ≡ false → asker_list_at l.askers.entries q ≡ asker_list_at l.initial.askers.entries q)
