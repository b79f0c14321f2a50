use Rattle.std.proofs.Common.{◌≡◌, true, false, take}
use Rattle.std.specs.List.{flat_map}
use Rattle.cpe_rows.specs.declared.test.CheckKey.{CheckKey}
use Rattle.statement_rows.specs.Askers.{HasPlace, askers_at, asker_list_at}
use Rattle.statement_rows.specs.Readings.{check_keys, is_asked}
use Rattle.statement_rows.proofs.askers.+reserve_all.Given as goal

abbrev pub invariant-loop-child : goal.invariant-loop-child
invariant-loop-child l =
    ((q : CheckKey) → is_asked (flat_map check_keys (take l.child-index l.child-items)) q ≡ true → HasPlace l.askers.entries q)
    × ((q : CheckKey) → askers_at l.askers.entries q ≡ askers_at l.initial.askers.entries q)
    × ((q : CheckKey) → is_asked (flat_map check_keys (take l.child-index l.child-items)) q ≡ false → asker_list_at l.askers.entries q ≡ asker_list_at l.initial.askers.entries q)
