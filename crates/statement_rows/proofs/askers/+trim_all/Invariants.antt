use Rattle.std.proofs.Common.{◌≡◌, take}
use Rattle.std.specs.List.{flat_map}
use Rattle.cpe_rows.specs.declared.test.CheckKey.{CheckKey}
use Rattle.statement_rows.specs.Askers.{asker_list_at, trim_list_if}
use Rattle.statement_rows.specs.Readings.{check_keys, is_asked}
use Rattle.statement_rows.proofs.askers.+trim_all.Given as goal

abbrev pub invariant-loop-child : goal.invariant-loop-child
invariant-loop-child l =
    (q : CheckKey) → asker_list_at l.askers.entries q ≡ trim_list_if (is_asked (flat_map check_keys (take l.child-index l.child-items)) q) (asker_list_at l.initial.askers.entries q)
