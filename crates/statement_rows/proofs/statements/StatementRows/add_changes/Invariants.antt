use Rattle.std.proofs.Common.{◌≡◌, ◌+◌, ◌≤◌, ◌++◌, map, take}
use Rattle.statement_rows.specs.State.{change_at, changed_places}
use Rattle.statement_rows.proofs.statements.StatementRows.add_changes.Given as goal

-- the changes with lower numbers are added, and there is room for all
abbrev pub invariant-loop-number : goal.invariant-loop-number
invariant-loop-number l = record {
  added : l.changes.list ≡ l.initial.changes.list ++ map (change_at l.self) (take l.number (changed_places l.self));
  paid : l.initial.changes.spare ≤ l.changes.spare + l.number;
}
