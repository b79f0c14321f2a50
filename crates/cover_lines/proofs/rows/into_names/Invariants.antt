use Rattle.std.proofs.Common.{◌≡◌, ◌++◌}
use Rattle.cover_lines.proofs.rows.into_names.Given as goal

abbrev pub invariant-loop-row : goal.invariant-loop-row
invariant-loop-row l = l.names ++ l.row-iterator.rest.items ≡ l.fn.rows.items
