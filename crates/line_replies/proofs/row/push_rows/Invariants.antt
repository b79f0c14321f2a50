use Rattle.std.proofs.Common.{◌≡◌, ◌++◌, take}
use Rattle.std.specs.List.{flat_map}
use Rattle.line_replies.specs.Replies.{row_line}
use Rattle.line_replies.proofs.row.push_rows.Given as goal

abbrev pub invariant-loop-row : goal.invariant-loop-row
invariant-loop-row l = l.page ≡ l.fn.page ++ flat_map (row_line l.word) (take l.row-index l.rows)
