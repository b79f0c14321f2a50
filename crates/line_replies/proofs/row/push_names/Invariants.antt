use Rattle.std.proofs.Common.{◌≡◌, ◌++◌, take}
use Rattle.std.specs.List.{flat_map}
use Rattle.line_replies.specs.Replies.{name_line}
use Rattle.line_replies.proofs.row.push_names.Given as goal

abbrev pub invariant-loop-name : goal.invariant-loop-name
invariant-loop-name l = l.page ≡ l.fn.page ++ flat_map (name_line l.word) (take l.name-index l.names)
