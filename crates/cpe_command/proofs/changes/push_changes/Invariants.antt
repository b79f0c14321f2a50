use Rattle.std.proofs.Common.{◌≡◌, ◌++◌, take}
use Rattle.std.specs.List.{flat_map}
use Rattle.line_replies.specs.Replies.{change_line, changed_id}
use Rattle.cpe_command.proofs.changes.push_changes.Given as goal

abbrev pub invariant-loop-change : goal.invariant-loop-change
invariant-loop-change l =
    l.page ≡ l.fn.page ++ flat_map (λ c. change_line l.number (changed_id l.engine.statements l.dropped c) c) (take l.change-index l.changes)
