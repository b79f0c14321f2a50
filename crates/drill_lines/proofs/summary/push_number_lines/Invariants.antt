use Rattle.std.proofs.Common.{◌≡◌, ◌++◌, take}
use Rattle.std.specs.List.{flat_map}
use Rattle.drill_lines.specs.Summary.{number_line}
use Rattle.drill_lines.proofs.summary.push_number_lines.Given as goal

abbrev pub invariant-loop-line : goal.invariant-loop-line
invariant-loop-line l = l.page ≡ l.fn.page ++ flat_map (λ line. number_line line.0.now line.1) (take l.line-index l.lines)
