use Rattle.std.proofs.Common.{◌≡◌, false, take}
use Rattle.std.specs.List.{list_any}
use Rattle.cover_lines.specs.Shapes.{finds_wider}
use Rattle.cover_lines.proofs.shapes.is_under.Given as goal

abbrev pub invariant-loop-shape : goal.invariant-loop-shape
invariant-loop-shape l = list_any (finds_wider l.names l.name) (take l.shape-index l.shapes) ≡ false
