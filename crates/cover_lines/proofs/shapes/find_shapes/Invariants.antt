use Rattle.std.proofs.Common.{take}
use Rattle.cover_lines.specs.Shapes.{AreShapes}
use Rattle.cover_lines.proofs.shapes.find_shapes.Given as goal

abbrev pub invariant-loop-place : goal.invariant-loop-place
invariant-loop-place l = AreShapes (take l.place l.names) l.shapes.items
