use Rattle.std.proofs.Common.{arith}
use Rattle.cover_lines.proofs.ShapeLemmas.{shapes_more}
use Rattle.cover_lines.proofs.shapes.find_shapes.Goals as goal

pub loop-place-preserved : goal.loop-place-preserved
loop-place-preserved c = shapes_more c.args.names.now c.loop-place.shapes.items c.put_shape_at.new.shapes.items c.loop-place.place (omega (arith, c.loop-place-test.true, c.len-place-end.ensures)) c.loop-place.invariant c.in_ok-put_shape_at.ensures.new c.in_ok-put_shape_at.ensures.kept
