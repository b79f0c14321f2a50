use Rattle.snapshot_bytes.specs.Reading.{many}
use Rattle.snapshot_bytes.proofs.Loop.{is_continued}
use Rattle.snapshot_bytes.proofs.parts.many.Goals as goal

pub loop-preserved : goal.loop-preserved
loop-preserved g c =
    rw c.in_ok-push_close.ensures.ok (is_continued g.P.Part.read c.loop.parts c.args.count c.loop.counter c.loop.cursor c.in_ok-part.part c.take.new.cursor
    (many g.P.Part.read c.args.count c.args.cursor.now) c.loop-test.true c.in_ok-part.ensures c.loop.invariant)
