use Rattle.std.proofs.Common.{rules}
use Rattle.cpe_name.specs.Spans.{texts}
use Rattle.cpe_name.proofs.Steps.{kept, ended, stopped}
use Rattle.cpe_name.proofs.scan.scan_list.Goals as goal

pub returns-in_default : goal.returns-in_default
returns-in_default c = stopped c.loop.counter (texts c.loop.written) c.loop.rest.now _ (search rules) c.loop.invariant c.in_default.ensures

pub returns-in-None : goal.returns-in-None
returns-in-None c =
    let step = rw c.in-None.is at c.in-Some.ensures in
    ended c.loop.counter (texts c.loop.written) (texts c.scan_step.new.written) c.loop.rest.now _ (search rules) c.loop.invariant step

pub loop-preserved : goal.loop-preserved
loop-preserved c =
    let step = rw c.in-Some-next.is at c.in-Some.ensures in
    kept c.loop.counter (texts c.loop.written) (texts c.scan_step.new.written) c.loop.rest.now c.in-Some-next.tail.now _ (search rules) c.loop.invariant step
