use Rattle.std.proofs.Common.{refl}
use Rattle.serde_json.specs.View.{view}
use Rattle.cpe_records.proofs.FilledNames.{one_given}
use Rattle.cpe_records.proofs.object.fill.Goals as goal

pub loop-which-preserved : goal.loop-which-preserved
loop-which-preserved c = one_given (view c.args.json.now) c.loop-which.which-index _ _ c.loop-which.name c.give.new.name c.loop-which-test.true refl c.loop-which.invariant c.in-Ok.ensures.given
