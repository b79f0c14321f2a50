use Rattle.std.proofs.Common.{◌∙◌}
use Rattle.name_index.proofs.Orders.{before_parted, within_parted, run_is}
use Rattle.name_index.proofs.order.in_run.Goals as goal

pub between-requires-clause-first : goal.between-requires-clause-first
between-requires-clause-first c =
    before_parted c.args.values.now c.args.run.end c.args.run.shape c.args.run.body.now c.args.run.whole c.args.order.now.items c.requires

pub between-requires-clause-second : goal.between-requires-clause-second
between-requires-clause-second c =
    within_parted c.args.values.now c.args.run.end c.args.run.shape c.args.run.body.now c.args.run.whole c.args.order.now.items c.requires

pub returns : goal.returns
returns c = c.between.ensures ∙ run_is c.args.values.now c.args.run.end c.args.run.shape c.args.run.body.now c.args.run.whole c.args.order.now.items
