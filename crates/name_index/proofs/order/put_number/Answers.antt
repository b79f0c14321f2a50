use Rattle.std.proofs.Common.{true}
use Rattle.name_index.proofs.Orders.{before_parted, before, put_rises, put_permutes}
use Rattle.name_index.proofs.order.put_number.Goals as goal

pub put-requires-clause-parted : goal.put-requires-clause-parted
put-requires-clause-parted c =
    before_parted c.args.values.now c.args.end c.key_of-shape.result.0 c.key_of-shape.result.1.now true c.args.order.now.items c.requires.rises

pub returns-clause-rises : goal.returns-clause-rises
returns-clause-rises c =
    let put = rw (c.key_of-shape.ensures.shape, c.key_of-shape.ensures.body) at c.put.ensures in
    put_rises c.args.end c.args.values.now c.args.number c.args.order.now.items c.put.new.self.items c.requires.rises put

pub returns-clause-added : goal.returns-clause-added
returns-clause-added c =
    put_permutes c.args.end c.args.values.now c.args.number (before c.args.values.now c.args.end c.key_of-shape.result.0 c.key_of-shape.result.1.now true) c.args.order.now.items c.put.new.self.items c.put.ensures
