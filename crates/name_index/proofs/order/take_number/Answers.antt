use Rattle.std.proofs.Common.{true, ap, is_lt}
use Rattle.name_index.specs.Keys.{product_key}
use Rattle.name_index.specs.Listed.{product_value_at}
use Rattle.name_index.proofs.Texts.{text_itself}
use Rattle.name_index.proofs.Orders.{before_parted}
use Rattle.name_index.proofs.Live.{rises_taken, same_taken}
use Rattle.name_index.proofs.order.take_number.Goals as goal

pub take-requires-clause-parted : goal.take-requires-clause-parted
take-requires-clause-parted c =
    before_parted c.args.values.now c.args.end c.key_of-shape.result.0 c.key_of-shape.result.1.now true c.args.order.now.items c.requires.rises

pub take-requires-clause-fails : goal.take-requires-clause-fails
take-requires-clause-fails c =
    rw (c.key_of-shape.ensures.shape, c.key_of-shape.ensures.body) (ap is_lt (text_itself (product_key c.args.end (product_value_at c.args.values.now c.args.number))))

pub returns-clause-rises : goal.returns-clause-rises
returns-clause-rises c = rises_taken c.args.end c.args.values.now c.args.number c.args.order.now.items c.take.new.self.items c.take.ensures c.requires.rises

pub returns-clause-taken : goal.returns-clause-taken
returns-clause-taken c = same_taken c.args.number c.args.order.now.items c.take.new.self.items c.take.ensures
