use Rattle.name_index.specs.declared.keys.End.TheVariants as end
use Rattle.name_index.proofs.Live.{rises_added, one_more}
use Rattle.name_index.proofs.products.Products.add.Goals as goal

pub put_number-requires-clause-rises : goal.put_number-requires-clause-rises
put_number-requires-clause-rises c =
    let i = c.self.inside in
    rw c.in_ok-reserve.ensures.items (rises_added i.values c.add.new.self c.in_ok-number.number c.args.value end.Front i.fronts.items c.in_ok-number.ensures.added c.self.invariant.front_all c.self.invariant.front)

pub put_number-requires-2-clause-rises : goal.put_number-requires-2-clause-rises
put_number-requires-2-clause-rises c =
    let i = c.self.inside in
    rw c.in_ok-reserve-2.ensures.items (rises_added i.values c.add.new.self c.in_ok-number.number c.args.value end.Back i.backs.items c.in_ok-number.ensures.added c.self.invariant.back_all c.self.invariant.back)

pub invariant_of-self-2 : goal.invariant_of-self-2
invariant_of-self-2 c =
    let i = c.self.inside in
    let first = rw c.in_ok-reserve.ensures.items at c.put_number.ensures.added in
    let second = rw c.in_ok-reserve-2.ensures.items at c.put_number-2.ensures.added in
    one_more i.values c.add.new.self c.in_ok-number.number c.args.value i.fronts.items i.backs.items c.put_number.new.order.items c.put_number-2.new.order.items c.self.invariant c.in_ok-number.ensures.added c.requires.lower
    c.put_number.ensures.rises c.put_number-2.ensures.rises first second
