use Rattle.std.proofs.Common.{◌∙◌, ap, sym, length, arith, slice_set}
use Rattle.deprecation_graph.specs.Indexed.{list_of_node}
use Rattle.deprecation_graph.proofs.MirrorLemmas.{unlink_step, nil_from_first, All-rest}
use Rattle.deprecation_graph.proofs.mirror.unlink_all.Goals as goal

pub loop-to-smaller : goal.loop-to-smaller
loop-to-smaller c =
    let step = unlink_step c.args.next.now.lists c.loop-to.next.lists c.unlink.new.next.lists c.args.from c.in-Some.to c.requires.from (sym c.in-Some.ensures) c.loop-to.invariant.next c.unlink.ensures.next in
    omega (arith, ap length step.1)

pub loop-to-preserved : goal.loop-to-preserved
loop-to-preserved c =
    let step = unlink_step c.args.next.now.lists c.loop-to.next.lists c.unlink.new.next.lists c.args.from c.in-Some.to c.requires.from (sym c.in-Some.ensures) c.loop-to.invariant.next c.unlink.ensures.next in
    record {
      next = step.0;
      before = c.unlink.ensures.before ∙ c.loop-to.invariant.before;
      closed = All-rest (length c.args.before.now.lists) c.in-Some.to (list_of_node c.loop-to.next.lists c.args.from) (list_of_node c.unlink.new.next.lists c.args.from) step.1 c.loop-to.invariant.closed;
      mirror = c.unlink.ensures.mirror;
      next_spare = omega (arith, ap length step.1);
      before_spare = omega (arith, ap length step.1);
      next_room = c.unlink.ensures.next_room ∙ c.loop-to.invariant.next_room;
      before_room = c.unlink.ensures.before_room ∙ c.loop-to.invariant.before_room;
    }

pub returns-clause-next : goal.returns-clause-next
returns-clause-next c = c.loop-to.invariant.next ∙ ap (slice_set c.args.next.now.lists c.args.from) (nil_from_first (list_of_node c.loop-to.next.lists c.args.from) c.in_default.ensures)

pub returns-clause-next_spare : goal.returns-clause-next_spare
returns-clause-next_spare c = omega (arith, ap length (nil_from_first (list_of_node c.loop-to.next.lists c.args.from) c.in_default.ensures), c.loop-to.invariant.next_spare)

pub returns-clause-before_spare : goal.returns-clause-before_spare
returns-clause-before_spare c = omega (arith, ap length (nil_from_first (list_of_node c.loop-to.next.lists c.args.from) c.in_default.ensures), c.loop-to.invariant.before_spare)
