use Rattle.std.proofs.Common.{◌∙◌, ap, length, arith}
use Rattle.std.proofs.lemmas.List.{length-set}
use Rattle.deprecation_graph.proofs.MirrorLemmas.{link_step}
use Rattle.deprecation_graph.proofs.mirror.link_all.Goals as goal

pub loop-to-preserved : goal.loop-to-preserved
loop-to-preserved c = record {
  next = link_step c.args.next.now.lists c.loop-to.next.lists c.link.new.next.lists c.args.from c.loop-to.to-index 0 c.args.all.now c.requires.from c.loop-to-test.true c.loop-to.invariant.next c.link.ensures.next;
  before = ap length c.link.ensures.before ∙ length-set c.loop-to.before.lists _ _ ∙ c.loop-to.invariant.before;
  mirror = c.link.ensures.mirror;
  next_spare = omega arith;
  before_spare = omega arith;
  next_room = c.link.ensures.next_room ∙ c.loop-to.invariant.next_room;
  before_room = c.link.ensures.before_room ∙ c.loop-to.invariant.before_room;
}
