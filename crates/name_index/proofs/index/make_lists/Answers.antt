use Rattle.std.proofs.Common.{◌≡◌, ◌≤◌, ◌+◌, ◌-◌, List, length, sym, subst, ◌∙◌, arith}
use Rattle.std.proofs.lemmas.List.{length_push}
use Rattle.list_pool.specs.declared.ListName.{ListName}
use Rattle.name_index.specs.Index.{pairs, IsIndex}
use Rattle.name_index.proofs.Postings.{longer}
use Rattle.name_index.proofs.index.make_lists.Goals as goal

pub loop-pool-preserved : goal.loop-pool-preserved
loop-pool-preserved c =
    let l = longer c.loop-pool.pool.lists c.make_list.new.self.lists c.loop-pool.heads.items c.in-Some.list c.loop-pool.invariant.index c.in-Some.ensures.fresh c.in-Some.ensures.made in
    let n = length_push c.loop-pool.heads.items c.in-Some.list in
    record {
      index = subst (λ (hs : List ListName). IsIndex c.make_list.new.self.lists hs) (sym c.push_reserved.ensures.items) l.index;
      held = subst (λ (hs : List ListName). pairs c.make_list.new.self.lists hs ≡ pairs c.args.pool.now.lists c.args.heads.now.items) (sym c.push_reserved.ensures.items) (l.held ∙ c.loop-pool.invariant.held);
      longer = subst (λ (hs : List ListName). length c.args.heads.now.items ≤ length hs) (sym c.push_reserved.ensures.items) (omega (arith, c.loop-pool.invariant.longer, n));
      spare = subst (λ (hs : List ListName). c.make_list.new.self.spare + length hs ≡ c.args.pool.now.spare + length c.args.heads.now.items) (sym c.push_reserved.ensures.items) (omega (arith, c.loop-pool.invariant.spare, n, c.in-Some.ensures.spare));
      few = subst (λ (hs : List ListName). length hs ≤ length c.args.heads.now.items + (c.args.wide - length c.args.heads.now.items)) (sym c.push_reserved.ensures.items) (omega (arith, n, c.loop-pool.invariant.few, c.loop-pool-test.true, c.len.ensures));
      room = omega (arith, c.loop-pool.invariant.room, c.push_reserved.ensures.capacity);
    }
