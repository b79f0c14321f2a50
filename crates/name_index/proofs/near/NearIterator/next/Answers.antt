use Rattle.std.proofs.Common.{ℕ, ◌-◌, length, subst, sym, ap, ◌∙◌}
use Rattle.list_pool.specs.Pool.{list_at}
use Rattle.name_index.specs.Index.{walk_left, IsWalkAt}
use Rattle.name_index.specs.Wanted.{wanted_of}
use Rattle.name_index.proofs.WalkSteps.{walk_begins, walk_at_begin, walk_last, walk_steps, no_first, some_left}
use Rattle.name_index.proofs.WantedLemmas.{next_is_added}
use Rattle.name_index.proofs.near.NearIterator.next.Goals as goal

pub loop-self-preserved-in_default-first : goal.loop-self-preserved-in_default-first
loop-self-preserved-in_default-first c =
    let i = c.loop-self.self-inside in
    let head = c.in-Some-list_of.head in
    let found = c.in-Some-list_of.ensures.some in
    let at = found.0 in
    record {
      rest = c.loop-self.invariant.rest ∙ walk_begins i.pool.now.lists i.heads.now i.list.0 i.left c.in-Some.product head (wanted_of i.wanted i.products) (wanted_of i.wanted c.next.new.self) c.loop-self-test.true (next_is_added i.pool.now.lists i.heads.now i.wanted c.in-Some.product i.products c.next.new.self c.in-Some.ensures.steps found.1) at
          ∙ ap (λ (n : ℕ). walk_left i.pool.now.lists i.heads.now head.0 n (wanted_of i.wanted c.next.new.self)) (sym c.len-self-inside.ensures);
      present = subst (λ (n : ℕ). IsWalkAt i.pool.now.lists i.heads.now head.0 n i.cell.0) (sym c.len-self-inside.ensures)
          (walk_at_begin i.pool.now.lists i.heads.now c.in-Some.product head i.list.0 i.left i.cell.0 i.cell.0 at c.loop-self.invariant.present (no_first i.pool.now.lists i.heads.now head.0 i.cell.0 c.in_default-first.ensures));
    }

pub invariant_of-self-in_default-next : goal.invariant_of-self-in_default-next
invariant_of-self-in_default-next c =
    walk_last c.loop-self.self-inside.pool.now.lists c.loop-self.self-inside.heads.now c.loop-self.self-inside.list.0 c.loop-self.self-inside.left c.loop-self.self-inside.cell.0 (some_left c.loop-self.self-inside.left c.loop-self-test.false) c.loop-self.invariant.present
    (c.in_default-next.ensures c.loop-self.self-inside.list.0 (length (list_at c.loop-self.self-inside.pool.now.lists c.loop-self.self-inside.list.0) - c.loop-self.self-inside.left) (c.loop-self.invariant.present.at (some_left c.loop-self.self-inside.left c.loop-self-test.false)))

pub returns-in-Some-next-clause-steps : goal.returns-in-Some-next-clause-steps
returns-in-Some-next-clause-steps c = c.loop-self.invariant.rest ∙ walk_steps c.loop-self.self-inside.pool.now.lists c.loop-self.self-inside.heads.now c.loop-self.self-inside.list.0 c.loop-self.self-inside.left c.loop-self.self-inside.cell.0 c.value-value.result (wanted_of c.loop-self.self-inside.wanted c.loop-self.self-inside.products) (some_left c.loop-self.self-inside.left c.loop-self-test.false) c.loop-self.invariant.present c.value-value.ensures

pub returns-in_default-next-clause-steps : goal.returns-in_default-next-clause-steps
returns-in_default-next-clause-steps c = c.loop-self.invariant.rest ∙ walk_steps c.loop-self.self-inside.pool.now.lists c.loop-self.self-inside.heads.now c.loop-self.self-inside.list.0 c.loop-self.self-inside.left c.loop-self.self-inside.cell.0 c.value-value.result (wanted_of c.loop-self.self-inside.wanted c.loop-self.self-inside.products) (some_left c.loop-self.self-inside.left c.loop-self-test.false) c.loop-self.invariant.present c.value-value.ensures
