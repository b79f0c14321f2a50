use Rattle.std.proofs.Common.{◌≡◌, ◌∷◌, ℕ, sym, subst, arith}
use Rattle.name_index.specs.Elements.{SameElements}
use Rattle.name_index.specs.Index.{Held, pairs, times_held}
use Rattle.name_index.proofs.Postings.{added}
use Rattle.std.proofs.lemmas.Grind.{common_steps}
use Rattle.name_index.proofs.index.NameIndex.add.Goals as goal

pub invariant_of-self : goal.invariant_of-self
invariant_of-self c =
    let i = c.self.inside in
    (added i.pool.lists c.push.new.self.lists i.heads.items c.args.id.0 c.product-product.result.0 c.head_of-head.result c.self.invariant c.head_of-head.ensures c.push.ensures.pushed
    (subst (λ (h : Held). times_held h.held c.args.id.0 ≡ 0) (sym c.self.view_is) c.requires.fresh)).index

pub returns : goal.returns
returns c =
    let i = c.self.inside in
    let a = added i.pool.lists c.push.new.self.lists i.heads.items c.args.id.0 c.product-product.result.0 c.head_of-head.result c.self.invariant c.head_of-head.ensures c.push.ensures.pushed
    (subst (λ (h : Held). times_held h.held c.args.id.0 ≡ 0) (sym c.self.view_is) c.requires.fresh) in
    record {
      added = subst (λ (p : ℕ). SameElements ((c.args.id.0, p) ∷ c.args.self.now.held) (pairs c.push.new.self.lists i.heads.items)) c.product-product.ensures
          (subst (λ (h : Held). SameElements ((c.args.id.0, c.product-product.result.0) ∷ h.held) (pairs c.push.new.self.lists i.heads.items)) c.self.view_is a.held);
      spare = grind (arith, common_steps);
      wide = grind (arith, common_steps);
    }
