use Rattle.std.proofs.Common.{◌≡◌, ◌∷◌, ◌+◌, ℕ, sym, ap, subst, ◌∙◌}
use Rattle.std.specs.List.{Contains}
use Rattle.name_index.specs.Elements.{SameElements}
use Rattle.name_index.specs.Index.{Held, pairs}
use Rattle.name_index.proofs.Postings.{product_known, removal, when_true}
use Rattle.name_index.proofs.index.NameIndex.drop_name.Goals as goal

-- The index holds the number with the product number that the table keeps for it.
present : (seen now : Held) (id product known : ℕ) → seen ≡ now → product ≡ known → Contains now.held (id, known) → Contains seen.held (id, product)
present seen now id product known is same has = subst (λ (h : Held). Contains h.held (id, product)) (sym is) (subst (λ (p : ℕ). Contains now.held (id, p)) (sym same) has)

pub head_of-head-requires : goal.head_of-head-requires
head_of-head-requires c =
    let i = c.self.inside in
    product_known i.pool.lists i.heads.items c.args.id.0 c.product-product.result.0 (present _ _ _ _ _ c.self.view_is c.product-product.ensures c.requires.held)

pub invariant_of-self : goal.invariant_of-self
invariant_of-self c =
    let i = c.self.inside in
    let has = present _ _ _ _ _ c.self.view_is c.product-product.ensures c.requires.held in
    (removal i.pool.lists c.remove_value.new.self.lists i.heads.items c.args.id.0 c.product-product.result.0 c.head_of-head.result c.remove_value.result c.self.invariant c.head_of-head.ensures has c.remove_value.ensures.found c.remove_value.ensures.removed).index

pub returns-clause-dropped : goal.returns-clause-dropped
returns-clause-dropped c =
    let i = c.self.inside in
    let has = present _ _ _ _ _ c.self.view_is c.product-product.ensures c.requires.held in
    let r = removal i.pool.lists c.remove_value.new.self.lists i.heads.items c.args.id.0 c.product-product.result.0 c.head_of-head.result c.remove_value.result c.self.invariant c.head_of-head.ensures has c.remove_value.ensures.found c.remove_value.ensures.removed in
    subst (λ (p : ℕ). SameElements c.args.self.now.held ((c.args.id.0, p) ∷ pairs c.remove_value.new.self.lists i.heads.items)) c.product-product.ensures
    (subst (λ (h : Held). SameElements h.held ((c.args.id.0, c.product-product.result.0) ∷ pairs c.remove_value.new.self.lists i.heads.items)) c.self.view_is r.held)

pub returns-clause-spare : goal.returns-clause-spare
returns-clause-spare c =
    let i = c.self.inside in
    let has = present _ _ _ _ _ c.self.view_is c.product-product.ensures c.requires.held in
    let r = removal i.pool.lists c.remove_value.new.self.lists i.heads.items c.args.id.0 c.product-product.result.0 c.head_of-head.result c.remove_value.result c.self.invariant c.head_of-head.ensures has c.remove_value.ensures.found c.remove_value.ensures.removed in
    when_true r.there c.remove_value.ensures.spare ∙ ap (λ (h : Held). h.spare + 1) c.self.view_is
