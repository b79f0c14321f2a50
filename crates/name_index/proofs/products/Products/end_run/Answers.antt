use Rattle.std.proofs.Common.{◌≡◌, ℕ, false, sym, ap, subst, ◌∙◌}
use Rattle.std.specs.List.{filter, sum_by}
use Rattle.name_index.specs.declared.keys.End.TheVariants as end
use Rattle.name_index.specs.Elements.{SameElements}
use Rattle.name_index.specs.Keys.{in_run}
use Rattle.name_index.specs.Listed.{product_value_at, live, ProductList}
use Rattle.name_index.proofs.Sums.{filter_same}
use Rattle.name_index.proofs.products.Products.end_run.Goals as goal

pub returns : goal.returns
returns c =
    let values = c.self.inside.values in
    let order = c.self.inside.backs.items in
    let has = λ (n : ℕ). in_run end.Back c.args.shape c.args.body.now false (product_value_at values n) in
    let found : c.in_run.result ≡ filter has order = c.in_run.ensures in
    subst (λ (vs : ProductList). SameElements (filter (λ n. in_run end.Back c.args.shape c.args.body.now false (product_value_at vs n)) (live vs)) c.in_run.result) c.self.view_is
    (λ f. filter_same has (live values) order c.self.invariant.back_all f ∙ ap (sum_by f) (sym found))
