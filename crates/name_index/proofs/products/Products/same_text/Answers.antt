use Rattle.std.proofs.Common.{ℕ, true, sym, ap, subst, ◌∙◌}
use Rattle.std.specs.List.{filter, sum_by}
use Rattle.cpe_values.specs.Same.{same_value}
use Rattle.name_index.specs.declared.keys.End.TheVariants as end
use Rattle.name_index.specs.declared.keys.Shape.TheVariants as shape
use Rattle.name_index.specs.Elements.{SameElements}
use Rattle.name_index.specs.Keys.{body_of, in_run}
use Rattle.name_index.specs.Listed.{product_value_at, live, ProductList}
use Rattle.name_index.proofs.Lower.{same_plain}
use Rattle.name_index.proofs.Sums.{tests_agree}
use Rattle.name_index.proofs.products.Products.same_text.Goals as goal

pub returns : goal.returns
returns c =
    let values = c.self.inside.values in
    let asked = c.args.asked.now in
    let is_asked = λ (n : ℕ). in_run end.Front shape.Plain (body_of asked) true (product_value_at values n) in
    subst (λ (vs : ProductList). SameElements (filter (λ n. in_run end.Front shape.Plain (body_of asked) true (product_value_at vs n)) (live vs)) c.of.result) c.self.view_is
    (tests_agree is_asked (λ n. same_value asked (product_value_at values n)) (λ n. same_plain asked (product_value_at values n) c.requires) (live values) c.of.result
    (λ f. c.find_alone.ensures f ∙ ap (sum_by f) (sym c.of.ensures)))
