use Rattle.std.proofs.Common.{[], ap, ◌∙◌, false}
use Rattle.std.specs.List.{sum_by}
use Rattle.cpe_values.specs.declared.value.Value.{Value}
use Rattle.cpe_relation.specs.Near.{near}
use Rattle.name_index.specs.declared.keys.End.TheVariants as end
use Rattle.name_index.specs.declared.keys.Shape.TheVariants as shape
use Rattle.name_index.specs.Keys.{in_run}
use Rattle.name_index.specs.Listed.{product_value_at, live}
use Rattle.name_index.proofs.Sums.{tests_agree, filter_all}
use Rattle.name_index.proofs.Lower.{na_is}
use Rattle.name_index.proofs.products.Products.near_targets.Goals as goal

pub returns-in-Any : goal.returns-in-Any
returns-in-Any c f =
    let values = c.args.self.now in
    ap (sum_by f) (filter_all (λ n. near c.args.asked.now (product_value_at values n)) (λ n. ap (λ (v : Value). near v (product_value_at values n)) c.in-Any.is) (live values)) ∙ c.all.ensures f

pub returns-in-Na : goal.returns-in-Na
returns-in-Na c =
    let values = c.args.self.now in
    tests_agree (λ n. near c.args.asked.now (product_value_at values n)) (λ n. in_run end.Front shape.Na [] false (product_value_at values n))
    (λ n. ap (λ (v : Value). near v (product_value_at values n)) c.in-Na.is ∙ na_is (product_value_at values n)) (live values) c.front_run.result c.front_run.ensures
