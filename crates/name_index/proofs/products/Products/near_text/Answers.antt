use Rattle.std.proofs.Common.{◌≡◌, ℕ, Bool, List, sym, ◌∙◌, true, false}
use Rattle.std.specs.List.{filter}
use Rattle.cpe_values.specs.Parts.{Parts}
use Rattle.cpe_values.specs.declared.value.Value.TheVariants.{Text}
use Rattle.cpe_relation.specs.Near.{near}
use Rattle.name_index.specs.declared.keys.End.{End}
use Rattle.name_index.specs.declared.keys.End.TheVariants as end
use Rattle.name_index.specs.declared.keys.Shape.TheVariants as shape
use Rattle.name_index.specs.Elements.{SameElements}
use Rattle.name_index.specs.Keys.{in_run}
use Rattle.name_index.specs.Listed.{ProductList, product_value_at, live}
use Rattle.name_index.proofs.Sums.{tests_agree}
use Rattle.name_index.proofs.Lower.{plain_is, trail_is, lead_is}
use Rattle.name_index.proofs.products.Products.near_text.Goals as goal

-- If a text is near exactly the products of a run, the run has the near products.
near_found : (values : ProductList) (text : Parts) (e : End) (whole : Bool) (found : List ℕ) → ((n : ℕ) → near (Text text) (product_value_at values n) ≡ in_run e shape.Plain text.body whole (product_value_at values n))
    → SameElements (filter (λ n. in_run e shape.Plain text.body whole (product_value_at values n)) (live values)) found → SameElements (filter (λ n. near (Text text) (product_value_at values n)) (live values)) found
near_found values text e whole found is run =
    tests_agree (λ n. near (Text text) (product_value_at values n)) (λ n. in_run e shape.Plain text.body whole (product_value_at values n)) is (live values) found run

pub returns-in-Plain : goal.returns-in-Plain
returns-in-Plain c =
    near_found c.args.self.now c.args.text.now end.Front true c.same_text.result
    (λ n. plain_is c.args.text.now c.requires.lower (sym c.text_shape.ensures ∙ c.in-Plain.is) (product_value_at c.args.self.now n) (c.lawful.ensures.lower n)) (rw c.requires.is at c.same_text.ensures)

pub returns-in-WithTrail : goal.returns-in-WithTrail
returns-in-WithTrail c =
    near_found c.args.self.now c.args.text.now end.Front false c.front_run.result
    (λ n. trail_is c.args.text.now c.requires.lower (sym c.text_shape.ensures ∙ c.in-WithTrail.is) (product_value_at c.args.self.now n) (c.lawful.ensures.lower n)) (rw c.stem.ensures at c.front_run.ensures)

pub returns-in-WithLead : goal.returns-in-WithLead
returns-in-WithLead c =
    near_found c.args.self.now c.args.text.now end.Back false c.end_run.result
    (λ n. lead_is c.args.text.now c.requires.lower (sym c.text_shape.ensures ∙ c.in-WithLead.is) (product_value_at c.args.self.now n) (c.lawful.ensures.lower n)) (rw c.stem-in-WithLead.ensures at c.end_run.ensures)
