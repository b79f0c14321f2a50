-- Only one of the five products is near to `p`.
use Rattle.std.proofs.Common.{◌≡◌, ◌∷◌, [], ℕ, Bool, List, if◌then◌else◌, count_by, ap, ◌∙◌, arith}
use Rattle.cpe_rows.specs.cpe_values.declared.value.Value.{Value}
use Rattle.cpe_relation.specs.Near.{near}
use Rattle.name_index.specs.declared.products.Side.TheVariants as side
use Rattle.name_index.specs.Table.{kept_at}
use Rattle.name_index.specs.Index.{ids, is_near}
use Rattle.library_tests.specs.Tried.{tried_value}
use Rattle.library_tests.proofs.index.look_at_one.Goals as goal

abbrev one_if : Bool → ℕ
one_if b = if b then 1 else 0

pub returns : goal.returns
returns g c =
    let names = c.args.table.now in
    let asked = c.args.name.now.product in
    let at = λ (k : ℕ) (v : Value) (h : (kept_at names k).name.product ≡ v). ap (λ (w : Value). one_if (near w (kept_at names k).name.product)) c.requires.asked ∙ ap (λ (w : Value). one_if (near (tried_value (112 ∷ [])) w)) h in
    omega (
      arith,
      c.covered_by.ensures.steps.1,
      ap (λ (held : List (ℕ × ℕ)). count_by (is_near names side.Source asked) (ids held)) c.requires.held,
      at 0 (tried_value (112 ∷ [])) c.requires.first,
      at 1 (tried_value (113 ∷ 48 ∷ [])) c.requires.second,
      at 2 (tried_value (113 ∷ 49 ∷ [])) c.requires.third,
      at 3 (tried_value (113 ∷ 50 ∷ [])) c.requires.fourth,
      at 4 (tried_value (113 ∷ 51 ∷ [])) c.requires.fifth,
    )
