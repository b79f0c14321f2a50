-- Lemmas: which products a walk visits.
use Rattle.std.proofs.Common.{◌≡◌, ℕ, Bool, true, false, cond, length, List, [], ◌∷◌, ◌++◌, map, Option, refl, sym, ap, ◌∙◌}
use Rattle.std.specs.List.{filter, flat_map, sum_by}
use Rattle.cpe_values.specs.declared.value.Value.{Value}
use Rattle.cpe_relation.proofs.NearLaws.{above_near}
use Rattle.list_pool.specs.Pool.{Row as CellRow}
use Rattle.list_pool.specs.declared.ListName.{ListName}
use Rattle.name_index.specs.declared.products.Side.{Side}
use Rattle.name_index.specs.declared.products.Side.TheVariants as side
use Rattle.name_index.specs.Elements.{SameElements}
use Rattle.name_index.specs.Listed.{ProductList, product_value_at, live}
use Rattle.name_index.specs.Near.{near_on, covers_product}
use Rattle.name_index.proofs.Sums.{filter_all, filter_stronger}
use Rattle.name_index.specs.declared.wanted.WantedProducts.{WantedProducts}
use Rattle.name_index.specs.Wanted.{is_wanted_name, wanted_of}
use Rattle.name_index.specs.Index.{cell_values, posting, last_values, walk_left, name_id}

-- If all near products are wanted, the walk visits all near products.
pub near_walked : (asked : Value) (products : ProductList) (walk : List ℕ) (s : Side)
    → SameElements (filter (λ n. near_on s asked (product_value_at products n)) (live products)) walk → SameElements (filter (λ n. near_on s asked (product_value_at products n)) (live products)) (filter (λ n. true) walk)
near_walked asked products walk s same f = same f ∙ sym (ap (sum_by f) (filter_all (λ n. true) (λ n. refl) walk))

-- If the covered products are wanted, the walk visits all products that the asked product covers.
pub covered_walked : (asked : Value) (products : ProductList) (walk : List ℕ)
    → SameElements (filter (λ n. near_on side.Source asked (product_value_at products n)) (live products)) walk → SameElements (filter (λ n. covers_product asked (product_value_at products n)) (live products)) (filter (λ n. covers_product asked (product_value_at products n)) walk)
covered_walked asked products walk same =
    filter_stronger (λ n. covers_product asked (product_value_at products n)) (λ n. near_on side.Source asked (product_value_at products n)) (λ n h. above_near asked (product_value_at products n) h) (live products) walk same

-- ---- a step of the walk

pub none_of : (xs : List CellRow) → length xs ≡ 0 → cell_values xs ≡ []
none_of [] e = refl
none_of (x ∷ xs) e = absurd cc

module _ (lists : List (Option (List CellRow))) (heads : List ListName) (w : WantedProducts) where
  -- A product is skipped if it isn't wanted, or if it has no held names.
  pub passed_over : (name left p : ℕ) (ps rest : List ℕ) → ps ≡ p ∷ rest → (is_wanted_name w p ≡ true → posting lists heads p ≡ []) → walk_left lists heads name left (wanted_of w ps) ≡ walk_left lists heads name left (wanted_of w rest)
  passed_over name left p ps rest e none = ap (λ (qs : List ℕ). walk_left lists heads name left (wanted_of w qs)) e ∙ by (is_wanted_name w p) none
    where
      by : (b : Bool) → (b ≡ true → posting lists heads p ≡ []) → walk_left lists heads name left (cond b (p ∷ wanted_of w rest) (wanted_of w rest)) ≡ walk_left lists heads name left (wanted_of w rest)
      by true nothing = ap (λ (xs : List ℕ). map name_id (last_values lists name left ++ (xs ++ flat_map (posting lists heads) (wanted_of w rest)))) (nothing refl)
      by false nothing = refl

  -- If the first product is wanted, the walk visits it next.
  pub next_is_added : (p : ℕ) (ps rest : List ℕ) → ps ≡ p ∷ rest → is_wanted_name w p ≡ true → wanted_of w ps ≡ p ∷ wanted_of w rest
  next_is_added p ps rest e wanted = ap (wanted_of w) e ∙ ap (λ (b : Bool). cond b (p ∷ wanted_of w rest) (wanted_of w rest)) wanted
