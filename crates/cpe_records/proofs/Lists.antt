-- Lemmas about the items of an array as a list.
use Rattle.std.proofs.Common.{◌≡◌, List, [], ◌∷◌, Bool, map, refl, ap}
use Rattle.std.specs.List.{list_all}
use Rattle.std.proofs.lemmas.List.Folds.{list_all-map}
use Rattle.serde_json.specs.Data.{Data}
use Rattle.serde_json.specs.View.{items_of, view}
use Rattle.serde_json.specs.declared.value.Value.{Value}
use Rattle.cpe_records.specs.Forms.{list_of_items}

list_of-items_of : (ds : List Data) → list_of_items (items_of ds) ≡ ds
list_of-items_of [] = refl
list_of-items_of (d ∷ ds) = ap (λ es. d ∷ es) (list_of-items_of ds)

pub list_of_view : (vs : List Value) → list_of_items (items_of (map view vs)) ≡ map view vs
list_of_view vs = list_of-items_of (map view vs)

pub all_viewed : (p : Data → Bool) (vs : List Value) → list_all p (map view vs) ≡ list_all (λ v. p (view v)) vs
all_viewed p vs = list_all-map p view vs
