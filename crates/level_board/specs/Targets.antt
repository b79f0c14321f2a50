-- Targets by number as contracts see them. A target whose name has a special is known in part: it is open.
use Rattle.std.specs.Prelude.{◌≡◌, ℕ, ◌≤◌, Bool, not, List, [], ◌++◌, Some, count_by}
use Rattle.name_index.specs.cpe_values.declared.value.Value.{Value}
use Rattle.name_index.specs.cpe_values.Lower.{has_specials}
use Rattle.name_index.specs.cpe_name.Eleven.{Values}
use Rattle.name_index.specs.cpe_name.Wildcards.{name_has_specials}
use Rattle.cpe_relation.specs.NameRelation.{covers}
use Rattle.cpe_relation.specs.Maybe.{maybe, values_meet}
use Rattle.name_index.specs.declared.table.NameId.{NameId}
use Rattle.name_index.specs.Table.{Names, Kept, find_kept, kept_at}
use Rattle.name_index.specs.Index.{FitsTable}

-- `plain`: the numbers of the targets whose product has no special. `loose`: the numbers of the targets whose product
-- has a special. Both have the product number with each number, in any order. `opens`: how many targets are open.
-- `spare`: how many targets more can be added without taking memory. `wide`: each product number has to be below this
-- number.
pub record Targets : Type 0 where
  pub plain : List (ℕ × ℕ)
  pub loose : List (ℕ × ℕ)
  pub opens : ℕ
  pub spare : ℕ
  pub wide : ℕ

-- all held numbers
abbrev pub held : Targets → List (ℕ × ℕ)
held t = t.plain ++ t.loose

-- whether the number's name has a special
abbrev pub is_open : Names → ℕ → Bool
is_open names id = name_has_specials (kept_at names id).name

-- whether the product of the number's name has a special
abbrev pub is_loose : Names → ℕ → Bool
is_loose names id = has_specials (kept_at names id).name.product

-- whether the asked product meets the product of the number's name
abbrev pub is_met : Names → Value → NameId → Bool
is_met names asked id = values_meet asked (kept_at names id.0).name.product

-- whether the name may cover the number's name
abbrev pub is_maybe_target : Names → Values → NameId → Bool
is_maybe_target names name id = maybe name (kept_at names id.0).name

-- how many numbers have a name that the given name covers
abbrev pub covered_pairs : Names → Values → List (ℕ × ℕ) → ℕ
covered_pairs names name xs = count_by (λ (x : ℕ × ℕ). covers name (kept_at names x.0).name) xs

abbrev pub maybe_pairs : Names → Values → List (ℕ × ℕ) → ℕ
maybe_pairs names name xs = count_by (λ (x : ℕ × ℕ). maybe name (kept_at names x.0).name) xs

abbrev pub open_count : Names → List (ℕ × ℕ) → ℕ
open_count names xs = count_by (λ (x : ℕ × ℕ). is_open names x.0) xs

-- Each number is live, with the product number that the table has for it. Targets whose product has a special are in a
-- list of their own, and the open targets are counted.
pub record FitsTargets (t : Targets) (names : Names) : Type 0 where
  pub plain : FitsTable t.plain names
  pub loose : FitsTable t.loose names
  pub none_loose : count_by (λ (x : ℕ × ℕ). is_loose names x.0) t.plain ≡ 0
  pub all_loose : count_by (λ (x : ℕ × ℕ). not (is_loose names x.0)) t.loose ≡ 0
  pub opens : t.opens ≡ open_count names (held t)

-- If the number was live, it still is, with the same name and product number.
abbrev pub StaysAt : Names → Names → ℕ → Type 0
StaysAt old new id = (k : Kept) → find_kept old id ≡ Some k → (l : Kept) × (find_kept new id ≡ Some l) × (l.name ≡ k.name) × (l.product ≡ k.product)

-- The same targets are held, and no room is lost.
pub record SameTargets (old new : Targets) : Type 0 where
  pub plain : new.plain ≡ old.plain
  pub loose : new.loose ≡ old.loose
  pub opens : new.opens ≡ old.opens
  pub spare : old.spare ≤ new.spare
  pub wide : old.wide ≤ new.wide

-- No targets are held, so they fit every table.
pub record AreNone (t : Targets) : Type 0 where
  pub plain : t.plain ≡ []
  pub loose : t.loose ≡ []
  pub opens : t.opens ≡ 0
