-- Laws of covers.
use Rattle.std.specs.Prelude.{◌≡◌, Bool, true, ◌||◌, ◌&&◌, not, List, map}
use Rattle.std.specs.List.{AllByRecursion, list_any}
use Rattle.std.specs.List.Sorted.{IsStrictlySortedBy}
use Rattle.cpe_rows.specs.cpe_name.Eleven.{Values}
use Rattle.cpe_rows.specs.cpe_name.Equal.{same_name}
use Rattle.cpe_rows.specs.cpe_name.Names.{IsName}
use Rattle.cpe_rows.specs.cpe_name.Lower.{lower_name}
use Rattle.cpe_relation.specs.NameRelation.{covers}
use Rattle.cover_lines.specs.Cover.{cover, fs_order, is_covered_by_some}

abbrev pub AreWellFormed : List Values → Type 0
AreWellFormed names = AllByRecursion IsName names

-- this name is one of the names
abbrev pub is_among : List Values → Values → Bool
is_among names n = list_any (same_name n) names

-- the lists have the same names, up to order, repeats and letter case
abbrev pub AreSameNames : List Values → List Values → Type 0
AreSameNames a b = (n : Values) → is_among (map lower_name a) n ≡ is_among (map lower_name b) n

-- The list is sorted. It has exactly the names, in lower case, that no other of the names covers.
pub record IsCover (names cover : List Values) : Type 0 where
  pub rising : IsStrictlySortedBy fs_order cover
  pub members : (n : Values) → is_among cover n ≡ (not (is_covered_by_some (map lower_name names) n) && is_among (map lower_name names) n)

-- the function `cover` gives the one list that is a cover of the names
abbrev pub CoversAreOne : Type 0
CoversAreOne = (names : List Values) → AreWellFormed names → IsCover names (cover names) × ((other : List Values) → IsCover names other → other ≡ cover names)

-- the cover of a cover is the same list
abbrev pub CoversStay : Type 0
CoversStay = (names : List Values) → AreWellFormed names → cover (cover names) ≡ cover names

-- lists of the same names have the same cover
abbrev pub CoversAreOfNames : Type 0
CoversAreOfNames = (a b : List Values) → AreWellFormed a → AreWellFormed b → AreSameNames a b → cover a ≡ cover b

-- each of the names is in the cover, or some name of the cover covers it
abbrev pub NamesAreCovered : Type 0
NamesAreCovered = (names : List Values) (n : Values) → is_among (map lower_name names) n ≡ true → (is_among (cover names) n || list_any (λ m. covers m n) (cover names)) ≡ true

-- some name of the cover covers a name exactly if some of the names does
abbrev pub CoversMeanTheSame : Type 0
CoversMeanTheSame = (names : List Values) (n : Values) → list_any (λ m. covers m n) (cover names) ≡ list_any (λ m. covers m n) names
