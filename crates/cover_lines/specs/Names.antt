-- The names as they are gathered, and the results of the calls.
use Rattle.std.specs.Prelude.{◌≡◌, ◌≤◌, ℕ, List, [], ◌∷◌, ◌++◌, length, nat_lt, if◌then◌else◌, Ok, Err}
use Rattle.std.specs.List.{AllByRecursion, sum_by}
use Rattle.std.specs.declared.option.Option.{Option}
use Rattle.std.specs.declared.option.Option.TheVariants.{Some, None}
use Rattle.std.specs.declared.result.Result.{Result}
use Rattle.cpe_rows.specs.cpe_name.Eleven.{Values}
use Rattle.cpe_rows.specs.cpe_name.Lower.{IsLower}
use Rattle.cpe_rows.specs.Names.{has_wildcards}
use Rattle.cpe_rows.specs.Weight.{name_weight}
use Rattle.names_in_order.specs.Places.{near_count}
use Rattle.cover_lines.specs.Laws.{AreWellFormed, is_among}
use Rattle.cover_lines.specs.declared.fault.NamesWhich.{NamesWhich}
use Rattle.cover_lines.specs.declared.fault.NamesWhich.TheVariants as which
use Rattle.cover_lines.specs.declared.fault.NamesFault.{NamesFault}
use Rattle.cover_lines.specs.declared.fault.NamesFault.TheVariants.{Full, Memory}
use Rattle.cpe_rows.specs.declared.limits.TheConstants.{MOST_WEIGHT}
use Rattle.cover_lines.specs.declared.limits.TheConstants.{MOST_NAMES}

-- the weight of the names: 32 for each name, and 1 for each byte of its formatted string
abbrev pub cover_weight : List Values → ℕ
cover_weight names = sum_by name_weight names

-- the names with this name at the end, unless it is one of them
abbrev pub with_cover_name : List Values → Values → List Values
with_cover_name names n = if is_among names n then names else names ++ n ∷ []

-- the first limit that a list of this length and this weight exceeds
abbrev pub full_cover_by : ℕ → ℕ → Option NamesWhich
full_cover_by count heavy = if nat_lt MOST_NAMES count then Some which.Names else (if nat_lt MOST_WEIGHT heavy then Some which.Weight else None)

abbrev pub fault_of : List Values → Option NamesWhich
fault_of names = full_cover_by (length names) (cover_weight names)

-- the names and the result after a name is added; if there is a fault, the names are unchanged
abbrev pub AddsToCover : List Values → List Values → Values → Result (Unit {0}) NamesFault → Type 0
AddsToCover old new n (Ok done) = (new ≡ with_cover_name old n) × (fault_of (with_cover_name old n) ≡ None)
AddsToCover old new n (Err (Full w)) = (new ≡ old) × (fault_of (with_cover_name old n) ≡ Some w)
AddsToCover old new n (Err Memory) = new ≡ old

-- the sum over all names: for each name, the number of names to whose product its own product is near
abbrev pub cover_looks : List Values → ℕ
cover_looks names = sum_by (λ n. near_count n names) names

-- the number of names to whose product the product of this name is near, or 0 if this name has no special
abbrev pub pattern_looks : List Values → Values → ℕ
pattern_looks names n = if has_wildcards n then near_count n names else 0

abbrev pub looks_of_patterns : List Values → ℕ
looks_of_patterns names = sum_by (pattern_looks names) names

-- The gathered names are well-formed and in lower case, and within their limits. The kept number is their weight.
pub record AreGathered (names : List Values) (heavy : ℕ) : Type 0 where
  pub lower : AllByRecursion IsLower names
  pub named : AreWellFormed names
  pub few : length names ≤ MOST_NAMES
  pub weighs : heavy ≡ cover_weight names
  pub light : heavy ≤ MOST_WEIGHT
