-- Advisories as they are kept: a map from the id of an advisory to all that it has besides the id.
use Rattle.std.specs.Prelude.{◌≡◌, ◌≤◌, ℕ, List, map}
use Rattle.std.specs.List.{AllByRecursion}
use Rattle.cpe_rows.specs.cpe_name.Eleven.{Values}
use Rattle.cpe_rows.specs.cpe_name.Lower.{IsLower}
use Rattle.advise_ranges.specs.Rows.{AdviceRows}
use Rattle.advise_ranges.specs.Weight.{advice_weight}
use Rattle.advise_ranges.specs.Step.{most_advice}
use Rattle.advise_ranges.specs.declared.advisory.Advisory.{Advisory}
use Rattle.advise_ranges.specs.declared.advised.Terms.{Terms}
use Rattle.advise_ranges.specs.declared.edit.AdviceWhich.TheVariants as limit

abbrev pub advisory_from : (List ℕ × Terms) → Advisory
advisory_from e = record { id = e.0; name = e.1.name; start = e.1.start; end = e.1.end }

abbrev pub advisories_in : List (List ℕ × Terms) → List Advisory
advisories_in es = map advisory_from es

-- each name is in lower case
abbrev pub AreLower : List (List ℕ × Terms) → Type 0
AreLower = AllByRecursion (λ e. IsLower e.1.name)

abbrev pub advice_rows_in : List Values → List Advisory → AdviceRows
advice_rows_in items advisories = record { items = items; advisories = advisories }

-- The number is the weight of the rows, and at most the limit.
pub record IsWeight (number : ℕ) (rows : AdviceRows) : Type 0 where
  pub weighs : number ≡ advice_weight rows
  pub within : number ≤ most_advice limit.Weight
