-- The truth of a check, and the number of facts, as an inventory keeps them.
use Rattle.std.specs.Prelude.{◌≡◌, ◌≤◌, ℕ, List, find}
use Rattle.std.specs.Option.{option_map_or}
use Rattle.cpe_rows.specs.Rows.{has_key}
use Rattle.cpe_rows.specs.Limits.{most}
use Rattle.cpe_rows.specs.FactNames.{number_of_facts}
use Rattle.cpe_rows.specs.declared.statement.Statement.{Statement}
use Rattle.cpe_rows.specs.declared.test.CheckKey.{CheckKey}
use Rattle.cpe_rows.specs.declared.truth.Truth.{Truth}
use Rattle.cpe_rows.specs.declared.fault.Which.TheVariants.{Facts}
use Rattle.cpe_rows.specs.declared.truth.Truth.TheVariants.{Unknown}

-- the kept result, or UNKNOWN if there is none
abbrev pub kept_truth : List (CheckKey × Truth) → CheckKey → Truth
kept_truth checks key = option_map_or (λ c. c.1) (find (has_key key) checks) Unknown

-- the number is the number of facts of the statements, and within its limit
abbrev pub IsCounted : ℕ → List Statement → Type 0
IsCounted n statements = (n ≡ number_of_facts statements) × (n ≤ most Facts)
