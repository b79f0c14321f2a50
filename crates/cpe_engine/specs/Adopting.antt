-- Rows whose entries get their deprecations all at once.
use Rattle.std.specs.Prelude.{◌≡◌, ℕ, List, [], None, Option}
use Rattle.std.specs.List.{AllByRecursion}
use Rattle.std.specs.Option.{option_map_or}
use Rattle.cpe_rows.specs.Rows.{Rows}
use Rattle.cpe_rows.specs.Weight.{deprecation_weight}
use Rattle.cpe_rows.specs.declared.entry.Deprecation.{Deprecation}
use Rattle.cpe_rows.specs.declared.entry.Entry.{Entry}
pub use Rattle.verdicts.specs.cpe_dictionary.Given.{each_deprecated}

-- the rows after each entry gets the deprecation at its place in the list, or none; notes are unchanged
abbrev pub with_deprecations : Rows → List (Option Deprecation) → Rows
with_deprecations rows ds = record rows { entries = each_deprecated rows.entries ds }

-- The rows are active entries and nothing else.
pub record IsBare (rows : Rows) : Type 0 where
  pub active : AllByRecursion (λ (e : Entry). e.deprecation ≡ None) rows.entries
  pub items : rows.items ≡ []
  pub statements : rows.statements ≡ []
  pub checks : rows.checks ≡ []

-- the weight of the deprecation, or 0 if there is none
abbrev pub given_weight : Option Deprecation → ℕ
given_weight d = option_map_or deprecation_weight d 0
