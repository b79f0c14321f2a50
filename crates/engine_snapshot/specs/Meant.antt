-- The deprecations that are meant by places: a place represents the entry at this place in the list.
use Rattle.std.specs.Prelude.{◌≡◌, ℕ, List, [], ◌∷◌, Option, None, map, slice_get}
use Rattle.std.specs.Option.{option_map}
use Rattle.cpe_rows.specs.cpe_name.Eleven.{Values}
use Rattle.cpe_rows.specs.Rows.{Rows}
use Rattle.cpe_rows.specs.declared.entry.Deprecation.{Deprecation}
use Rattle.cpe_rows.specs.declared.entry.Entry.{Entry}
use Rattle.cpe_engine.specs.Adopting.{with_deprecations}
use Rattle.snapshot_bytes.specs.States.{IsMeantDeprecation}
use Rattle.snapshot_bytes.specs.declared.rows.PlacedDeprecation.{PlacedDeprecation}
use Rattle.snapshot_bytes.specs.declared.rows.PlacedEntry.{PlacedEntry}

-- the entry as an active one
abbrev pub active_placed : PlacedEntry → Entry
active_placed p = record { name = p.name; title = p.title; provenance = p.provenance; deprecation = None }

-- the entry without its deprecation, in the form with places
abbrev pub undeprecated : Entry → PlacedEntry
undeprecated e = record { name = e.name; title = e.title; provenance = e.provenance; deprecation = None }

-- the name of the entry at this place, if there is one
abbrev pub entry_name_in : List Entry → ℕ → Option Values
entry_name_in entries k = option_map (λ e. e.name) (slice_get entries k)

-- each deprecation with names is meant by the deprecation with places, one by one; a place is a place in the list of all entries
abbrev pub AreMeantDeprecations : List PlacedEntry → List (Option PlacedDeprecation) → List (Option Deprecation) → Type 0
AreMeantDeprecations entries [] [] = Unit {0}
AreMeantDeprecations entries [] (d ∷ ds) = ⊥
AreMeantDeprecations entries (p ∷ ps) [] = ⊥
AreMeantDeprecations entries (p ∷ ps) (d ∷ ds) = IsMeantDeprecation entries p d × AreMeantDeprecations entries ps ds

-- The new rows are the old rows, in which each entry gets the deprecation that is meant for it, or none.
pub record AreGiven (old : Rows) (placed : List (Option PlacedDeprecation)) (new : Rows) : Type 0 where
  pub deprecations : List (Option Deprecation)
  pub are_meant : AreMeantDeprecations (map undeprecated old.entries) placed deprecations
  pub are_given : new ≡ with_deprecations old deprecations
