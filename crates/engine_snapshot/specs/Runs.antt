-- The deprecations of entries in their order, if entries without one are only counted.
use Rattle.std.specs.Prelude.{ℕ, List, [], ◌∷◌, ◌++◌, Option, Some, None, replicate}
use Rattle.std.specs.List.{flat_map}
use Rattle.snapshot_bytes.specs.declared.rows.PlacedDeprecation.{PlacedDeprecation}
use Rattle.engine_snapshot.specs.declared.runs.EntryRun.{EntryRun}

-- the entries of a run: the counted entries without a deprecation, and one entry with this deprecation
abbrev pub run_of : EntryRun → List (Option PlacedDeprecation)
run_of r = replicate r.active None ++ Some r.deprecation ∷ []

-- the entries of all runs, and then the counted entries without a deprecation
abbrev pub deprecations_in : List EntryRun → ℕ → List (Option PlacedDeprecation)
deprecations_in runs active = flat_map run_of runs ++ replicate active None
