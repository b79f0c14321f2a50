-- The deprecations of entries in their order, if entries without one are only counted.
use Rattle.std.proofs.Common.{◌≡◌, ℕ, zero, suc, true, List, [], ◌∷◌, length, None, replicate, refl, arith}
use Rattle.std.proofs.lemmas.Bool.Decides.{nat_tests}
use Rattle.std.specs.Prelude.{is_none, nat_eq}
use Rattle.std.specs.List.{list_all}
use Rattle.snapshot_bytes.specs.declared.rows.PlacedDeprecation.{PlacedDeprecation}
use Rattle.engine_snapshot.specs.declared.runs.EntryRun.{EntryRun}
use Rattle.engine_snapshot.specs.Runs.{deprecations_in}

none_each : (n : ℕ) → list_all (is_none {T = PlacedDeprecation}) (replicate n None) ≡ true
none_each zero = refl
none_each (suc n) = none_each n

zero_is : (n : ℕ) → nat_eq n 0 ≡ true → n ≡ 0
zero_is n h = grind (arith, nat_tests)

-- without a run, no entry has a deprecation
pub none_given : (runs : List EntryRun) (active : ℕ) → nat_eq (length runs) 0 ≡ true → list_all (is_none {T = PlacedDeprecation}) (deprecations_in runs active) ≡ true
none_given [] active none = none_each active
none_given (r ∷ rs) active none = absurd (omega (arith, zero_is (length (r ∷ rs)) none))
