-- Entries as active ones, before they get their deprecations.
use Rattle.std.proofs.Common.{◌≡◌, ◌≤◌, ◌||◌, ◌&&◌, Bool, not, List, [], ◌∷◌, length, map, Option, None, refl, sym, ap, ◌∙◌, arith}
use Rattle.std.specs.List.{AllByRecursion, list_any, list_all}
use Rattle.std.specs.Option.{option_map_or}
use Rattle.cpe_rows.specs.cpe_name.Eleven.{Values}
use Rattle.cpe_rows.specs.Lawful.{are_different, IsLawful, is_entry_name}
use Rattle.cpe_rows.specs.Names.{is_same}
use Rattle.cpe_rows.specs.Weight.{total_weight, deprecation_weight, entry_weight}
use Rattle.cpe_rows.specs.declared.entry.Deprecation.{Deprecation}
use Rattle.cpe_rows.specs.declared.entry.Entry.{Entry}
use Rattle.cpe_rows.specs.declared.fault.Which.TheVariants as limit
use Rattle.cpe_rows.proofs.Limited.{AreFewer, still_within}
use Rattle.cpe_engine.specs.Adopting.{each_deprecated, with_deprecations}
use Rattle.engine_snapshot.specs.Begun.{AreFine, entries_alone}

abbrev pub AreActive : List Entry → Type 0
AreActive es = AllByRecursion (λ (e : Entry). e.deprecation ≡ None) es

-- ---- if entries get deprecations, names are unchanged and no weight falls

each_name : (p : Values → Bool) (es : List Entry) (ds : List (Option Deprecation)) → list_all (λ (e : Entry). p e.name) (each_deprecated es ds) ≡ list_all (λ (e : Entry). p e.name) es
each_name p [] ds = refl
each_name p (e ∷ es) [] = refl
each_name p (e ∷ es) (d ∷ ds) = ap (λ b. p e.name && b) (each_name p es ds)

each_any : (p : Values → Bool) (es : List Entry) (ds : List (Option Deprecation)) → list_any (λ (e : Entry). p e.name) (each_deprecated es ds) ≡ list_any (λ (e : Entry). p e.name) es
each_any p [] ds = refl
each_any p (e ∷ es) [] = refl
each_any p (e ∷ es) (d ∷ ds) = ap (λ b. p e.name || b) (each_any p es ds)

each_different : (same : Values → Values → Bool) (es : List Entry) (ds : List (Option Deprecation)) → are_different (λ (a b : Entry). same a.name b.name) (each_deprecated es ds)
    ≡ are_different (λ (a b : Entry). same a.name b.name) es
each_different same [] ds = refl
each_different same (e ∷ es) [] = refl
each_different same (e ∷ es) (d ∷ ds) = λ i. not (each_any (same e.name) es ds i) && each_different same es ds i

each_length : (es : List Entry) (ds : List (Option Deprecation)) → length (each_deprecated es ds) ≡ length es
each_length [] ds = refl
each_length (e ∷ es) [] = refl
each_length (e ∷ es) (d ∷ ds) = omega (arith, each_length es ds)

-- an active entry weighs no more than the same entry with a deprecation
lighter : (e : Entry) (d : Option Deprecation) → e.deprecation ≡ None → entry_weight e ≤ entry_weight (record e { deprecation = d })
lighter e d active = let none : option_map_or deprecation_weight e.deprecation 0 ≡ 0 = ap (λ o. option_map_or deprecation_weight o 0) active in omega (arith, none)

each_weight : (es : List Entry) (ds : List (Option Deprecation)) → AreActive es → total_weight (map entry_weight es) ≤ total_weight (map entry_weight (each_deprecated es ds))
each_weight [] ds active = omega arith
each_weight (e ∷ es) [] active = omega arith
each_weight (e ∷ es) (d ∷ ds) active = omega (arith, lighter e d active.0, each_weight es ds active.1)

module _ (es : List Entry) (ds : List (Option Deprecation)) (active : AreActive es) where
  fewer : AreFewer (with_deprecations (entries_alone es) ds) (entries_alone es)
  fewer limit.Entries = omega (arith, each_length es ds)
  fewer limit.Items = omega arith
  fewer limit.Statements = omega arith
  fewer limit.Facts = omega arith
  fewer limit.Checks = omega arith
  fewer limit.Weight = omega (arith, each_weight es ds active)

  pub fine : IsLawful (with_deprecations (entries_alone es) ds) → AreFine (entries_alone es)
  fine h = record {
    names = sym (each_name is_entry_name es ds) ∙ h.dictionary.names;
    names_differ = sym (each_different is_same es ds) ∙ h.dictionary.names_differ;
    within = still_within (with_deprecations (entries_alone es) ds) (entries_alone es) fewer h.within;
  }
