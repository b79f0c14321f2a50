-- Deprecations that are meant, one after another.
use Rattle.std.proofs.Common.{◌≡◌, refl, sym, ap, subst, ◌∙◌, ℕ, zero, suc, ◌+◌, ◌<◌, List, [], ◌∷◌, ◌++◌, length, map, take, get_or, Option, Some, None, arith, true}
use Rattle.std.specs.Prelude.{is_none}
use Rattle.std.specs.List.{list_all}
use Rattle.std.proofs.lemmas.List.{take_more, length-map}
use Rattle.std.proofs.lemmas.Bool.{and_parts}
use Rattle.cpe_rows.specs.cpe_name.Eleven.{Values}
use Rattle.cpe_rows.specs.declared.entry.Deprecation.{Deprecation}
use Rattle.cpe_rows.specs.declared.entry.Entry.{Entry}
use Rattle.cpe_engine.specs.Adopting.{each_deprecated}
use Rattle.snapshot_bytes.specs.States.{AreMeantEntries, AreNamed, IsMeantDeprecation}
use Rattle.snapshot_bytes.specs.declared.rows.PlacedDeprecation.{PlacedDeprecation}
use Rattle.snapshot_bytes.specs.declared.rows.PlacedEntry.{PlacedEntry}
use Rattle.snapshot_bytes.proofs.StateLemmas.{deprecation_once, name_at}
use Rattle.engine_snapshot.specs.Meant.{active_placed, AreMeantDeprecations, entry_name_in, undeprecated}
use Rattle.engine_snapshot.proofs.RowLemmas.{AreActive}

-- ---- names

pub name_there : (es : List Entry) (k : ℕ) → name_at (map undeprecated es) k ≡ entry_name_in es k
name_there [] zero = refl
name_there [] (suc k) = refl
name_there (e ∷ es) zero = refl
name_there (e ∷ es) (suc k) = name_there es k

placed_name : (ps : List PlacedEntry) (k : ℕ) → entry_name_in (map active_placed ps) k ≡ name_at ps k
placed_name [] zero = refl
placed_name [] (suc k) = refl
placed_name (p ∷ ps) zero = refl
placed_name (p ∷ ps) (suc k) = placed_name ps k

-- ---- in other rows with the same names

module _ (ps qs : List PlacedEntry) (same : (k : ℕ) → name_at ps k ≡ name_at qs k) where
  named_there : (ks : List ℕ) (ns : List Values) → AreNamed ps ks ns → AreNamed qs ks ns
  named_there [] [] are = tt
  named_there [] (n ∷ ns) are = are
  named_there (k ∷ ks) [] are = are
  named_there (k ∷ ks) (n ∷ ns) are = (sym (same k) ∙ are.0, named_there ks ns are.1)

  deprecation_there : (p : Option PlacedDeprecation) (d : Option Deprecation) → IsMeantDeprecation ps p d → IsMeantDeprecation qs p d
  deprecation_there None None is = tt
  deprecation_there None (Some d) is = is
  deprecation_there (Some p) None is = is
  deprecation_there (Some p) (Some d) is = (is.0, named_there p.successors d.successors is.1)

  all_there : (os : List (Option PlacedDeprecation)) (ds : List (Option Deprecation)) → AreMeantDeprecations ps os ds → AreMeantDeprecations qs os ds
  all_there [] [] are = tt
  all_there [] (d ∷ ds) are = are
  all_there (o ∷ os) [] are = are
  all_there (o ∷ os) (d ∷ ds) are = (deprecation_there o d are.0, all_there os ds are.1)

abbrev pub seen : List PlacedEntry → List PlacedEntry
seen ps = map undeprecated (map active_placed ps)

seen_names : (ps : List PlacedEntry) (k : ℕ) → name_at (seen ps) k ≡ name_at ps k
seen_names ps k = name_there (map active_placed ps) k ∙ placed_name ps k

pub from_seen : (ps : List PlacedEntry) (os : List (Option PlacedDeprecation)) (ds : List (Option Deprecation)) → AreMeantDeprecations (seen ps) os ds → AreMeantDeprecations ps os ds
from_seen ps os ds = all_there (seen ps) ps (seen_names ps) os ds

pub to_seen : (ps : List PlacedEntry) (os : List (Option PlacedDeprecation)) (ds : List (Option Deprecation)) → AreMeantDeprecations ps os ds → AreMeantDeprecations (seen ps) os ds
to_seen ps os ds = all_there ps (seen ps) (λ k. sym (seen_names ps k)) os ds

-- ---- one after another

one_meant : (all : List PlacedEntry) (os : List (Option PlacedDeprecation)) (ds : List (Option Deprecation)) (o : Option PlacedDeprecation) (d : Option Deprecation) → AreMeantDeprecations all os ds
    → IsMeantDeprecation all o d → AreMeantDeprecations all (os ++ o ∷ []) (ds ++ d ∷ [])
one_meant all [] [] o d are is = (is, tt)
one_meant all [] (c ∷ ds) o d are is = absurd are
one_meant all (q ∷ os) [] o d are is = absurd are
one_meant all (q ∷ os) (c ∷ ds) o d are is = (are.0, one_meant all os ds o d are.1 is)

pub next_meant : (all : List PlacedEntry) (os : List (Option PlacedDeprecation)) (i : ℕ) (o : Option PlacedDeprecation) (ds : List (Option Deprecation)) (d : Option Deprecation) → i < length os
    → AreMeantDeprecations all (take i os) ds → IsMeantDeprecation all (get_or os i o) d → AreMeantDeprecations all (take (i + 1) os) (ds ++ d ∷ [])
next_meant all os i o ds d below are is =
    subst (λ qs. AreMeantDeprecations all qs (ds ++ d ∷ [])) (sym (take_more os i o below)) (one_meant all (take i os) ds (get_or os i o) d are is)

pub none_meant : (all : List PlacedEntry) (os : List (Option PlacedDeprecation)) (i : ℕ) (o : Option PlacedDeprecation) (ds : List (Option Deprecation)) → i < length os
    → ((d : Option Deprecation) → IsMeantDeprecation all (get_or os i o) d → ⊥) → AreMeantDeprecations all os ds → ⊥
none_meant all [] i o ds below none are = omega (arith, below)
none_meant all (q ∷ os) i o [] below none are = are
none_meant all (q ∷ os) zero o (d ∷ ds) below none are = none d are.0
none_meant all (q ∷ os) (suc i) o (d ∷ ds) below none are = none_meant all os i o ds (omega (arith, below)) none are.1

-- ---- at most one list is meant

pub meant_once : (es : List PlacedEntry) (os : List (Option PlacedDeprecation)) (ds fs : List (Option Deprecation)) → AreMeantDeprecations es os ds → AreMeantDeprecations es os fs → ds ≡ fs
meant_once es [] [] [] a b = refl
meant_once es [] [] (f ∷ fs) a b = absurd b
meant_once es [] (d ∷ ds) fs a b = absurd a
meant_once es (o ∷ os) [] fs a b = absurd a
meant_once es (o ∷ os) (d ∷ ds) [] a b = absurd b
meant_once es (o ∷ os) (d ∷ ds) (f ∷ fs) a b = λ i. deprecation_once es o d f a.0 b.0 i ∷ meant_once es os ds fs a.1 b.1 i

-- ---- no deprecation at all

abbrev pub nones : List (Option PlacedDeprecation) → List (Option Deprecation)
nones os = map (λ o. None) os

none_is_meant : (es : List PlacedEntry) (o : Option PlacedDeprecation) → is_none o ≡ true → IsMeantDeprecation es o None
none_is_meant es None is = tt
none_is_meant es (Some p) is = absurd cc

pub nones_are_meant : (es : List PlacedEntry) (os : List (Option PlacedDeprecation)) → list_all is_none os ≡ true → AreMeantDeprecations es os (nones os)
nones_are_meant es [] all = tt
nones_are_meant es (o ∷ os) all = let parts = and_parts (is_none o) (list_all is_none os) all in (none_is_meant es o parts.0, nones_are_meant es os parts.1)

pub still_active : (es : List Entry) (os : List (Option PlacedDeprecation)) → AreActive es → each_deprecated es (nones os) ≡ es
still_active [] os active = refl
still_active (e ∷ es) [] active = refl
still_active (e ∷ es) (o ∷ os) active =
    let first : record e { deprecation = None } ≡ e = λ i. record e { deprecation = sym active.0 i } in
    let others = still_active es os active.1 in
    λ i. first i ∷ others i

-- ---- as entries

abbrev pub deprecations_in : List PlacedEntry → List (Option PlacedDeprecation)
deprecations_in ps = map (λ (p : PlacedEntry). p.deprecation) ps

pub entries_meant : (all ps : List PlacedEntry) (ds : List (Option Deprecation)) → AreMeantDeprecations all (deprecations_in ps) ds → AreMeantEntries all ps (each_deprecated (map active_placed ps) ds)
entries_meant all [] [] are = tt
entries_meant all [] (d ∷ ds) are = absurd are
entries_meant all (p ∷ ps) [] are = absurd are
entries_meant all (p ∷ ps) (d ∷ ds) are = (record { name = refl; title = refl; provenance = refl; deprecation = are.0 }, entries_meant all ps ds are.1)

abbrev pub given_in : List Entry → List (Option Deprecation)
given_in es = map (λ (e : Entry). e.deprecation) es

pub deprecations_meant : (all ps : List PlacedEntry) (es : List Entry) → AreMeantEntries all ps es → AreMeantDeprecations all (deprecations_in ps) (given_in es)
deprecations_meant all [] [] are = tt
deprecations_meant all [] (e ∷ es) are = absurd are
deprecations_meant all (p ∷ ps) [] are = absurd are
deprecations_meant all (p ∷ ps) (e ∷ es) are = (are.0.deprecation, deprecations_meant all ps es are.1)

-- the entries that are meant are the active entries after they get their deprecations
pub given_back : (all ps : List PlacedEntry) (es : List Entry) → AreMeantEntries all ps es → each_deprecated (map active_placed ps) (given_in es) ≡ es
given_back all [] [] are = refl
given_back all [] (e ∷ es) are = absurd are
given_back all (p ∷ ps) [] are = absurd are
given_back all (p ∷ ps) (e ∷ es) are =
    let first : record (active_placed p) { deprecation = e.deprecation } ≡ e = λ i. record { name = are.0.name i; title = are.0.title i; provenance = are.0.provenance i; deprecation = e.deprecation } in
    let others = given_back all ps es are.1 in
    λ i. first i ∷ others i

pub active_placed_each : (ps : List PlacedEntry) → AreActive (map active_placed ps)
active_placed_each [] = tt
active_placed_each (p ∷ ps) = (refl, active_placed_each ps)

as_many : (all : List PlacedEntry) (os : List (Option PlacedDeprecation)) (ds : List (Option Deprecation)) → AreMeantDeprecations all os ds → length ds ≡ length os
as_many all [] [] are = refl
as_many all [] (d ∷ ds) are = absurd are
as_many all (o ∷ os) [] are = absurd are
as_many all (o ∷ os) (d ∷ ds) are = ap suc (as_many all os ds are.1)

pub even_meant : (all : List PlacedEntry) (os : List (Option PlacedDeprecation)) (ds : List (Option Deprecation)) (n : ℕ) → AreMeantDeprecations all os ds → length os ≡ n → length ds ≡ n
even_meant all os ds n are many = as_many all os ds are ∙ many

pub even_placed : (ps : List PlacedEntry) → length (deprecations_in ps) ≡ length (map active_placed ps)
even_placed ps = length-map ps (λ (p : PlacedEntry). p.deprecation) ∙ sym (length-map ps active_placed)
