-- Lemmas: the names at places, one after the other.
use Rattle.std.proofs.Common.{◌≡◌, refl, sym, ◌∙◌, subst, ℕ, zero, suc, ◌+◌, ◌<◌, ◌≤◌, List, [], ◌∷◌, ◌++◌, length, take, get_or, Option, Some, None, arith}
use Rattle.std.proofs.lemmas.List.{take_more}
use Rattle.cpe_rows.specs.cpe_name.Eleven.{Values}
use Rattle.snapshot_bytes.specs.declared.rows.PlacedEntry.{PlacedEntry}
use Rattle.snapshot_bytes.specs.States.{AreNamed}
use Rattle.snapshot_bytes.proofs.StateLemmas.{name_at}

one_named : (es : List PlacedEntry) (ks : List ℕ) (ns : List Values) (k : ℕ) (n : Values) → AreNamed es ks ns → name_at es k ≡ Some n → AreNamed es (ks ++ k ∷ []) (ns ++ n ∷ [])
one_named es [] [] k n are at = (at, tt)
one_named es [] (m ∷ ms) k n are at = absurd are
one_named es (j ∷ ks) [] k n are at = absurd are
one_named es (j ∷ ks) (m ∷ ms) k n are at = (are.0, one_named es ks ms k n are.1 at)

pub next_named : (es : List PlacedEntry) (places : List ℕ) (i d : ℕ) (ns : List Values) (n : Values) → i < length places → AreNamed es (take i places) ns
    → name_at es (get_or places i d) ≡ Some n → AreNamed es (take (i + 1) places) (ns ++ n ∷ [])
next_named es places i d ns n below are at =
    subst (λ ks. AreNamed es ks (ns ++ n ∷ [])) (sym (take_more places i d below)) (one_named es (take i places) ns (get_or places i d) n are at)

nothing : (n : Values) → ◌≡◌ {A = Option Values} None (Some n) → ⊥
nothing n e = cc

pub none_named : (es : List PlacedEntry) (places : List ℕ) (i d : ℕ) (ns : List Values) → i < length places → name_at es (get_or places i d) ≡ None → AreNamed es places ns → ⊥
none_named es [] i d ns below at are = omega (arith, below)
none_named es (k ∷ places) i d [] below at are = are
none_named es (k ∷ places) zero d (n ∷ ns) below at are = nothing n (sym at ∙ are.0)
none_named es (k ∷ places) (suc i) d (n ∷ ns) below at are = none_named es places i d ns (omega (arith, below)) at are.1

pub name_found : (es : List PlacedEntry) (k : ℕ) (d : PlacedEntry) → k < length es → name_at es k ≡ Some ((get_or es k d).name)
name_found [] k d below = absurd (omega (arith, below))
name_found (e ∷ es) zero d below = refl
name_found (e ∷ es) (suc k) d below = name_found es k d (omega (arith, below))

pub name_past : (es : List PlacedEntry) (k : ℕ) → length es ≤ k → name_at es k ≡ None
name_past [] zero past = refl
name_past [] (suc k) past = refl
name_past (e ∷ es) zero past = absurd (omega (arith, past))
name_past (e ∷ es) (suc k) past = name_past es k (omega (arith, past))
