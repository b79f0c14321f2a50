-- Lemmas: the truth of a check after a result was set or removed.
use Rattle.std.proofs.Common.{◌≡◌, List, [], ◌∷◌, Bool, true, false, not, cond, Option, Some, None, refl, ap, sym, ◌∙◌}
use Rattle.std.specs.Prelude.{find}
use Rattle.std.specs.Option.{option_map_or}
use Rattle.std.specs.List.{list_any}
use Rattle.std.proofs.lemmas.Bool.{and_parts, or_parts, not-true}
use Rattle.cpe_rows.specs.Rows.{has_key, same_key}
use Rattle.cpe_rows.specs.After.{without_first, with_check}
use Rattle.cpe_rows.specs.Lawful.{are_different}
use Rattle.cpe_rows.specs.declared.test.CheckKey.{CheckKey}
use Rattle.cpe_rows.specs.declared.truth.Truth.{Truth}
use Rattle.cpe_rows.specs.declared.truth.Truth.TheVariants.{Unknown}
use Rattle.cpe_rows.proofs.KeyTests.{key_is, other_key}

abbrev Result : Type 0
Result = CheckKey × Truth

abbrev truth_of : Option Result → Truth
truth_of o = option_map_or (λ c. c.1) o Unknown

abbrev kept : List Result → CheckKey → Truth
kept cs key = truth_of (find (has_key key) cs)

none_found : (p : Result → Bool) (cs : List Result) → list_any p cs ≡ false → find p cs ≡ None
none_found p [] h = refl
none_found p (c ∷ cs) h = let parts = or_parts (p c) (list_any p cs) h in (λ i. cond (parts.0 i) (Some c) (find p cs)) ∙ none_found p cs parts.1

module _ (k key : CheckKey) where
  not_this : (c : Result) → has_key k c ≡ false → has_key key c ≡ true → same_key key k ≡ false
  not_this c e q = other_key k key (ap (same_key k) (key_is key c.0 q) ∙ e)

  same_test : (c : Result) → has_key k c ≡ true → has_key key c ≡ same_key key k
  same_test c e = ap (same_key key) (sym (key_is k c.0 e))

  -- The law is true of a list with a result of another key in front, if it is true of the list without this result.
  other_first : (t : Truth) (c : Result) (cs ds : List Result) → has_key k c ≡ false → kept ds key ≡ cond (same_key key k) t (kept cs key)
      → kept (c ∷ ds) key ≡ cond (same_key key k) t (kept (c ∷ cs) key)
  other_first t c cs ds e later = go (has_key key c) refl where
    go : (b : Bool) → has_key key c ≡ b
        → truth_of (cond b (Some c) (find (has_key key) ds)) ≡ cond (same_key key k) t (truth_of (cond b (Some c) (find (has_key key) cs)))
    go true q = ap (λ d. cond d t c.1) (sym (not_this c e q))
    go false q = later

  pub set_truth : (t : Truth) (cs : List Result) → kept (with_check k t cs) key ≡ cond (same_key key k) t (kept cs key)
  set_truth t [] = go (same_key key k) where
    go : (b : Bool) → truth_of (cond b (Some (k, t)) None) ≡ cond b t Unknown
    go true = refl
    go false = refl
  set_truth t (c ∷ cs) = go (has_key k c) refl (set_truth t cs) where
    placed : (b : Bool) → truth_of (cond b (Some (c.0, t)) (find (has_key key) cs)) ≡ cond b t (truth_of (cond b (Some c) (find (has_key key) cs)))
    placed true = refl
    placed false = refl

    go : (b : Bool) → has_key k c ≡ b → kept (with_check k t cs) key ≡ cond (same_key key k) t (kept cs key)
        → kept (cond b ((c.0, t) ∷ cs) (c ∷ with_check k t cs)) key ≡ cond (same_key key k) t (kept (c ∷ cs) key)
    go true e later = placed (has_key key c) ∙ ap (λ d. cond d t (kept (c ∷ cs) key)) (same_test c e)
    go false e later = other_first t c cs (with_check k t cs) e later

  pub dropped_truth : (cs : List Result) → are_different (λ c. has_key c.0) cs ≡ true
      → kept (without_first (has_key k) cs) key ≡ cond (same_key key k) Unknown (kept cs key)
  dropped_truth [] h = go (same_key key k) where
    go : (b : Bool) → Unknown ≡ cond b Unknown Unknown
    go true = refl
    go false = refl
  dropped_truth (c ∷ cs) h =
      let parts = and_parts (not (list_any (has_key c.0) cs)) (are_different (λ c. has_key c.0) cs) h in
      go (has_key k c) refl (not-true (list_any (has_key c.0) cs) parts.0) (dropped_truth cs parts.1) where
        gone : list_any (has_key c.0) cs ≡ false → (b : Bool) → has_key key c ≡ b
            → kept cs key ≡ cond b Unknown (truth_of (cond b (Some c) (find (has_key key) cs)))
        gone new true q = ap truth_of (none_found (has_key key) cs (ap (λ j. list_any (has_key j) cs) (key_is key c.0 q) ∙ new))
        gone new false q = refl

        go : (b : Bool) → has_key k c ≡ b → list_any (has_key c.0) cs ≡ false → kept (without_first (has_key k) cs) key ≡ cond (same_key key k) Unknown (kept cs key)
            → kept (cond b cs (c ∷ without_first (has_key k) cs)) key ≡ cond (same_key key k) Unknown (kept (c ∷ cs) key)
        go true e new later = gone new (has_key key c) refl ∙ ap (λ d. cond d Unknown (kept (c ∷ cs) key)) (same_test c e)
        go false e new later = other_first Unknown c cs (without_first (has_key k) cs) e later
