-- Lemmas: one ticket is added to the list of each check of a test.
use Rattle.std.proofs.Common.{◌≡◌, ℕ, Bool, true, false, cond, List, [], ◌∷◌, ◌++◌, refl, sym, ap, ◌∙◌, Vec, Global}
use Rattle.std.specs.Prelude.{None}
use Rattle.cpe_rows.specs.declared.test.CheckKey.{CheckKey}
use Rattle.statement_rows.specs.Askers.{AreAskers, AreAskedBut, askers_at, askers_or_none, asker_list_at}
use Rattle.statement_rows.specs.Readings.{is_asked}
use Rattle.statement_rows.specs.Tickets.{with_last_if}
use Rattle.ticket_list.specs.Tickets.{ends_with, with_last}

module _ (keys : List CheckKey) (old new : List (CheckKey × Vec ℕ Global)) where
  not_none : (t : ℕ) (xs : List ℕ) → xs ++ t ∷ [] ≡ [] → ⊥
  not_none t [] h = cc
  not_none t (x ∷ xs) h = cc

  full : (t : ℕ) (xs : List ℕ) → with_last t xs ≡ [] → ⊥
  full t xs h = go (ends_with t xs) refl h where
    none_last : (ys : List ℕ) → ys ≡ [] → ends_with t ys ≡ true → ⊥
    none_last [] e last = cc
    none_last (y ∷ ys) e last = cc

    go : (b : Bool) → ends_with t xs ≡ b → cond b xs (xs ++ t ∷ []) ≡ [] → ⊥
    go true e h = none_last xs h e
    go false e h = not_none t xs h

  -- the ticket is added
  pub asked_put : (t : ℕ) → ((q : CheckKey) → askers_at new q ≡ with_last_if (is_asked keys q) t (askers_at old q))
      → ((q : CheckKey) → is_asked keys q ≡ false → asker_list_at new q ≡ asker_list_at old q) → AreAskedBut keys old → AreAskers new
  asked_put t entered others h q none = go (is_asked keys q) refl where
    go : (b : Bool) → is_asked keys q ≡ b → asker_list_at new q ≡ None
    go true e = absurd (full t (askers_at old q) (sym (entered q ∙ ap (λ (b : Bool). with_last_if b t (askers_at old q)) e) ∙ none))
    go false e = others q e ∙ h q e (sym (ap askers_or_none (others q e)) ∙ none)
