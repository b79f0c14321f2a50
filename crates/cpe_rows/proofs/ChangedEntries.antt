-- Lemmas about entries of which one is changed.
use Rattle.std.proofs.Common.{◌≡◌, ◌||◌, ◌&&◌, ◌⊎◌, List, [], ◌∷◌, Bool, true, false, not, cond, refl, ap, sym, ◌∙◌, inl, inr}
use Rattle.std.specs.List.{list_any, list_all}
use Rattle.std.proofs.lemmas.Bool.{and_from, and_parts, not-true}
use Rattle.cpe_name.specs.Eleven.{Values}
use Rattle.cpe_rows.specs.Names.{is_same}
use Rattle.cpe_rows.specs.Rows.{is_named}
use Rattle.cpe_rows.specs.Reach.{Among}
use Rattle.cpe_rows.specs.After.{changed}
use Rattle.cpe_rows.specs.Lawful.{are_different}
use Rattle.cpe_rows.specs.declared.entry.Entry.{Entry}
use Rattle.cpe_rows.proofs.Lists.{not_element}
use Rattle.cpe_rows.proofs.NameTests.{same_is}

-- No two entries have the same name.
abbrev pub AreNamed : List Entry → Type 0
AreNamed es = are_different (λ e. is_named e.name) es ≡ true

module _ (f : Entry → Entry) (n : Values) where
  -- Tests that have the same result for the changed entry as before.
  module _ (p : Entry → Bool) (same : (e : Entry) → p (f e) ≡ p e) where
    pub same_any_changed : (es : List Entry) → list_any p (changed f n es) ≡ list_any p es
    same_any_changed [] = refl
    same_any_changed (e ∷ es) = go (is_named n e) (same_any_changed es) where
      go : (b : Bool) → list_any p (changed f n es) ≡ list_any p es
          → list_any p (cond b (f e ∷ es) (e ∷ changed f n es)) ≡ (p e || list_any p es)
      go true later = ap (λ b. b || list_any p es) (same e)
      go false later = ap (λ b. p e || b) later

    pub same_all_changed : (es : List Entry) → list_all p (changed f n es) ≡ list_all p es
    same_all_changed [] = refl
    same_all_changed (e ∷ es) = go (is_named n e) (same_all_changed es) where
      go : (b : Bool) → list_all p (changed f n es) ≡ list_all p es
          → list_all p (cond b (f e ∷ es) (e ∷ changed f n es)) ≡ (p e && list_all p es)
      go true later = ap (λ b. b && list_all p es) (same e)
      go false later = ap (λ b. p e && b) later

  -- If the entries pass a test, and each changed entry does, then all entries pass after the change.
  pub all_changed : (p : Entry → Bool) → ((e : Entry) → p (f e) ≡ true) → (es : List Entry) → list_all p es ≡ true
      → list_all p (changed f n es) ≡ true
  all_changed p now [] h = refl
  all_changed p now (e ∷ es) h = let parts = and_parts (p e) (list_all p es) h in
      go (is_named n e) parts.0 parts.1 (all_changed p now es parts.1) where
        go : (b : Bool) → p e ≡ true → list_all p es ≡ true → list_all p (changed f n es) ≡ true
            → list_all p (cond b (f e ∷ es) (e ∷ changed f n es)) ≡ true
        go true one all later = and_from (p (f e)) (list_all p es) (now e) all
        go false one all later = and_from (p e) (list_all p (changed f n es)) one later

  module _ (keeps : (e : Entry) → (f e).name ≡ e.name) where
    pub different_changed : (es : List Entry) → are_different (λ e. is_named e.name) (changed f n es) ≡ are_different (λ e. is_named e.name) es
    different_changed [] = refl
    different_changed (e ∷ es) = go (is_named n e) (different_changed es) where
      go : (b : Bool) → are_different (λ e. is_named e.name) (changed f n es) ≡ are_different (λ e. is_named e.name) es
          → are_different (λ e. is_named e.name) (cond b (f e ∷ es) (e ∷ changed f n es))
          ≡ (not (list_any (is_named e.name) es) && are_different (λ e. is_named e.name) es)
      go true later = ap (λ m. not (list_any (is_named m) es) && are_different (λ e. is_named e.name) es) (keeps e)
      go false later = λ i. not (same_any_changed (is_named e.name) (λ a. ap (is_same e.name) (keeps a)) es i) && later i

  -- An element after the change is the changed entry, or an unchanged entry of another name.
  abbrev pub Was : List Entry → Entry → Type 0
  Was es b = ((a : Entry) × Among es a × (is_named n a ≡ true) × (f a ≡ b)) ⊎ (Among es b × (is_named n b ≡ false))

  pub was : (es : List Entry) → AreNamed es → (b : Entry) → Among (changed f n es) b → Was es b
  was [] h b m = absurd m
  was (e ∷ es) h b m = let parts = and_parts (not (list_any (is_named e.name) es)) (are_different (λ e. is_named e.name) es) h in
      go (is_named n e) refl m (not-true (list_any (is_named e.name) es) parts.0) (was es parts.1 b) where
        more : Was es b → Was (e ∷ es) b
        more (inl w) = inl (w.0, inr w.1, w.2, w.3)
        more (inr w) = inr (inr w.0, w.1)

        go : (c : Bool) → is_named n e ≡ c → Among (cond c (f e ∷ es) (e ∷ changed f n es)) b → list_any (is_named e.name) es ≡ false
            → (Among (changed f n es) b → Was es b) → Was (e ∷ es) b
        go true t (inl k) new later = inl (e, inl refl, t, k)
        go true t (inr k) new later = inr (inr k, ap (λ m. is_same m b.name) ((same_is n e.name).0 t) ∙ not_element (is_named e.name) es new b k)
        go false t (inl k) new later = inr (inl k, ap (λ (a : Entry). is_named n a) (sym k) ∙ t)
        go false t (inr k) new later = more (later k)
