-- Lemmas: if an entry is changed but keeps its name, the chains that don't lead to it are unchanged.
use Rattle.std.proofs.Common.{◌≡◌, ℕ, zero, suc, ◌||◌, ◌&&◌, List, [], ◌∷◌, map, Bool, true, false, cond, length, refl, ap, sym, ◌∙◌, inl, inr}
use Rattle.std.specs.Prelude.{filter}
use Rattle.std.specs.List.{list_any}
use Rattle.std.proofs.lemmas.Bool.{or_parts, false_from_ne_true, true≢false}
use Rattle.cpe_name.specs.Eleven.{Values}
use Rattle.cpe_rows.specs.Names.{is_same}
use Rattle.cpe_rows.specs.Rows.{is_named}
use Rattle.cpe_rows.specs.Reach.{reached, is_reached, Among}
use Rattle.cpe_rows.specs.Chains.{successors_of, is_active, is_successor, chain, leads_to, ends}
use Rattle.cpe_rows.specs.After.{changed}
use Rattle.cpe_rows.specs.declared.entry.Entry.{Entry}
use Rattle.cpe_rows.proofs.Lists.{not_element}
use Rattle.cpe_rows.proofs.ChangedEntries.{same_any_changed}
use Rattle.cpe_rows.proofs.Paths.{is_kept}

module _ (f : Entry → Entry) (n : Values) (keeps : (e : Entry) → (f e).name ≡ e.name) where
  -- The test has result b for the entry of this name, before and after the change.
  abbrev Says : (Entry → Bool) → List Entry → Bool → Type 0
  Says p es b = (a : Entry) → Among es a → is_named n a ≡ true → (p a ≡ b) × (p (f a) ≡ b)

  same_length : (es : List Entry) → length (changed f n es) ≡ length es
  same_length [] = refl
  same_length (e ∷ es) = go (is_named n e) (same_length es) where
    go : (b : Bool) → length (changed f n es) ≡ length es → length (cond b (f e ∷ es) (e ∷ changed f n es)) ≡ suc (length es)
    go true later = refl
    go false later = ap suc later

  same_any : (p : Entry → Bool) (es : List Entry) → Says p es false → list_any p (changed f n es) ≡ list_any p es
  same_any p [] h = refl
  same_any p (e ∷ es) h = go (is_named n e) refl (same_any p es (λ a m t. h a (inr m) t)) where
    go : (b : Bool) → is_named n e ≡ b → list_any p (changed f n es) ≡ list_any p es
        → list_any p (cond b (f e ∷ es) (e ∷ changed f n es)) ≡ (p e || list_any p es)
    go true t later = let both = h e (inl refl) t in λ i. (both.1 ∙ sym both.0) i || list_any p es
    go false t later = ap (λ b. p e || b) later

  same_kept : (p : Entry → Bool) (es : List Entry) → Says p es false → filter p (changed f n es) ≡ filter p es
  same_kept p [] h = refl
  same_kept p (e ∷ es) h = go (is_named n e) refl (same_kept p es (λ a m t. h a (inr m) t)) where
    go : (b : Bool) → is_named n e ≡ b → filter p (changed f n es) ≡ filter p es
        → filter p (cond b (f e ∷ es) (e ∷ changed f n es)) ≡ cond (p e) (e ∷ filter p es) (filter p es)
    go true t later = let both = h e (inl refl) t in
        ap (λ b. cond b (f e ∷ filter p es) (filter p es)) both.1 ∙ sym (ap (λ b. cond b (e ∷ filter p es) (filter p es)) both.0)
    go false t later = ap (λ l. cond (p e) (e ∷ l) l) later

  module _ (es : List Entry) (x : Values) where
    abbrev left : List Entry
    left = changed f n es

    -- `before` and `behind` are true of an entry that is reached in at most k steps: before the change, and after it.
    abbrev before : ℕ → Entry → Bool
    before = reached is_successor es (is_named x)

    abbrev behind : ℕ → Entry → Bool
    behind = reached is_successor left (is_named x)

    -- Two entries of the same name are both reached, or both not.
    by_name : (k : ℕ) (a b : Entry) → a.name ≡ b.name → before k a ≡ before k b
    by_name zero a b e = ap (is_same x) e
    by_name (suc k) a b e = λ i. by_name k a b e i || list_any (λ (c : Entry). before k c && list_any (is_same (e i)) (successors_of c)) es

    abbrev NotReached : ℕ → Type 0
    NotReached k = (a : Entry) → Among es a → is_named n a ≡ true → before k a ≡ false

    not_now : (k : ℕ) → NotReached k → Says (before k) es false
    not_now k h a m t = (h a m t, by_name k (f a) a (keeps a) ∙ h a m t)

    no_step : (k : ℕ) → NotReached k → (b : Entry) → Says (λ a. before k a && is_successor a b) es false
    no_step k h b a m t = let both = not_now k h a m t in (λ i. both.0 i && is_successor a b, λ i. both.1 i && is_successor (f a) b)

    same_reached : (k : ℕ) → NotReached k → (b : Entry) → behind k b ≡ before k b
    same_reached zero h b = refl
    same_reached (suc k) h b =
        let less : NotReached k = λ a m t. (or_parts (before k a) (list_any (λ c. before k c && is_successor c a) es) (h a m t)).0 in
        (λ i. same_reached k less b i || list_any (λ a. same_reached k less a i && is_successor a b) left)
        ∙ ap (λ c. before k b || c) (same_any (λ a. before k a && is_successor a b) es (no_step k less b))

    module _ (h : leads_to es x n ≡ false) where
      apart : NotReached (length es)
      apart a m t = false_from_ne_true (before (length es) a) (λ r.
          true≢false (sym t ∙ not_element (is_named n) (chain es x) h a (is_kept (is_reached is_successor es (is_named x)) es a m r)))

      same_chain : chain left x ≡ chain es x
      same_chain =
          (λ i. filter (λ b. reached is_successor left (is_named x) (same_length es i) b) left)
          ∙ ((λ i. filter (λ b. same_reached (length es) apart b i) left)
          ∙ same_kept (before (length es)) es (not_now (length es) apart))

      pub same_ends : ends left x ≡ ends es x
      same_ends = λ i. cond (same_any_changed f n (is_named x) (λ e. ap (is_same x) (keeps e)) es i)
          (map (λ (e : Entry). e.name) (filter is_active (same_chain i))) (x ∷ [])
