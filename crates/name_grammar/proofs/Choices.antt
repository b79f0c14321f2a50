-- Lemmas: a choice between two scanners by the first byte. Of the second language it reads only texts whose first byte
-- fails the test.
use Rattle.std.proofs.Common.{◌≡◌, ℕ, Bool, false, List, [], ◌∷◌, ◌++◌, length, Ok, Err, refl, sym, ap, subst, ◌∙◌, inl, inr}
use Rattle.name_grammar.specs.Scanners.{Scanner, choose}
use Rattle.name_grammar.proofs.Results.{left_over, stopped, chosen}
use Rattle.name_grammar.proofs.Scans.{TakesText, Stops, Scans, Either, stops_alike, chosen_yes, chosen_no, choose_scans, HeadFails}

-- a text of the language whose first byte, if there is one, fails the test
pub record Unled (passes : ℕ → Bool) (M : List ℕ → Type 0) (c : List ℕ) : Type 0 where
  pub lawful : M c
  pub head : HeadFails passes c

module _ (passes : ℕ → Bool) (L M : List ℕ → Type 0) (p q : Scanner) (P : Scans L p) (Q : Scans M q) (none : M []) where
  prefix_fails : (u r : List ℕ) (c : ℕ) (s : List ℕ) → c ∷ s ≡ u ++ r → passes c ≡ false → HeadFails passes u
  prefix_fails [] r c s cut h = tt
  prefix_fails (x ∷ u) r c s cut h = let is : c ≡ x = cc in subst (λ (d : ℕ). passes d ≡ false) is h

  unled_takes : (s r : List ℕ) → choose passes p q s ≡ Ok r → TakesText (Either L (Unled passes M)) s r
  unled_takes [] r e = let a = Q.takes [] r e in record { taken = a.taken; cut = a.cut; lawful = inr (record { lawful = a.lawful; head = nothing_fails a.taken r a.cut }) } where
    nothing_fails : (u r : List ℕ) → [] ≡ u ++ r → HeadFails passes u
    nothing_fails [] r cut = tt
    nothing_fails (x ∷ u) r cut = absurd cc
  unled_takes (c ∷ s) r e =
      elim (chosen (passes c) (p (c ∷ s)) (q (c ∷ s)) (left_over r) e) [
        | inl h ↦ let a = P.takes (c ∷ s) r h.1 in record { taken = a.taken; cut = a.cut; lawful = inl a.lawful }
        | inr h ↦ let a = Q.takes (c ∷ s) r h.1 in record { taken = a.taken; cut = a.cut; lawful = inr (record { lawful = a.lawful; head = prefix_fails a.taken r c s a.cut h.0 }) }
      ]

  -- some bytes complete the prefix to a text of `M` whose first byte, if there is one, fails the test
  record Continues (prefix : List ℕ) : Type 0 where
    more : List ℕ
    there : Unled passes M (prefix ++ more)

  is_continued : (prefix rest more s : List ℕ) (c : ℕ) → c ∷ s ≡ prefix ++ rest → passes c ≡ false → M (prefix ++ more) → Continues prefix
  is_continued [] rest more s c cut h on = record { more = []; there = record { lawful = none; head = tt } }
  is_continued (x ∷ prefix) rest more s c cut h on = let is : c ≡ x = cc in record { more = more; there = record { lawful = on; head = subst (λ (d : ℕ). passes d ≡ false) is h } }

  unled_stops : (s : List ℕ) (left : ℕ) → choose passes p q s ≡ Err left → Stops (Either L (Unled passes M)) (choose passes p q) s left
  unled_stops [] left e = let a = Q.stops [] left e in record {
    prefix = [];
    rest = [];
    cut = refl;
    left_is = a.left_is ∙ nil_rest a.prefix a.rest a.cut;
    more = [];
    is_continued = inr (record { lawful = none; head = tt });
    refused = λ d r t is. absurd cc;
  } where
    nil_rest : (prefix rest : List ℕ) → [] ≡ prefix ++ rest → length rest ≡ 0
    nil_rest [] rest cut = ap length (sym cut)
    nil_rest (x ∷ prefix) rest cut = absurd cc
  unled_stops (c ∷ s) left e =
      elim (chosen (passes c) (p (c ∷ s)) (q (c ∷ s)) (stopped left) e) [
        | inl h ↦
            let a = P.stops (c ∷ s) left h.1 in
            stops_alike p (Either L (Unled passes M)) (choose passes p q) c s (λ u. chosen_yes passes p q c u h.0) a a.more (inl a.is_continued)
        | inr h ↦
            let a = Q.stops (c ∷ s) left h.1 in
            let on = is_continued a.prefix a.rest a.more s c a.cut h.0 a.is_continued in
            stops_alike q (Either L (Unled passes M)) (choose passes p q) c s (λ u. chosen_no passes p q c u h.0) a on.more (inr on.there)
      ]

  -- the choice is a scanner of the texts of `L`, and of those texts of `M` whose first byte fails the test
  pub unled_scans : Scans (Either L (Unled passes M)) (choose passes p q)
  unled_scans = record { takes = unled_takes; stops = unled_stops; looks_at_one = (choose_scans passes L M p q P Q).looks_at_one }
