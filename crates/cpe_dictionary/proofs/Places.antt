-- Lemmas: the place of a name, the entry at this place, and the numbers of names.
use Rattle.std.proofs.Common.{◌≡◌, ℕ, suc, ◌+◌, ◌<◌, Bool, true, false, cond, ◌||◌, List, [], ◌∷◌, length, inl, inr, refl, sym, ap, ◌∙◌, arith, Option, Some, None, slice_get}
use Rattle.std.specs.List.{Contains, cons_option, list_any, position, position_from}
use Rattle.std.proofs.lemmas.Option.{same_Some, none-some, slice_get_within}
use Rattle.std.proofs.lemmas.Iterator.Adapters.{position_from-zero}
use Rattle.cpe_rows.specs.cpe_name.Eleven.{Values}
use Rattle.cpe_rows.specs.Rows.{is_named}
use Rattle.cpe_rows.specs.declared.entry.Entry.{Entry}
use Rattle.deprecation_graph.proofs.Rising.{Contains-cases}
use Rattle.cpe_dictionary.specs.Numbers.{numbers_of}

-- the first place at which the test passes, and the entry there
pub record Placed (test : Entry → Bool) (entries : List Entry) : Type 0 where
  pub place : ℕ
  pub entry : Entry
  pub first : position test entries ≡ Some place
  pub at : slice_get entries place ≡ Some entry
  pub passes : test entry ≡ true

pub entry_from : (p : Entry → Bool) (k : ℕ) (es : List Entry) (i : ℕ) → position_from p k es ≡ Some i → (j : ℕ) × (y : Entry) × (i ≡ k + j) × (slice_get es j ≡ Some y) × (p y ≡ true)
entry_from p k [] i h = absurd (none-some i h)
entry_from p k (x ∷ xs) i h = go (p x) refl h (entry_from p (k + 1) xs i)
  where
    go : (b : Bool) → p x ≡ b → cond b (Some k) (position_from p (k + 1) xs) ≡ Some i → (position_from p (k + 1) xs ≡ Some i → (j : ℕ) × (y : Entry) × (i ≡ k + 1 + j) × (slice_get xs j ≡ Some y) × (p y ≡ true)) → (j : ℕ) × (y : Entry) × (i ≡ k + j) × (slice_get (x ∷ xs) j ≡ Some y) × (p y ≡ true)
    go true f e rest = (0, x, omega (arith, same_Some k i e), refl, f)
    go false f e rest = let r = rest e in (suc r.0, r.1, omega (arith, r.2), r.3, r.4)

place_from : (p : Entry → Bool) (k : ℕ) (es : List Entry) → list_any p es ≡ true → (i : ℕ) × (position_from p k es ≡ Some i)
place_from p k [] h = absurd cc
place_from p k (x ∷ xs) h = go (p x) h (place_from p (k + 1) xs)
  where
    go : (b : Bool) → (b || list_any p xs) ≡ true → (list_any p xs ≡ true → (i : ℕ) × (position_from p (k + 1) xs ≡ Some i)) → (i : ℕ) × (cond b (Some k) (position_from p (k + 1) xs) ≡ Some i)
    go true e rest = (k, refl)
    go false e rest = rest e

pub placed : (p : Entry → Bool) (es : List Entry) → list_any p es ≡ true → Placed p es
placed p es h =
    let place = place_from p 0 es h in
    let there = entry_from p 0 es place.0 place.1 in
    let here : place.0 ≡ there.0 = omega (arith, there.2) in
    record { place = place.0; entry = there.1; first = position_from-zero p es ∙ place.1; at = ap (slice_get es) here ∙ there.3; passes = there.4 }

pub place_within : (p : Entry → Bool) (es : List Entry) (i : ℕ) → position p es ≡ Some i → i < length es
place_within p es i h =
    let there = entry_from p 0 es i (sym (position_from-zero p es) ∙ h) in
    omega (arith, there.2, slice_get_within es there.0 there.1 there.3)

pub passes_at : (p : Entry → Bool) (es : List Entry) (i : ℕ) (y : Entry) → position p es ≡ Some i → slice_get es i ≡ Some y → p y ≡ true
passes_at p es i y h at =
    let there = entry_from p 0 es i (sym (position_from-zero p es) ∙ h) in
    let here : i ≡ there.0 = omega (arith, there.2) in
    ap p (same_Some y there.1 (sym at ∙ ap (slice_get es) here ∙ there.3)) ∙ there.4

-- ---- the numbers of names

pub numbers_within : (entries : List Entry) (ns : List Values) (k : ℕ) → Contains (numbers_of entries ns) k → k < length entries
numbers_within entries [] k c = absurd (omega (arith, c.1))
numbers_within entries (n ∷ ns) k c = go (position (is_named n) entries) refl c (numbers_within entries ns k)
  where
    go : (o : Option ℕ) → position (is_named n) entries ≡ o → Contains (cons_option o (numbers_of entries ns)) k → (Contains (numbers_of entries ns) k → k < length entries) → k < length entries
    go None e h rest = rest h
    go (Some i) e h rest = elim (Contains-cases k i (numbers_of entries ns) h) [
      | inl is ↦ omega (arith, is, place_within (is_named n) entries i e)
      | inr more ↦ rest more
    ]
