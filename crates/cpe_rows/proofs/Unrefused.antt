-- Lemmas about edits without faults.
use Rattle.std.proofs.Common.{◌≡◌, ℕ, ◌+◌, ◌||◌, List, [], ◌∷◌, ◌++◌, Bool, true, false, not, cond, Option, Some, None, Ok, refl, sym, ◌∙◌, subst, inl, inr}
use Rattle.std.specs.Prelude.{option_map, position}
use Rattle.std.specs.List.{list_any, list_all, position_from, AllByRecursion}
use Rattle.std.proofs.lemmas.Bool.{or_parts, and_from, not_from_false, not-false}
use Rattle.std.proofs.lemmas.Iterator.Adapters.{position_from-zero}
use Rattle.cpe_rows.specs.Rows.{Rows}
use Rattle.cpe_rows.specs.Reach.{Among}
use Rattle.cpe_rows.specs.After.{after}
use Rattle.cpe_rows.specs.Faults.{when, place_of, repeated_from, faults}
use Rattle.cpe_rows.specs.Step.{first_some, unless}
use Rattle.cpe_rows.specs.Lawful.{are_different}
use Rattle.cpe_rows.specs.Accepted.{IsAccepted}
use Rattle.cpe_rows.specs.declared.edit.Edit.{Edit}
use Rattle.cpe_rows.specs.declared.fault.EditFault.{EditFault}
use Rattle.cpe_rows.proofs.Lists.{no_element, not_element}

-- The edit has no fault.
abbrev pub IsUnrefused : Rows → Edit → Type 0
IsUnrefused rows e = AllByRecursion (λ o. o ≡ None) (faults rows e)

none_of : (os : List (Option EditFault)) (left next : Rows) → unless (first_some os) left ≡ Ok next
    → AllByRecursion (λ o. o ≡ None) os × (left ≡ next)
none_of [] left next h = (tt, cc)
none_of (Some f ∷ os) left next h = let wrong : ⊥ = cc in absurd wrong
none_of (None ∷ os) left next h = let rest = none_of os left next h in ((refl, rest.0), rest.1)

pub unrefused : {rows next : Rows} {e : Edit} → IsAccepted rows e next → IsUnrefused rows e × (after rows e ≡ next)
unrefused {rows} {next} {e} h = none_of (faults rows e) (after rows e) next h.accepted

pub both_none : {A : Type 0} (os rest : List (Option A)) → AllByRecursion (λ o. o ≡ None) (os ++ rest)
    → AllByRecursion (λ o. o ≡ None) os × AllByRecursion (λ o. o ≡ None) rest
both_none [] rest h = (tt, h)
both_none (o ∷ os) rest h = let later = both_none os rest h.1 in ((h.0, later.0), later.1)

pub none_when : (b : Bool) (f : EditFault) → when b f ≡ None → b ≡ false
none_when true f h = let wrong : ⊥ = cc in absurd wrong
none_when false f h = refl

pub none_mapped : {A B : Type 0} (f : A → B) (o : Option A) → option_map f o ≡ None → o ≡ None
none_mapped f (Some x) h = let wrong : ⊥ = cc in absurd wrong
none_mapped f None h = refl

module _ {A : Type 0} where
  none_from : (p : A → Bool) (k : ℕ) (xs : List A) → position_from p k xs ≡ None → list_any p xs ≡ false
  none_from p k [] h = refl
  none_from p k (x ∷ xs) h = go (p x) h (none_from p (k + 1) xs) where
    go : (b : Bool) → cond b (Some k) (position_from p (k + 1) xs) ≡ None → (position_from p (k + 1) xs ≡ None → list_any p xs ≡ false)
        → (b || list_any p xs) ≡ false
    go true e later = let wrong : ⊥ = cc in absurd wrong
    go false e later = later e

  pub none_placed : {B : Type 0} (f : ℕ → B) (p : A → Bool) (xs : List A) → option_map f (place_of p xs) ≡ None → list_any p xs ≡ false
  none_placed f p xs h = none_from p 0 xs
      (sym (position_from-zero p xs) ∙ none_mapped (λ k. k + 1) (position p xs) (none_mapped f (place_of p xs) h))

  pub all_where_none_not : (p : A → Bool) (xs : List A) → list_any (λ x. not (p x)) xs ≡ false → list_all p xs ≡ true
  all_where_none_not p [] h = refl
  all_where_none_not p (x ∷ xs) h = let parts = or_parts (not (p x)) (list_any (λ x. not (p x)) xs) h in
      and_from (p x) (list_all p xs) (not-false (p x) parts.0) (all_where_none_not p xs parts.1)

  -- If no element is equal to an earlier one, then none is equal to a later one.
  module _ (same : A → A → Bool) (other : (a b : A) → same a b ≡ false → same b a ≡ false) where
    abbrev Apart : List A → List A → Type 0
    Apart xs seen = (a : A) → Among xs a → (c : A) → Among seen c → same a c ≡ false

    unrepeated : (seen : List A) (k : ℕ) (xs : List A) → repeated_from same seen k xs ≡ None
        → (are_different same xs ≡ true) × Apart xs seen
    unrepeated seen k [] h = (refl, λ a m. absurd m)
    unrepeated seen k (x ∷ xs) h = go (list_any (same x) seen) refl h (unrepeated (x ∷ seen) (k + 1) xs) where
      go : (b : Bool) → list_any (same x) seen ≡ b → cond b (Some k) (repeated_from same (x ∷ seen) (k + 1) xs) ≡ None
          → (repeated_from same (x ∷ seen) (k + 1) xs ≡ None → (are_different same xs ≡ true) × Apart xs (x ∷ seen))
          → (are_different same (x ∷ xs) ≡ true) × Apart (x ∷ xs) seen
      go true new e later = let wrong : ⊥ = cc in absurd wrong
      go false new e later = let rest = later e in (
        and_from (not (list_any (same x) xs)) (are_different same xs)
            (not_from_false (list_any (same x) xs) (no_element (same x) xs (λ a m. other a x (rest.1 a m x (inl refl))))) rest.0,
        apart rest.1,
      ) where
        apart : Apart xs (x ∷ seen) → Apart (x ∷ xs) seen
        apart rest a (inl k) c m = subst (λ (y : A). same y c ≡ false) k (not_element (same x) seen new c m)
        apart rest a (inr k) c m = rest a k c (inr m)

    pub none_repeated : (xs : List A) → repeated_from same [] 1 xs ≡ None → are_different same xs ≡ true
    none_repeated xs h = (unrepeated [] 1 xs h).0
