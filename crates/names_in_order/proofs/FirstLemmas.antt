-- Lemmas: the first place whose slot has one of several numbers.
use Rattle.std.proofs.Common.{◌≡◌, ◌≢◌, ◌∙◌, ℕ, zero, suc, Bool, true, false, cond, List, [], ◌∷◌, ◌++◌, ◌||◌, get_or, Option, Some, None, slice_get, refl, sym, ap, subst, inl, inr, arith, ltb-true, ltb-false}
use Rattle.std.specs.Prelude.{find, nat_lt}
use Rattle.std.specs.List.{list_any}
use Rattle.std.proofs.lemmas.Bool.{false_from_ne_true, or_left, or_right}
use Rattle.std.proofs.lemmas.List.Folds.{list_any-append}
use Rattle.std.proofs.lemmas.Option.{none-some, same_Some}
use Rattle.name_index.specs.declared.table.NameId.{NameId}
use Rattle.names_in_order.specs.InOrder.{same_id}
use Rattle.names_in_order.specs.Marked.{HavePlaces, IsFirstPlace, earlier, found_place, numbers_in}
use Rattle.names_in_order.proofs.MarkedLemmas.{Slots, found_or_nowhere, once}
use Rattle.names_in_order.proofs.OrderLemmas.{itself, same_number}

-- A number is in a longer list of numbers if it is in the shorter list, or equals the added number.
any_more : (x id : NameId) (ids : List NameId) → list_any (same_id x) (ids ++ id ∷ []) ≡ (list_any (same_id x) ids || same_id x id)
any_more x id ids = list_any-append (same_id x) ids (id ∷ []) ∙ ap (λ (b : Bool). list_any (same_id x) ids || b) (alone (same_id x id))
  where
    alone : (b : Bool) → (b || false) ≡ b
    alone true = refl
    alone false = refl

neither : (x id : NameId) (ids : List NameId) → list_any (same_id x) ids ≡ false → (x ≡ id → ⊥) → list_any (same_id x) (ids ++ id ∷ []) ≡ false
neither x id ids none other =
    any_more x id ids ∙ ap (λ (b : Bool). b || same_id x id) none ∙ false_from_ne_true (same_id x id) (λ h. other (same_number x id h))

module _ (slots : Slots) (places : List ℕ) (placed : HavePlaces slots places) (id : NameId) (ids : List NameId) where
  its_own : list_any (same_id id) (ids ++ id ∷ []) ≡ true
  its_own = any_more id id ids ∙ or_right (list_any (same_id id) ids) (same_id id id) (itself id)

  one_of_these : (x : NameId) → list_any (same_id x) ids ≡ true → list_any (same_id x) (ids ++ id ∷ []) ≡ true
  one_of_these x among = any_more x id ids ∙ or_left (list_any (same_id x) ids) (same_id x id) among

  -- No other place has the number.
  apart : (j k : ℕ) (x : NameId) → get_or slots j None ≡ Some id → get_or slots k None ≡ Some x → k ≢ j → x ≡ id → ⊥
  apart j k x at other ne is = ne (once slots places placed k j id (other ∙ ap {B = Option NameId} (λ (y : NameId). Some y) is) at)

  with_found : (first : Option ℕ) (place : ℕ) → get_or slots place None ≡ Some id → IsFirstPlace slots ids first → IsFirstPlace slots (ids ++ id ∷ []) (earlier first (Some place))
  with_found None place at none = (id, at, its_own, λ k x lt there. neither x id ids (none k x there) (apart place k x at there (λ e. absurd (omega (arith, lt, e)))))
  with_found (Some first) place at (x, present, among, before) = by (nat_lt place first) refl
    where
      by : (b : Bool) → nat_lt place first ≡ b → IsFirstPlace slots (ids ++ id ∷ []) (Some (cond b place first))
      by true lt = (id, at, its_own, λ k y sooner there. neither y id ids (before k y (omega (arith, sooner, ltb-true place first lt)) there) (apart place k y at there (λ e. absurd (omega (arith, sooner, e)))))
      by false ge = (x, present, one_of_these x among, λ k y sooner there. neither y id ids (before k y sooner there) (apart place k y at there (λ e. absurd (omega (arith, sooner, e, ltb-false place first ge)))))

  with_none : (first : Option ℕ) → ((k : ℕ) → get_or slots k None ≢ Some id) → IsFirstPlace slots ids first → IsFirstPlace slots (ids ++ id ∷ []) (earlier first None)
  with_none None nowhere none = λ k x there. neither x id ids (none k x there) (λ is. nowhere k (there ∙ ap {B = Option NameId} (λ (y : NameId). Some y) is))
  with_none (Some first) nowhere (x, present, among, before) =
      (x, present, one_of_these x among, λ k y sooner there. neither y id ids (before k y sooner there) (λ is. nowhere k (there ∙ ap {B = Option NameId} (λ (z : NameId). Some z) is)))

  -- the first place after one number was added to the searched numbers
  pub first_more : (first : Option ℕ) → IsFirstPlace slots ids first → IsFirstPlace slots (ids ++ id ∷ []) (earlier first (found_place slots (slice_get places id.0) id))
  first_more first is = elim (found_or_nowhere slots places placed id (slice_get places id.0) refl) [
    | inl at ↦ subst (λ (o : Option ℕ). IsFirstPlace slots (ids ++ id ∷ []) (earlier first o)) (sym at.1) (with_found first at.0 at.2 is)
    | inr absent ↦ subst (λ (o : Option ℕ). IsFirstPlace slots (ids ++ id ∷ []) (earlier first o)) (sym absent.0) (with_none first absent.1 is)
  ]

-- the slot at a place, if a place is given
abbrev pub slot_in : Slots → Option ℕ → Option NameId
slot_in slots None = None
slot_in slots (Some place) = get_or slots place None

-- The slot at the first place has the first number of the list that is among `ids`.
pub first_is : (slots : Slots) (ids : List NameId) (first : Option ℕ) → IsFirstPlace slots ids first → slot_in slots first ≡ find (λ (id : NameId). list_any (same_id id) ids) (numbers_in slots)
first_is [] ids None none = refl
first_is [] ids (Some place) (x, at, among, before) = absurd (none-some x at)
first_is (None ∷ slots) ids None none = first_is slots ids None (λ k x there. none (suc k) x there)
first_is (None ∷ slots) ids (Some zero) (x, at, among, before) = absurd (none-some x at)
first_is (None ∷ slots) ids (Some (suc place)) (x, at, among, before) =
    first_is slots ids (Some place) (x, at, among, λ k y sooner there. before (suc k) y (omega (arith, sooner)) there)
first_is (Some y ∷ slots) ids None none =
    first_is slots ids None (λ k x there. none (suc k) x there)
    ∙ sym (ap (λ (b : Bool). cond b (Some y) (find (λ (id : NameId). list_any (same_id id) ids) (numbers_in slots))) (none 0 y refl))
first_is (Some y ∷ slots) ids (Some zero) (x, at, among, before) =
    sym (ap (λ (b : Bool). cond b (Some y) (find (λ (id : NameId). list_any (same_id id) ids) (numbers_in slots))) (ap (λ (z : NameId). list_any (same_id z) ids) (same_Some y x at) ∙ among))
first_is (Some y ∷ slots) ids (Some (suc place)) (x, at, among, before) =
    first_is slots ids (Some place) (x, at, among, λ k z sooner there. before (suc k) z (omega (arith, sooner)) there)
    ∙ sym (ap (λ (b : Bool). cond b (Some y) (find (λ (id : NameId). list_any (same_id id) ids) (numbers_in slots))) (before 0 y (omega arith) refl))
