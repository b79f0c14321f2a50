-- Lemmas: numbers by place, with marks, and the place of each number.
use Rattle.std.proofs.Common.{◌≡◌, ◌≢◌, ◌⊎◌, ℕ, zero, suc, ◌+◌, ◌^◌, ◌<◌, ◌≤◌, Bool, true, false, cond, List, [], ◌∷◌, ◌++◌, length, get_or, set, take, drop, Option, Some, None, slice_get, refl, sym, ap, subst, ◌∙◌, inl, inr, arith, append_assoc}
use Rattle.std.specs.Prelude.{IfSome, IsSome}
use Rattle.std.specs.List.{AllByRecursion, IsDistinct, cons_option, filter, filter_map, list_any, range_with_len, sum_by}
use Rattle.std.specs.List.Sorted.{IsSorted, IsPermutation}
use Rattle.std.specs.Option.{is_some}
use Rattle.std.specs.Ordering.{nat_cmp}
use Rattle.std.proofs.lemmas.Bool.{both_ways, false_from_ne_true, or_right}
use Rattle.std.proofs.lemmas.Option.{none-some, same_Some, slice_get_within}
use Rattle.std.proofs.lemmas.List.{at_drop_more, drop-set-lt, length-append, length-set, take_more_set}
use Rattle.std.proofs.lemmas.List.Sums.{sum_by-cons}
use Rattle.std.proofs.lemmas.Map.Keys.{IsDistinct-cons}
use Rattle.name_index.specs.Elements.{SameElements}
use Rattle.name_index.specs.declared.table.NameId.{NameId}
use Rattle.name_index.specs.Index.{name_id}
use Rattle.names_in_order.specs.InOrder.{same_id}
use Rattle.names_in_order.specs.Marked.{AreClosing, AreMarkedPlaces, HavePlaces, PutsInOrder, closing_numbers, found_place, is_slot_of, numbers_in, places_of, standing_at, without_first_place}
use Rattle.names_in_order.proofs.OrderLemmas.{itself, old_place, same_number, set_other, set_same}
use Rattle.names_in_order.proofs.Rising.{sorted_filter}

abbrev pub Slots : Type 0
Slots = List (Option NameId)

-- ---- the numbers of slots

pub numbers-append : (xs ys : Slots) → numbers_in (xs ++ ys) ≡ numbers_in xs ++ numbers_in ys
numbers-append [] ys = refl
numbers-append (None ∷ xs) ys = numbers-append xs ys
numbers-append (Some x ∷ xs) ys = ap (λ (ns : List NameId). x ∷ ns) (numbers-append xs ys)

pub no_more : (slots : Slots) → length (numbers_in slots) ≤ length slots
no_more [] = omega arith
no_more (None ∷ slots) = omega (arith, no_more slots)
no_more (Some x ∷ slots) = omega (arith, no_more slots)

pub slot_within : (slots : Slots) (k : ℕ) (id : NameId) → get_or slots k None ≡ Some id → k < length slots
slot_within [] k id e = absurd (none-some id e)
slot_within (slot ∷ slots) zero id e = omega arith
slot_within (slot ∷ slots) (suc k) id e = omega (arith, slot_within slots k id e)

abbrev pub IsNowhere : NameId → Slots → Type 0
IsNowhere id slots = (k : ℕ) → get_or slots k None ≢ Some id

other_number : (id x : NameId) → x ≢ id → same_id id x ≡ false
other_number id x ne = false_from_ne_true _ (λ e. ne (sym (same_number id x e)))

not_among : (id : NameId) (slots : Slots) → IsNowhere id slots → list_any (same_id id) (numbers_in slots) ≡ false
not_among id [] none = refl
not_among id (None ∷ slots) none = not_among id slots (λ k. none (suc k))
not_among id (Some x ∷ slots) none =
    let head : same_id id x ≡ false = other_number id x (λ e. none 0 (ap {B = Option NameId} (λ (y : NameId). Some y) e)) in
    rw head (not_among id slots (λ k. none (suc k)))

among : (id : NameId) (slots : Slots) (k : ℕ) → get_or slots k None ≡ Some id → list_any (same_id id) (numbers_in slots) ≡ true
among id [] k e = absurd (none-some id e)
among id (None ∷ slots) zero e = absurd (none-some id e)
among id (None ∷ slots) (suc k) e = among id slots k e
among id (Some x ∷ slots) zero e =
    let head : same_id id x ≡ true = ap (same_id id) (same_Some x id e) ∙ itself id in
    rw head refl
among id (Some x ∷ slots) (suc k) e = or_right (same_id id x) (list_any (same_id id) (numbers_in slots)) (among id slots k e)

stays_whole : (id : NameId) (slots : Slots) → IsNowhere id slots → without_first_place (same_id id) (numbers_in slots) ≡ numbers_in slots
stays_whole id [] none = refl
stays_whole id (None ∷ slots) none = stays_whole id slots (λ k. none (suc k))
stays_whole id (Some x ∷ slots) none =
    let head : same_id id x ≡ false = other_number id x (λ e. none 0 (ap {B = Option NameId} (λ (y : NameId). Some y) e)) in
    rw head (ap (λ (ns : List NameId). x ∷ ns) (stays_whole id slots (λ k. none (suc k))))

-- Without the first slot that has a number, the slots have the list's numbers without this number.
gone : (id : NameId) (slots : Slots) (k : ℕ) → get_or slots k None ≡ Some id → ((j : ℕ) → j < k → get_or slots j None ≢ Some id) → numbers_in (take k slots) ++ numbers_in (drop (suc k) slots) ≡ without_first_place (same_id id) (numbers_in slots)
gone id [] k e none = absurd (none-some id e)
gone id (None ∷ slots) zero e none = absurd (none-some id e)
gone id (Some x ∷ slots) zero e none =
    let head : same_id id x ≡ true = ap (same_id id) (same_Some x id e) ∙ itself id in
    rw head refl
gone id (None ∷ slots) (suc k) e none = gone id slots k e (λ j lt. none (suc j) (omega (arith, lt)))
gone id (Some x ∷ slots) (suc k) e none =
    let head : same_id id x ≡ false = other_number id x (λ s. none 0 (omega arith) (ap {B = Option NameId} (λ (y : NameId). Some y) s)) in
    rw head (ap (λ (ns : List NameId). x ∷ ns) (gone id slots k e (λ j lt. none (suc j) (omega (arith, lt)))))

-- ---- a number is replaced by a mark

cleared : (slots : Slots) (k : ℕ) → numbers_in (set slots k None) ≡ numbers_in (take k slots) ++ numbers_in (drop (suc k) slots)
cleared [] zero = refl
cleared [] (suc k) = refl
cleared (slot ∷ slots) zero = refl
cleared (None ∷ slots) (suc k) = cleared slots k
cleared (Some x ∷ slots) (suc k) = ap (λ (ns : List NameId). x ∷ ns) (cleared slots k)

pub one_less : (slots : Slots) (k : ℕ) → IsSome (get_or slots k None) → length (numbers_in slots) ≡ length (numbers_in (set slots k None)) + 1
one_less [] k some = absurd cc
one_less (None ∷ slots) zero some = absurd cc
one_less (Some x ∷ slots) zero some = omega arith
one_less (None ∷ slots) (suc k) some = one_less slots k some
one_less (Some x ∷ slots) (suc k) some = omega (arith, one_less slots k some)

rows_before : (slots : Slots) (k j : ℕ) (id : NameId) → get_or (set slots k None) j None ≡ Some id → get_or slots j None ≡ Some id
rows_before [] k j id e = e
rows_before (slot ∷ slots) zero zero id e = absurd (none-some id e)
rows_before (slot ∷ slots) zero (suc j) id e = e
rows_before (slot ∷ slots) (suc k) zero id e = e
rows_before (slot ∷ slots) (suc k) (suc j) id e = rows_before slots k j id e

-- ---- a number is appended

last_slot : (slots : Slots) (new id : NameId) (k : ℕ) → get_or (slots ++ Some new ∷ []) k None ≡ Some id → (get_or slots k None ≡ Some id) ⊎ ((k ≡ length slots) × (new ≡ id))
last_slot [] new id zero e = inr (refl, same_Some new id e)
last_slot [] new id (suc k) e = absurd (none-some id e)
last_slot (slot ∷ slots) new id zero e = inl e
last_slot (slot ∷ slots) new id (suc k) e = elim (last_slot slots new id k e) [ inl at ↦ inl at | inr last ↦ inr (ap suc last.0, last.1) ]

written : (slots : Slots) (n : ℕ) (new id : NameId) (k : ℕ) → get_or (set slots n (Some new)) k None ≡ Some id → ((k ≢ n) × (get_or slots k None ≡ Some id)) ⊎ ((k ≡ n) × (new ≡ id))
written [] n new id k e = absurd (none-some id e)
written (slot ∷ slots) zero new id zero e = inr (refl, same_Some new id e)
written (slot ∷ slots) zero new id (suc k) e = inl (λ is. absurd (omega (arith, is)), e)
written (slot ∷ slots) (suc n) new id zero e = inl (λ is. absurd (omega (arith, is)), e)
written (slot ∷ slots) (suc n) new id (suc k) e = elim (written slots n new id k e) [ inl old ↦ inl (λ is. old.0 (omega (arith, is)), old.1) | inr here ↦ inr (ap suc here.0, here.1) ]

-- ---- the kept places

-- Keeping a place for one number more changes nothing for the numbers of the slots.
pub longer : (slots : Slots) (places : List ℕ) (place : ℕ) → HavePlaces slots places → HavePlaces slots (places ++ place ∷ [])
longer slots places place placed k id at = old_place places place k id.0 (placed k id at)

-- ---- finding a number by its kept place

module _ (slots : Slots) (places : List ℕ) (placed : HavePlaces slots places) where
  pub once : (j k : ℕ) (id : NameId) → get_or slots j None ≡ Some id → get_or slots k None ≡ Some id → j ≡ k
  once j k id a b = same_Some j k (sym (placed j id a) ∙ placed k id b)

  -- A number is found at its kept place, or it is in no slot.
  pub found_or_nowhere : (id : NameId) (o : Option ℕ) → slice_get places id.0 ≡ o → ((k : ℕ) × (found_place slots o id ≡ Some k) × (get_or slots k None ≡ Some id)) ⊎ ((found_place slots o id ≡ None) × IsNowhere id slots)
  found_or_nowhere id None e = inr (refl, λ k at. none-some k (sym e ∙ placed k id at))
  found_or_nowhere id (Some p) e = by (get_or slots p None) refl
    where
      only : (k : ℕ) → get_or slots k None ≡ Some id → get_or slots p None ≡ Some id
      only k at = ap (λ (n : ℕ). get_or slots n None) (same_Some p k (sym e ∙ placed k id at)) ∙ at

      by : (slot : Option NameId) → get_or slots p None ≡ slot → ((k : ℕ) × (cond (is_slot_of id (get_or slots p None)) (Some p) None ≡ Some k) × (get_or slots k None ≡ Some id)) ⊎ ((cond (is_slot_of id (get_or slots p None)) (Some p) None ≡ None) × IsNowhere id slots)
      by None s = inr (ap (λ (t : Option NameId). cond (is_slot_of id t) (Some p) None) s, λ k at. none-some id (sym s ∙ only k at))
      by (Some x) s = so (same_id id x) refl
        where
          so : (b : Bool) → same_id id x ≡ b → ((k : ℕ) × (cond (is_slot_of id (get_or slots p None)) (Some p) None ≡ Some k) × (get_or slots k None ≡ Some id)) ⊎ ((cond (is_slot_of id (get_or slots p None)) (Some p) None ≡ None) × IsNowhere id slots)
          so true h = inl (p, ap (λ (t : Option NameId). cond (is_slot_of id t) (Some p) None) s ∙ ap (λ (b : Bool). cond b (Some p) None) h, s ∙ ap {B = Option NameId} (λ (y : NameId). Some y) (sym (same_number id x h)))
          so false h = inr (ap (λ (t : Option NameId). cond (is_slot_of id t) (Some p) None) s ∙ ap (λ (b : Bool). cond b (Some p) None) h, λ k at. both_ways (same_id id x) h (ap (same_id id) (same_Some x id (sym s ∙ only k at)) ∙ itself id))

  abbrev found : NameId → Option ℕ
  found id = found_place slots (slice_get places id.0) id

  pub has_number : (id : NameId) → is_some (found id) ≡ list_any (same_id id) (numbers_in slots)
  has_number id = elim (found_or_nowhere id (slice_get places id.0) refl) [
    | inl at ↦ ap (λ (o : Option ℕ). is_some o) at.1 ∙ sym (among id slots at.0 at.2)
    | inr absent ↦ ap (λ (o : Option ℕ). is_some o) absent.0 ∙ sym (not_among id slots absent.1)
  ]

  pub found_within : (id : NameId) → IfSome (found id) (λ k. k < length slots)
  found_within id = elim (found_or_nowhere id (slice_get places id.0) refl) [
    | inl at ↦ subst (λ (o : Option ℕ). IfSome o (λ k. k < length slots)) (sym at.1) (slot_within slots at.0 id at.2)
    | inr absent ↦ subst (λ (o : Option ℕ). IfSome o (λ k. k < length slots)) (sym absent.0) tt
  ]

  pub found_present : (id : NameId) (k : ℕ) → found id ≡ Some k → get_or slots k None ≡ Some id
  found_present id k e = elim (found_or_nowhere id (slice_get places id.0) refl) [
    | inl at ↦ ap (λ (n : ℕ). get_or slots n None) (same_Some k at.0 (sym e ∙ at.1)) ∙ at.2
    | inr absent ↦ absurd (none-some k (sym absent.0 ∙ e))
  ]

  pub found_gone : (id : NameId) (k : ℕ) → found id ≡ Some k → numbers_in (set slots k None) ≡ without_first_place (same_id id) (numbers_in slots)
  found_gone id k e = cleared slots k ∙ out id k (found_present id k e)
    where
      out : (id : NameId) (k : ℕ) → get_or slots k None ≡ Some id → numbers_in (take k slots) ++ numbers_in (drop (suc k) slots) ≡ without_first_place (same_id id) (numbers_in slots)
      out id k at = gone id slots k at (λ j lt other. absurd (omega (arith, lt, once j k id other at)))

  pub not_found : (id : NameId) → found id ≡ None → without_first_place (same_id id) (numbers_in slots) ≡ numbers_in slots
  not_found id e = elim (found_or_nowhere id (slice_get places id.0) refl) [
    | inl at ↦ absurd (none-some at.0 (sym e ∙ at.1))
    | inr absent ↦ stays_whole id slots absent.1
  ]

  pub distinct : IsDistinct same_id (numbers_in slots)
  unfolding IsDistinct
  distinct = apart slots once
    where
      none_same : (x : NameId) (rest : Slots) → IsNowhere x rest → AllByRecursion (λ y. same_id x y ≡ false) (numbers_in rest)
      none_same x [] none = tt
      none_same x (None ∷ rest) none = none_same x rest (λ k. none (suc k))
      none_same x (Some y ∷ rest) none = (other_number x y (λ e. none 0 (ap {B = Option NameId} (λ (z : NameId). Some z) e)), none_same x rest (λ k. none (suc k)))

      apart : (rest : Slots) → ((j k : ℕ) (id : NameId) → get_or rest j None ≡ Some id → get_or rest k None ≡ Some id → j ≡ k) → IsDistinct same_id (numbers_in rest)
      apart [] one = tt
      apart (None ∷ rest) one = apart rest (λ j k id a b. omega (arith, one (suc j) (suc k) id a b))
      apart (Some x ∷ rest) one = IsDistinct-cons same_id x (numbers_in rest) (none_same x rest (λ k at. absurd (omega (arith, one 0 (suc k) x refl at)))) (apart rest (λ j k id a b. omega (arith, one (suc j) (suc k) id a b)))

pub put_places : (slots : Slots) (places : List ℕ) (id : NameId) → HavePlaces slots places → list_any (same_id id) (numbers_in slots) ≡ false → id.0 < length places → HavePlaces (slots ++ Some id ∷ []) (set places id.0 (length slots))
put_places slots places id placed fresh known k x at = elim (last_slot slots id x k at) [
  | inl old ↦
      set_other places id.0 x.0 (length slots) (λ e. both_ways (list_any (same_id id) (numbers_in slots)) fresh (among id slots k (old ∙ ap {B = Option NameId} (λ (n : ℕ). Some (name_id n)) e)))
      ∙ placed k x old
  | inr last ↦
      ap (λ (y : NameId). slice_get (set places id.0 (length slots)) y.0) (sym last.1) ∙ set_same places id.0 (length slots) known ∙ ap {B = Option ℕ} (λ (n : ℕ). Some n) (sym last.0)
]

pub put_marked : (slots : Slots) (old places : List ℕ) (len : ℕ) (id : NameId) → AreMarkedPlaces slots old len → HavePlaces slots places → list_any (same_id id) (numbers_in slots) ≡ false → id.0 < length places → length slots < 2 ^ 32 → AreMarkedPlaces (slots ++ Some id ∷ []) (set places id.0 (length slots)) (len + 1)
put_marked slots old places len id marked placed fresh known few = record {
  placed = put_places slots places id placed fresh known;
  counted = omega (arith, ap length (numbers-append slots (Some id ∷ [])), length-append (numbers_in slots) (id ∷ []), marked.counted);
  few = omega (arith, length-append slots (Some id ∷ []), few);
  dense = omega (arith, length-append slots (Some id ∷ []), marked.dense);
}

-- ---- removing all marks

module _ (slots : Slots) (places : List ℕ) (read write : ℕ) (closing : AreClosing slots places read write) (within : read < length slots) (id : NameId) (here : get_or slots read None ≡ Some id) where
  kept : slice_get places id.0 ≡ Some read
  kept = closing.left read id (omega arith) here

  -- A number that is kept at another place is a different number.
  apart : (k : ℕ) (x : NameId) → k ≢ read → slice_get places x.0 ≡ Some k → x.0 ≢ id.0
  apart k x ne at is = ne (same_Some k read (sym at ∙ ap (slice_get places) is ∙ kept))

  write_within : write < length slots
  write_within = omega (arith, within, closing.behind)

  here_now : (k : ℕ) (x : NameId) → k ≡ write → id ≡ x → slice_get (set places id.0 write) x.0 ≡ Some k
  here_now k x place is =
      ap (λ (y : NameId). slice_get (set places id.0 write) y.0) (sym is) ∙ set_same places id.0 write (slice_get_within places id.0 read kept) ∙ ap {B = Option ℕ} (λ (n : ℕ). Some n) (sym place)

  prefix : take (write + 1) (set slots write (Some id)) ≡ take write slots ++ Some id ∷ []
  prefix = take_more_set slots write (Some id) write_within

  prefix_numbers : numbers_in (take (write + 1) (set slots write (Some id))) ≡ numbers_in (take write slots) ++ id ∷ []
  prefix_numbers = ap (λ (ss : Slots). numbers_in ss) prefix ∙ numbers-append (take write slots) (Some id ∷ [])

  pub closing_more : AreClosing (set slots write (Some id)) (set places id.0 write) (read + 1) (write + 1)
  closing_more = record {
    behind = omega (arith, closing.behind);
    moved = λ k x lt at. elim (written slots write id x k at) [
      | inl old ↦
          let was : slice_get places x.0 ≡ Some k = closing.moved k x (between k lt old.0) old.1 in
          set_other places id.0 x.0 write (apart k x (λ is. absurd (omega (arith, between k lt old.0, is, closing.behind))) was) ∙ was
      | inr new ↦ here_now k x new.0 new.1
    ];
    left = λ k x le at. elim (written slots write id x k at) [
      | inl old ↦
          let was : slice_get places x.0 ≡ Some k = closing.left k x (omega (arith, le)) old.1 in
          set_other places id.0 x.0 write (apart k x (λ is. absurd (omega (arith, le, is))) was) ∙ was
      | inr new ↦ here_now k x new.0 new.1
    ];
    full = ap length prefix_numbers ∙ omega (arith, length-append (numbers_in (take write slots)) (id ∷ []), closing.full);
    few = omega (arith, length-set slots write (Some id), closing.few);
  }
    where
      between : (k : ℕ) → k < write + 1 → k ≢ write → k < write
      between k lt ne = omega (arith, lt, ne)

  pub closing_same : closing_numbers (set slots write (Some id)) (read + 1) (write + 1) ≡ closing_numbers slots read write
  closing_same =
      let back : drop (read + 1) (set slots write (Some id)) ≡ drop (read + 1) slots = drop-set-lt (read + 1) slots write (Some id) (omega (arith, closing.behind)) in
      let next : numbers_in (drop read slots) ≡ numbers_in (get_or slots read None ∷ drop (read + 1) slots) = at_drop_more (λ (ss : Slots). numbers_in ss) slots read None within in
      (λ i. prefix_numbers i ++ numbers_in (back i))
      ∙ append_assoc (numbers_in (take write slots)) (id ∷ []) (numbers_in (drop (read + 1) slots))
      ∙ ap (λ (ns : List NameId). numbers_in (take write slots) ++ ns) (sym (next ∙ ap (λ (slot : Option NameId). cons_option slot (numbers_in (drop (read + 1) slots))) here))

-- ---- some of the numbers, in order of their places

abbrev weigh : (ℕ → ℕ) → Option ℕ → ℕ
weigh f None = 0
weigh f (Some k) = f k

abbrev passes : (NameId → Bool) → Option NameId → Bool
passes p None = false
passes p (Some id) = p id

module _ (slots : Slots) (places : List ℕ) (placed : HavePlaces slots places) (p : NameId → Bool) where
  abbrev kept_of : NameId → Option ℕ
  kept_of id = slice_get places id.0

  abbrev slot_of : ℕ → Option NameId
  slot_of k = get_or slots k None

  abbrev is_passing : ℕ → Bool
  is_passing k = passes p (slot_of k)

  kept_weights : (f : ℕ → ℕ) (ids : List NameId) → sum_by f (filter_map kept_of ids) ≡ sum_by (λ (id : NameId). weigh f (kept_of id)) ids
  kept_weights f [] = refl
  kept_weights f (id ∷ ids) = by (kept_of id) refl (kept_weights f ids)
    where
      by : (o : Option ℕ) → kept_of id ≡ o → sum_by f (filter_map kept_of ids) ≡ sum_by (λ (x : NameId). weigh f (kept_of x)) ids → sum_by f (cons_option (kept_of id) (filter_map kept_of ids)) ≡ sum_by (λ (x : NameId). weigh f (kept_of x)) (id ∷ ids)
      by None e more = ap (λ (o : Option ℕ). sum_by f (cons_option o (filter_map kept_of ids))) e ∙ omega (arith, sum_by-cons (λ (x : NameId). weigh f (kept_of x)) id ids, ap (weigh f) e, more)
      by (Some k) e more =
          ap (λ (o : Option ℕ). sum_by f (cons_option o (filter_map kept_of ids))) e ∙ omega (arith, sum_by-cons (λ (x : NameId). weigh f (kept_of x)) id ids, sum_by-cons f k (filter_map kept_of ids), ap (weigh f) e, more)

  weights_step : (f : ℕ → ℕ) (b : ℕ) (x : NameId) (ks : List ℕ) (ns : List NameId) (v : Bool) → p x ≡ v → slot_of b ≡ Some x → sum_by f ks ≡ sum_by (λ (id : NameId). weigh f (kept_of id)) ns → sum_by f (cond v (b ∷ ks) ks) ≡ sum_by (λ (id : NameId). weigh f (kept_of id)) (cond v (x ∷ ns) ns)
  weights_step f b x ks ns true h e more = omega (arith, sum_by-cons f b ks, sum_by-cons (λ (id : NameId). weigh f (kept_of id)) x ns, ap (weigh f) (placed b x e), more)
  weights_step f b x ks ns false h e more = more

  place_weights : (f : ℕ → ℕ) (rest : Slots) (b : ℕ) → ((k j : ℕ) → j ≡ b + k → slot_of j ≡ get_or rest k None) → sum_by f (filter is_passing (range_with_len b (length rest))) ≡ sum_by (λ (id : NameId). weigh f (kept_of id)) (filter p (numbers_in rest))
  place_weights f [] b agree = refl
  place_weights f (None ∷ rest) b agree =
      let head : slot_of b ≡ None = agree 0 b (omega arith) in
      let ks = filter is_passing (range_with_len (b + 1) (length rest)) in
      ap (λ (slot : Option NameId). sum_by f (cond (passes p slot) (b ∷ ks) ks)) head ∙ place_weights f rest (b + 1) (λ k j is. agree (suc k) j (omega (arith, is)))
  place_weights f (Some x ∷ rest) b agree =
      let head : slot_of b ≡ Some x = agree 0 b (omega arith) in
      let ks = filter is_passing (range_with_len (b + 1) (length rest)) in
      ap (λ (slot : Option NameId). sum_by f (cond (passes p slot) (b ∷ ks) ks)) head
      ∙ weights_step f b x ks (filter p (numbers_in rest)) (p x) refl head (place_weights f rest (b + 1) (λ k j is. agree (suc k) j (omega (arith, is))))

  numbers_step : (b : ℕ) (x : NameId) (ks : List ℕ) (ns : List NameId) (v : Bool) → slot_of b ≡ Some x → filter_map slot_of ks ≡ ns → filter_map slot_of (cond v (b ∷ ks) ks) ≡ cond v (x ∷ ns) ns
  numbers_step b x ks ns true e more = λ i. cons_option (e i) (more i)
  numbers_step b x ks ns false e more = more

  place_numbers : (rest : Slots) (b : ℕ) → ((k j : ℕ) → j ≡ b + k → slot_of j ≡ get_or rest k None) → filter_map slot_of (filter is_passing (range_with_len b (length rest))) ≡ filter p (numbers_in rest)
  place_numbers [] b agree = refl
  place_numbers (None ∷ rest) b agree =
      let head : slot_of b ≡ None = agree 0 b (omega arith) in
      let ks = filter is_passing (range_with_len (b + 1) (length rest)) in
      ap (λ (slot : Option NameId). filter_map slot_of (cond (passes p slot) (b ∷ ks) ks)) head ∙ place_numbers rest (b + 1) (λ k j is. agree (suc k) j (omega (arith, is)))
  place_numbers (Some x ∷ rest) b agree =
      let head : slot_of b ≡ Some x = agree 0 b (omega arith) in
      let ks = filter is_passing (range_with_len (b + 1) (length rest)) in
      ap (λ (slot : Option NameId). filter_map slot_of (cond (passes p slot) (b ∷ ks) ks)) head
      ∙ numbers_step b x ks (filter p (numbers_in rest)) (p x) head (place_numbers rest (b + 1) (λ k j is. agree (suc k) j (omega (arith, is))))

  itself_at : (k j : ℕ) → j ≡ 0 + k → slot_of j ≡ get_or slots k None
  itself_at k j is = ap (λ (n : ℕ). get_or slots n None) (omega (arith, is))

  found_in_order : (found : List NameId) (sorted : List ℕ) → SameElements (filter p (numbers_in slots)) found → IsPermutation (places_of places found) sorted → IsSorted nat_cmp sorted → standing_at slots sorted ≡ filter p (numbers_in slots)
  found_in_order found sorted same moved up =
      let rising : sorted ≡ filter is_passing (range_with_len 0 (length slots)) = sorted_filter is_passing (length slots) (places_of places found) sorted (λ f. place_weights f slots 0 itself_at ∙ same (λ (id : NameId). weigh f (kept_of id)) ∙ sym (kept_weights f found)) moved up in
      ap (λ (ks : List ℕ). standing_at slots ks) rising ∙ place_numbers slots 0 itself_at

pub puts_in_order : (slots : Slots) (places : List ℕ) → HavePlaces slots places → (found : List NameId) (sorted : List ℕ) → IsPermutation (places_of places found) sorted → IsSorted nat_cmp sorted → PutsInOrder (numbers_in slots) found (standing_at slots sorted)
puts_in_order slots places placed found sorted moved up p same = found_in_order slots places placed p found sorted same moved up
