-- Lemmas: slots and their marks: the number of marks before a slot, and the slot of a place.
use Rattle.std.proofs.Common.{◌≡◌, ℕ, zero, suc, ◌+◌, ◌-◌, ◌<◌, ◌≤◌, Bool, true, false, cond, List, [], ◌∷◌, ◌++◌, length, take, refl, sym, ap, ◌∙◌, arith}
use Rattle.std.specs.Prelude.{nat_le, nat_lt, slice_get}
use Rattle.std.specs.List.{AllByRecursion, filter, slice_index_or}
use Rattle.std.proofs.lemmas.Bool.Decides.{nat_tests}
use Rattle.ticket_list.specs.declared.slots.Slot.{Slot}
use Rattle.ticket_list.specs.declared.slots.Slot.TheVariants.{Element, Mark}
use Rattle.ticket_list.specs.Rising.{IsRising, prefix}
use Rattle.ticket_list.specs.Slots.{element_at, elements, ends_with_element, is_element, marks_from, slot_rank, skipped}
use Rattle.ticket_list.proofs.MarkLemmas.{beyond, up_to}

pub at_or_above : (j n : ℕ) → j ≤ n → nat_lt n j ≡ false
at_or_above j n h = grind (arith, nat_tests)

pub below : (j n : ℕ) → n < j → nat_lt n j ≡ true
below j n h = grind (arith, nat_tests)

last_length : (m : ℕ) (marks : List ℕ) → length (marks ++ m ∷ []) ≡ suc (length marks)
last_length m [] = refl
last_length m (k ∷ marks) = ap suc (last_length m marks)

take_prefix : (m : ℕ) (marks : List ℕ) → take (length marks) (marks ++ m ∷ []) ≡ marks
take_prefix m [] = refl
take_prefix m (k ∷ marks) = ap (λ (u : List ℕ). k ∷ u) (take_prefix m marks)

take_init : (m : ℕ) (marks : List ℕ) → take (length (marks ++ m ∷ []) - 1) (marks ++ m ∷ []) ≡ marks
take_init m marks =
    let long = last_length m marks in
    let same : length (marks ++ m ∷ []) - 1 ≡ length marks = omega (arith, long) in
    ap (λ (n : ℕ). take n (marks ++ m ∷ [])) same ∙ take_prefix m marks

module _ {X : Type 0} where
  marks_above : (n k : ℕ) (slots : List (Slot X)) → n < k → AllByRecursion (λ m. n < m) (marks_from k slots)
  marks_above n k [] lt = tt
  marks_above n k (Element x ∷ slots) lt = marks_above n (suc k) slots (omega (arith, lt))
  marks_above n k (Mark t ∷ slots) lt = (lt, marks_above n (suc k) slots (omega (arith, lt)))

  pub marks_rise : (n : ℕ) (slots : List (Slot X)) → IsRising (marks_from n slots)
  marks_rise n [] = tt
  marks_rise n (Element x ∷ slots) = marks_rise (suc n) slots
  marks_rise n (Mark t ∷ slots) = (marks_above n (suc n) slots (omega arith), marks_rise (suc n) slots)

  pub counted : (n : ℕ) (slots : List (Slot X)) → length (elements slots) + length (marks_from n slots) ≡ length slots
  counted n [] = refl
  counted n (Element x ∷ slots) = let more = counted (suc n) slots in omega (arith, more)
  counted n (Mark t ∷ slots) = let more = counted (suc n) slots in omega (arith, more)

  none_before : (j n : ℕ) (slots : List (Slot X)) → j ≤ n → prefix (λ m. nat_lt m j) (marks_from n slots) ≡ 0
  none_before j n [] le = refl
  none_before j n (Element x ∷ slots) le = none_before j (suc n) slots (omega (arith, le))
  none_before j n (Mark t ∷ slots) le = ap (λ (b : Bool). cond b (suc (prefix (λ m. nat_lt m j) (marks_from (suc n) slots))) 0) (at_or_above j n le)

  -- the marks and the elements in the first `k` slots are `k` in all
  ranked_from : (n j k : ℕ) (slots : List (Slot X)) → j ≡ n + k → k ≤ length slots → prefix (λ m. nat_lt m j) (marks_from n slots) + slot_rank k slots ≡ k
  ranked_from n j zero slots e le = let none = none_before j n slots (omega (arith, e)) in omega (arith, none)
  ranked_from n j (suc k) [] e le = absurd (omega (arith, le))
  ranked_from n j (suc k) (Element x ∷ slots) e le =
      let more = ranked_from (suc n) j k slots (omega (arith, e)) (omega (arith, le)) in omega (arith, more)
  ranked_from n j (suc k) (Mark t ∷ slots) e le =
      let more = ranked_from (suc n) j k slots (omega (arith, e)) (omega (arith, le)) in
      let here = ap (λ (b : Bool). cond b (suc (prefix (λ m. nat_lt m j) (marks_from (suc n) slots))) 0) (below j n (omega (arith, e))) in
      omega (arith, more, here)

  pub ranked : (k : ℕ) (slots : List (Slot X)) → k ≤ length slots → prefix (λ m. nat_lt m k) (marks_from 0 slots) + slot_rank k slots ≡ k
  ranked k slots le = ranked_from 0 k k slots (omega arith) le

  no_skip : (k n : ℕ) (slots : List (Slot X)) → k < n → skipped k (marks_from n slots) ≡ k
  no_skip k n [] lt = refl
  no_skip k n (Element x ∷ slots) lt = no_skip k (suc n) slots (omega (arith, lt))
  no_skip k n (Mark t ∷ slots) lt = ap (λ (b : Bool). cond b (skipped (suc k) (marks_from (suc n) slots)) k) (beyond n k lt)

  skips_on : (k n : ℕ) (slots : List (Slot X)) → k ≤ skipped k (marks_from n slots)
  skips_on k n [] = omega arith
  skips_on k n (Element x ∷ slots) = skips_on k (suc n) slots
  skips_on k n (Mark t ∷ slots) = go (nat_le n k) (skips_on (suc k) (suc n) slots) where
    go : (b : Bool) → suc k ≤ skipped (suc k) (marks_from (suc n) slots) → k ≤ cond b (skipped (suc k) (marks_from (suc n) slots)) k
    go true h = omega (arith, h)
    go false h = omega arith

  -- the element at a place is in the slot that is the place plus the number of marks before it
  reached : (n p q : ℕ) (slots : List (Slot X)) (j : ℕ) → q ≡ n + p → skipped q (marks_from n slots) ≡ n + j → element_at slots j ≡ slice_get (elements slots) p
  reached n p q [] j e h = refl
  reached n zero q (Element x ∷ slots) zero e h = refl
  reached n zero q (Element x ∷ slots) (suc j) e h = let same = no_skip q (suc n) slots (omega (arith, e)) in absurd (omega (arith, same, h, e))
  reached n (suc p) q (Element x ∷ slots) zero e h = let on = skips_on q (suc n) slots in absurd (omega (arith, on, h, e))
  reached n (suc p) q (Element x ∷ slots) (suc j) e h = reached (suc n) p q slots j (omega (arith, e)) (omega (arith, h))
  reached n p q (Mark t ∷ slots) zero e h =
      let on = skips_on (suc q) (suc n) slots in
      let here = ap (λ (b : Bool). cond b (skipped (suc q) (marks_from (suc n) slots)) q) (up_to n q (omega (arith, e))) in
      absurd (omega (arith, on, here, h, e))
  reached n p q (Mark t ∷ slots) (suc j) e h =
      let here = ap (λ (b : Bool). cond b (skipped (suc q) (marks_from (suc n) slots)) q) (up_to n q (omega (arith, e))) in
      reached (suc n) p (suc q) slots j (omega (arith, e)) (omega (arith, here, h))

  pub element_of_place : (p : ℕ) (slots : List (Slot X)) → element_at slots (skipped p (marks_from 0 slots)) ≡ slice_get (elements slots) p
  element_of_place p slots = reached 0 p p slots (skipped p (marks_from 0 slots)) (omega arith) (omega arith)

  -- the slots without the marks have the same elements
  pub closed_elements : (slots : List (Slot X)) → elements (filter is_element slots) ≡ elements slots
  closed_elements [] = refl
  closed_elements (Element x ∷ slots) = ap (λ (u : List X). x ∷ u) (closed_elements slots)
  closed_elements (Mark t ∷ slots) = closed_elements slots

  pub closed_marks : (n : ℕ) (slots : List (Slot X)) → [] ≡ marks_from n (filter is_element slots)
  closed_marks n [] = refl
  closed_marks n (Element x ∷ slots) = closed_marks (suc n) slots
  closed_marks n (Mark t ∷ slots) = closed_marks n slots

  ends_behind : (x : X) (slots : List (Slot X)) → ends_with_element slots ≡ true → ends_with_element (Element x ∷ slots) ≡ true
  ends_behind x [] h = refl
  ends_behind x (slot ∷ slots) h = h

  pub closed_ends : (slots : List (Slot X)) → ends_with_element (filter is_element slots) ≡ true
  closed_ends [] = refl
  closed_ends (Element x ∷ slots) = ends_behind x (filter is_element slots) (closed_ends slots)
  closed_ends (Mark t ∷ slots) = closed_ends slots

  -- the elements, if one slot is added or removed at the end
  pub last_elements : (x : X) (slots : List (Slot X)) → elements (slots ++ Element x ∷ []) ≡ elements slots ++ x ∷ []
  last_elements x [] = refl
  last_elements x (Element y ∷ slots) = ap (λ (u : List X). y ∷ u) (last_elements x slots)
  last_elements x (Mark t ∷ slots) = last_elements x slots

  pub last_marks : (n : ℕ) (x : X) (slots : List (Slot X)) → marks_from n (slots ++ Element x ∷ []) ≡ marks_from n slots
  last_marks n x [] = refl
  last_marks n x (Element y ∷ slots) = last_marks (suc n) x slots
  last_marks n x (Mark t ∷ slots) = ap (λ (u : List ℕ). n ∷ u) (last_marks (suc n) x slots)

  pub ends_with_last : (slot : Slot X) (slots : List (Slot X)) → ends_with_element (slots ++ slot ∷ []) ≡ is_element slot
  ends_with_last slot [] = refl
  ends_with_last slot (a ∷ []) = refl
  ends_with_last slot (a ∷ b ∷ slots) = ends_with_last slot (b ∷ slots)

  pub mark_elements : (t : ℕ) (slots : List (Slot X)) → elements (slots ++ Mark t ∷ []) ≡ elements slots
  mark_elements t [] = refl
  mark_elements t (Element y ∷ slots) = ap (λ (u : List X). y ∷ u) (mark_elements t slots)
  mark_elements t (Mark u ∷ slots) = mark_elements t slots

  pub mark_marks : (n t : ℕ) (slots : List (Slot X)) → marks_from n (slots ++ Mark t ∷ []) ≡ marks_from n slots ++ (n + length slots) ∷ []
  mark_marks n t [] = let same : n ≡ n + 0 = omega arith in ap (λ (m : ℕ). m ∷ []) same
  mark_marks n t (Element y ∷ slots) = let same : suc n + length slots ≡ n + suc (length slots) = omega arith in mark_marks (suc n) t slots ∙ ap (λ (m : ℕ). marks_from (suc n) slots ++ m ∷ []) same
  mark_marks n t (Mark u ∷ slots) =
      let same : suc n + length slots ≡ n + suc (length slots) = omega arith in
      ap (λ (u : List ℕ). n ∷ u) (mark_marks (suc n) t slots ∙ ap (λ (m : ℕ). marks_from (suc n) slots ++ m ∷ []) same)

  pub ends_is : (d : Slot X) (slots : List (Slot X)) → 1 ≤ length slots → ends_with_element slots ≡ is_element (slice_index_or slots (length slots - 1) d)
  ends_is d [] h = absurd (omega (arith, h))
  ends_is d (slot ∷ []) h = refl
  ends_is d (slot ∷ next ∷ slots) h =
      let same : length (slot ∷ next ∷ slots) - 1 ≡ suc (length (next ∷ slots) - 1) = omega arith in
      ends_is d (next ∷ slots) (omega arith) ∙ ap (λ (n : ℕ). is_element (slice_index_or (slot ∷ next ∷ slots) n d)) (sym same)

  -- the last slot is a mark, and the other slots are before it
  pub last_mark : (slots : List (Slot X)) → ends_with_element slots ≡ false → (t : ℕ) × (slots ≡ take (length slots - 1) slots ++ Mark t ∷ [])
  last_mark [] h = let wrong : true ≡ false = h in absurd (cc)
  last_mark (Element x ∷ []) h = let wrong : true ≡ false = h in absurd (cc)
  last_mark (Mark t ∷ []) h = (t, refl)
  last_mark (slot ∷ next ∷ slots) h =
      let more = last_mark (next ∷ slots) h in
      let same : suc (length (next ∷ slots) - 1) ≡ length (slot ∷ next ∷ slots) - 1 = omega arith in
      (more.0, ap (λ (u : List (Slot X)). slot ∷ u) more.1 ∙ ap (λ (n : ℕ). take n (slot ∷ next ∷ slots) ++ Mark more.0 ∷ []) same)

  pub dropped_elements : (slots : List (Slot X)) → ends_with_element slots ≡ false → elements (take (length slots - 1) slots) ≡ elements slots
  dropped_elements slots h =
      let last = last_mark slots h in
      sym (ap (λ (u : List (Slot X)). elements u) last.1 ∙ mark_elements last.0 (take (length slots - 1) slots))

  pub dropped_marks : (slots : List (Slot X)) → ends_with_element slots ≡ false
      → take (length (marks_from 0 slots) - 1) (marks_from 0 slots) ≡ marks_from 0 (take (length slots - 1) slots)
  dropped_marks slots h =
      let last = last_mark slots h in
      let init = take (length slots - 1) slots in
      let same = ap (λ (u : List (Slot X)). marks_from 0 u) last.1 ∙ mark_marks 0 last.0 init in
      ap (λ (u : List ℕ). take (length u - 1) u) same ∙ take_init (0 + length init) (marks_from 0 init)
