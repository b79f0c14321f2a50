-- Lemmas: the slots after a change of an element, or after a mark replaces the element.
use Rattle.std.proofs.Common.{◌≡◌, ℕ, zero, suc, ◌+◌, ◌<◌, Bool, true, false, not, cond, List, [], ◌∷◌, ◌++◌, length, map, refl, sym, ap, ◌∙◌, arith, subst}
use Rattle.std.specs.Prelude.{nat_eq, nat_lt, set, get_or}
use Rattle.std.specs.List.{AllByRecursion, filter}
use Rattle.std.proofs.lemmas.Bool.Decides.{nat_tests}
use Rattle.ticket_list.specs.declared.slots.Slot.{Slot}
use Rattle.ticket_list.specs.declared.slots.Slot.TheVariants.{Element, Mark}
use Rattle.ticket_list.specs.Rising.{IsRisingBy, put_in}
use Rattle.ticket_list.specs.TicketList.{with_change, without_ticket}
use Rattle.ticket_list.specs.Slots.{AreSlots, changed_slot, elements, ends_with_element, is_element, marks_from, slot_for, slot_ticket, occurs_at, with_element}
use Rattle.ticket_list.proofs.SlotLemmas.{at_or_above, below, ends_with_last, last_marks}
use Rattle.ticket_list.proofs.RisingLemmas.{rising_last}
use Rattle.ticket_list.proofs.FoundLemmas.{differs_below, others_behind, others_change, others_without}

module _ {X : Type 0} (f : X → X) where
  pub changed_read : (k : ℕ) (x : X) (slots : List (Slot X)) (d : Slot X) → k < length slots → get_or slots k d ≡ Element x → set slots k (Element (f x)) ≡ changed_slot k f slots
  changed_read k x [] d lt h = absurd (omega (arith, lt))
  changed_read zero x (slot ∷ slots) d lt h = ap (λ (s : Slot X). with_element f s ∷ slots) (sym h)
  changed_read (suc k) x (slot ∷ slots) d lt h = ap (λ (u : List (Slot X)). slot ∷ u) (changed_read k x slots d (omega (arith, lt)) h)

  pub kept_read : (k t : ℕ) (slots : List (Slot X)) (d : Slot X) → k < length slots → get_or slots k d ≡ Mark t → set slots k (Mark t) ≡ changed_slot k f slots
  kept_read k t [] d lt h = absurd (omega (arith, lt))
  kept_read zero t (slot ∷ slots) d lt h = ap (λ (s : Slot X). with_element f s ∷ slots) (sym h)
  kept_read (suc k) t (slot ∷ slots) d lt h = ap (λ (u : List (Slot X)). slot ∷ u) (kept_read k t slots d (omega (arith, lt)) h)

module _ {X : Type 0} (ticket_of : X → ℕ) (t : ℕ) where
  pub changed_elements : (f : X → X) (slots : List (Slot X)) → IsRisingBy (slot_ticket ticket_of) slots → occurs_at ticket_of slots (slot_for ticket_of t slots) t ≡ true
      → elements (changed_slot (slot_for ticket_of t slots) f slots) ≡ with_change ticket_of t f (elements slots)
  changed_elements f [] rising h = refl
  changed_elements f (Element x ∷ slots) rising h = go (nat_lt (ticket_of x) t) refl h (changed_elements f slots rising.1) where
    go : (b : Bool) → nat_lt (ticket_of x) t ≡ b
        → occurs_at ticket_of (Element x ∷ slots) (cond b (suc (slot_for ticket_of t slots)) 0) t ≡ true
        → (occurs_at ticket_of slots (slot_for ticket_of t slots) t ≡ true → elements (changed_slot (slot_for ticket_of t slots) f slots) ≡ with_change ticket_of t f (elements slots))
        → elements (changed_slot (cond b (suc (slot_for ticket_of t slots)) 0) f (Element x ∷ slots)) ≡ with_change ticket_of t f (x ∷ elements slots)
    go true e h more = ap (λ (u : List X). x ∷ u) (more h) ∙ ap (λ (b : Bool). cond b (f x) x ∷ with_change ticket_of t f (elements slots)) (sym (differs_below (ticket_of x) t e))
    go false e h more =
        ap (λ (u : List X). f x ∷ u) (others_change ticket_of t f (elements slots) (others_behind ticket_of t (ticket_of x) slots rising.0 e))
        ∙ ap (λ (b : Bool). cond b (f x) x ∷ with_change ticket_of t f (elements slots)) (sym h)
  changed_elements f (Mark u ∷ slots) rising h = go (nat_lt u t) h (changed_elements f slots rising.1) where
    go : (b : Bool)
        → occurs_at ticket_of (Mark u ∷ slots) (cond b (suc (slot_for ticket_of t slots)) 0) t ≡ true
        → (occurs_at ticket_of slots (slot_for ticket_of t slots) t ≡ true → elements (changed_slot (slot_for ticket_of t slots) f slots) ≡ with_change ticket_of t f (elements slots))
        → elements (changed_slot (cond b (suc (slot_for ticket_of t slots)) 0) f (Mark u ∷ slots)) ≡ with_change ticket_of t f (elements slots)
    go true h more = more h
    go false h more = let wrong : false ≡ true = h in absurd (cc)

  -- a mark replaces the element with the ticket
  pub marked_elements : (slots : List (Slot X)) → IsRisingBy (slot_ticket ticket_of) slots → occurs_at ticket_of slots (slot_for ticket_of t slots) t ≡ true
      → elements (set slots (slot_for ticket_of t slots) (Mark t)) ≡ without_ticket ticket_of t (elements slots)
  marked_elements [] rising h = refl
  marked_elements (Element x ∷ slots) rising h = go (nat_lt (ticket_of x) t) refl h (marked_elements slots rising.1) where
    go : (b : Bool) → nat_lt (ticket_of x) t ≡ b
        → occurs_at ticket_of (Element x ∷ slots) (cond b (suc (slot_for ticket_of t slots)) 0) t ≡ true
        → (occurs_at ticket_of slots (slot_for ticket_of t slots) t ≡ true → elements (set slots (slot_for ticket_of t slots) (Mark t)) ≡ without_ticket ticket_of t (elements slots))
        → elements (set (Element x ∷ slots) (cond b (suc (slot_for ticket_of t slots)) 0) (Mark t)) ≡ without_ticket ticket_of t (x ∷ elements slots)
    go true e h more = ap (λ (u : List X). x ∷ u) (more h) ∙ ap (λ (b : Bool). cond (not b) (x ∷ without_ticket ticket_of t (elements slots)) (without_ticket ticket_of t (elements slots))) (sym (differs_below (ticket_of x) t e))
    go false e h more =
        others_without ticket_of t (elements slots) (others_behind ticket_of t (ticket_of x) slots rising.0 e)
        ∙ ap (λ (b : Bool). cond (not b) (x ∷ without_ticket ticket_of t (elements slots)) (without_ticket ticket_of t (elements slots))) (sym h)
  marked_elements (Mark u ∷ slots) rising h = go (nat_lt u t) h (marked_elements slots rising.1) where
    go : (b : Bool)
        → occurs_at ticket_of (Mark u ∷ slots) (cond b (suc (slot_for ticket_of t slots)) 0) t ≡ true
        → (occurs_at ticket_of slots (slot_for ticket_of t slots) t ≡ true → elements (set slots (slot_for ticket_of t slots) (Mark t)) ≡ without_ticket ticket_of t (elements slots))
        → elements (set (Mark u ∷ slots) (cond b (suc (slot_for ticket_of t slots)) 0) (Mark t)) ≡ without_ticket ticket_of t (elements slots)
    go true h more = more h
    go false h more = let wrong : false ≡ true = h in absurd (cc)

same_number : (a b : ℕ) → nat_eq a b ≡ true → a ≡ b
same_number a b h = grind (arith, nat_tests)

module _ {X : Type 0} (k : X → ℕ) where
  to_tickets_all : (n : ℕ) (xs : List X) → AllByRecursion (λ y. n < k y) xs → AllByRecursion (λ m. n < m) (map k xs)
  to_tickets_all n [] h = tt
  to_tickets_all n (x ∷ xs) h = (h.0, to_tickets_all n xs h.1)

  to_tickets : (xs : List X) → IsRisingBy k xs → IsRisingBy (λ m. m) (map k xs)
  to_tickets [] h = tt
  to_tickets (x ∷ xs) h = (to_tickets_all (k x) xs h.0, to_tickets xs h.1)

  of_tickets_all : (n : ℕ) (xs : List X) → AllByRecursion (λ m. n < m) (map k xs) → AllByRecursion (λ y. n < k y) xs
  of_tickets_all n [] h = tt
  of_tickets_all n (x ∷ xs) h = (h.0, of_tickets_all n xs h.1)

  of_tickets : (xs : List X) → IsRisingBy (λ m. m) (map k xs) → IsRisingBy k xs
  of_tickets [] h = tt
  of_tickets (x ∷ xs) h = (of_tickets_all (k x) xs h.0, of_tickets xs h.1)

  -- if two lists have the same tickets and those of the first rise, those of the second rise
  pub rising_same : (xs ys : List X) → map k xs ≡ map k ys → IsRisingBy k xs → IsRisingBy k ys
  rising_same xs ys e h = of_tickets ys (subst (λ u. IsRisingBy (λ m. m) u) e (to_tickets xs h))

module _ {X : Type 0} (ticket_of : X → ℕ) where
  change_tickets : (f : X → X) → ((x : X) → ticket_of (f x) ≡ ticket_of x) → (k : ℕ) (slots : List (Slot X))
      → map (slot_ticket ticket_of) slots ≡ map (slot_ticket ticket_of) (changed_slot k f slots)
  change_tickets f same k [] = refl
  change_tickets f same zero (Element x ∷ slots) = ap (λ (n : ℕ). n ∷ map (slot_ticket ticket_of) slots) (sym (same x))
  change_tickets f same zero (Mark t ∷ slots) = refl
  change_tickets f same (suc k) (slot ∷ slots) = ap (λ (u : List ℕ). slot_ticket ticket_of slot ∷ u) (change_tickets f same k slots)

  change_marks : (f : X → X) (k n : ℕ) (slots : List (Slot X)) → marks_from n slots ≡ marks_from n (changed_slot k f slots)
  change_marks f k n [] = refl
  change_marks f zero n (Element x ∷ slots) = refl
  change_marks f zero n (Mark t ∷ slots) = refl
  change_marks f (suc k) n (Element x ∷ slots) = change_marks f k (suc n) slots
  change_marks f (suc k) n (Mark t ∷ slots) = ap (λ (u : List ℕ). n ∷ u) (change_marks f k (suc n) slots)

  change_ends : (f : X → X) (k : ℕ) (slots : List (Slot X)) → ends_with_element (changed_slot k f slots) ≡ ends_with_element slots
  change_ends f k [] = refl
  change_ends f zero (Element x ∷ []) = refl
  change_ends f zero (Mark t ∷ []) = refl
  change_ends f zero (Element x ∷ next ∷ slots) = refl
  change_ends f zero (Mark t ∷ next ∷ slots) = refl
  change_ends f (suc k) (slot ∷ []) = refl
  change_ends f (suc zero) (slot ∷ next ∷ slots) = change_ends f zero (next ∷ slots)
  change_ends f (suc (suc k)) (slot ∷ next ∷ slots) = change_ends f (suc k) (next ∷ slots)

  pub change_length : (f : X → X) (k : ℕ) (slots : List (Slot X)) → length (changed_slot k f slots) ≡ length slots
  change_length f k [] = refl
  change_length f zero (slot ∷ slots) = refl
  change_length f (suc k) (slot ∷ slots) = ap suc (change_length f k slots)

  pub AreSlots-changed : (f : X → X) → ((x : X) → ticket_of (f x) ≡ ticket_of x) → (k : ℕ) (slots : List (Slot X)) (marks : List ℕ)
      → AreSlots ticket_of slots marks → AreSlots ticket_of (changed_slot k f slots) marks
  AreSlots-changed f same k slots marks h = record {
    rising = rising_same (slot_ticket ticket_of) slots (changed_slot k f slots) (change_tickets f same k slots) h.rising;
    marked = h.marked ∙ change_marks f k 0 slots;
    last = change_ends f k slots ∙ h.last;
  }

  mark_tickets : (t k : ℕ) (slots : List (Slot X)) → occurs_at ticket_of slots k t ≡ true
      → map (slot_ticket ticket_of) slots ≡ map (slot_ticket ticket_of) (set slots k (Mark t))
  mark_tickets t k [] h = refl
  mark_tickets t zero (Element x ∷ slots) h = let same : ticket_of x ≡ t = same_number (ticket_of x) t h in ap (λ (n : ℕ). n ∷ map (slot_ticket ticket_of) slots) same
  mark_tickets t zero (Mark u ∷ slots) h = let wrong : false ≡ true = h in absurd (cc)
  mark_tickets t (suc k) (slot ∷ slots) h = ap (λ (u : List ℕ). slot_ticket ticket_of slot ∷ u) (mark_tickets t k slots h)

  pub rising_marked : (t k : ℕ) (slots : List (Slot X)) → occurs_at ticket_of slots k t ≡ true → IsRisingBy (slot_ticket ticket_of) slots
      → IsRisingBy (slot_ticket ticket_of) (set slots k (Mark t))
  rising_marked t k slots h rising = rising_same (slot_ticket ticket_of) slots (set slots k (Mark t)) (mark_tickets t k slots h) rising

  put_first : (j n : ℕ) (slots : List (Slot X)) → j < n → j ∷ marks_from n slots ≡ put_in j (marks_from n slots)
  put_first j n [] lt = refl
  put_first j n (Element x ∷ slots) lt = put_first j (suc n) slots (omega (arith, lt))
  put_first j n (Mark t ∷ slots) lt =
      ap (λ (b : Bool). cond b (n ∷ put_in j (marks_from (suc n) slots)) (j ∷ (n ∷ marks_from (suc n) slots))) (sym (at_or_above j n (omega (arith, lt))))

  marked_from : (t k n j : ℕ) (slots : List (Slot X)) → j ≡ n + k → occurs_at ticket_of slots k t ≡ true
      → put_in j (marks_from n slots) ≡ marks_from n (set slots k (Mark t))
  marked_from t k n j [] e h = let wrong : false ≡ true = h in absurd (cc)
  marked_from t zero n j (Element x ∷ slots) e h =
      let same : j ≡ n = omega (arith, e) in
      sym (put_first j (suc n) slots (omega (arith, same))) ∙ ap (λ (m : ℕ). m ∷ marks_from (suc n) slots) same
  marked_from t zero n j (Mark u ∷ slots) e h = let wrong : false ≡ true = h in absurd (cc)
  marked_from t (suc k) n j (Element x ∷ slots) e h = marked_from t k (suc n) j slots (omega (arith, e)) h
  marked_from t (suc k) n j (Mark u ∷ slots) e h =
      ap (λ (b : Bool). cond b (n ∷ put_in j (marks_from (suc n) slots)) (j ∷ (n ∷ marks_from (suc n) slots))) (below j n (omega (arith, e)))
      ∙ ap (λ (u : List ℕ). n ∷ u) (marked_from t k (suc n) j slots (omega (arith, e)) h)

  pub marks_put : (t k : ℕ) (slots : List (Slot X)) → occurs_at ticket_of slots k t ≡ true → put_in k (marks_from 0 slots) ≡ marks_from 0 (set slots k (Mark t))
  marks_put t k slots h = marked_from t k 0 k slots (omega arith) h

  -- the slots without the marks
  filter_above : (n : ℕ) (slots : List (Slot X)) → AllByRecursion (λ s. n < slot_ticket ticket_of s) slots → AllByRecursion (λ s. n < slot_ticket ticket_of s) (filter is_element slots)
  filter_above n [] h = tt
  filter_above n (Element x ∷ slots) h = (h.0, filter_above n slots h.1)
  filter_above n (Mark t ∷ slots) h = filter_above n slots h.1

  pub rising_closed : (slots : List (Slot X)) → IsRisingBy (slot_ticket ticket_of) slots → IsRisingBy (slot_ticket ticket_of) (filter is_element slots)
  rising_closed [] h = tt
  rising_closed (Element x ∷ slots) h = (filter_above (ticket_of x) slots h.0, rising_closed slots h.1)
  rising_closed (Mark t ∷ slots) h = rising_closed slots h.1

  elements_above : (n : ℕ) (slots : List (Slot X)) → AllByRecursion (λ s. n < slot_ticket ticket_of s) slots → AllByRecursion (λ x. n < ticket_of x) (elements slots)
  elements_above n [] h = tt
  elements_above n (Element x ∷ slots) h = (h.0, elements_above n slots h.1)
  elements_above n (Mark t ∷ slots) h = elements_above n slots h.1

  pub elements_rise : (slots : List (Slot X)) → IsRisingBy (slot_ticket ticket_of) slots → IsRisingBy ticket_of (elements slots)
  elements_rise [] h = tt
  elements_rise (Element x ∷ slots) h = (elements_above (ticket_of x) slots h.0, elements_rise slots h.1)
  elements_rise (Mark t ∷ slots) h = elements_rise slots h.1

  -- a ticket above all elements is above all slots, since the last slot is an element
  slots_below : (t : ℕ) (slots : List (Slot X)) → IsRisingBy (slot_ticket ticket_of) slots → ends_with_element slots ≡ true → AllByRecursion (λ x. ticket_of x < t) (elements slots)
      → AllByRecursion (λ s. slot_ticket ticket_of s < t) slots
  slots_below t [] rising ends h = tt
  slots_below t (Element x ∷ []) rising ends h = (h.0, tt)
  slots_below t (Mark u ∷ []) rising ends h = let wrong : false ≡ true = ends in absurd (cc)
  slots_below t (Element x ∷ next ∷ slots) rising ends h = (h.0, slots_below t (next ∷ slots) rising.1 ends h.1)
  slots_below t (Mark u ∷ next ∷ slots) rising ends h =
      let behind = slots_below t (next ∷ slots) rising.1 ends h in
      let lt : u < slot_ticket ticket_of next = rising.0.0 in
      let end : slot_ticket ticket_of next < t = behind.0 in
      (omega (arith, lt, end), behind)

  pub AreSlots-pushed : (x : X) (slots : List (Slot X)) (marks : List ℕ) → AreSlots ticket_of slots marks → AllByRecursion (λ y. ticket_of y < ticket_of x) (elements slots)
      → AreSlots ticket_of (slots ++ Element x ∷ []) marks
  AreSlots-pushed x slots marks h last = record {
    rising = rising_last (slot_ticket ticket_of) (Element x) slots h.rising (slots_below (ticket_of x) slots h.rising h.last last);
    marked = h.marked ∙ sym (last_marks 0 x slots);
    last = ends_with_last (Element x) slots;
  }

module _ {X : Type 0} (ticket_of : X → ℕ) (t : ℕ) where
  pub changed_here : (f : X → X) (slots : List (Slot X)) (k : ℕ) → IsRisingBy (slot_ticket ticket_of) slots → k ≡ slot_for ticket_of t slots → occurs_at ticket_of slots k t ≡ true
      → elements (changed_slot k f slots) ≡ with_change ticket_of t f (elements slots)
  changed_here f slots k rising e h =
      ap (λ (n : ℕ). elements (changed_slot n f slots)) e ∙ changed_elements ticket_of t f slots rising (ap (λ (n : ℕ). occurs_at ticket_of slots n t) (sym e) ∙ h)

  pub marked_here : (slots : List (Slot X)) (k : ℕ) → IsRisingBy (slot_ticket ticket_of) slots → k ≡ slot_for ticket_of t slots → occurs_at ticket_of slots k t ≡ true
      → elements (set slots k (Mark t)) ≡ without_ticket ticket_of t (elements slots)
  marked_here slots k rising e h =
      ap (λ (n : ℕ). elements (set slots n (Mark t))) e ∙ marked_elements ticket_of t slots rising (ap (λ (n : ℕ). occurs_at ticket_of slots n t) (sym e) ∙ h)
