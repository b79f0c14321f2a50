-- Lemmas: the element with a ticket, its slot and its place, or that there is no such element.
use Rattle.std.proofs.Common.{◌≡◌, ℕ, zero, suc, ◌+◌, ◌<◌, Bool, true, false, not, cond, List, [], ◌∷◌, length, refl, sym, ap, ◌∙◌, arith}
use Rattle.std.specs.Prelude.{nat_eq, nat_lt, find, position, Some, None}
use Rattle.std.specs.List.{AllByRecursion, position_or_len}
use Rattle.std.proofs.lemmas.Bool.Decides.{nat_tests}
use Rattle.ticket_list.specs.declared.slots.Slot.{Slot}
use Rattle.ticket_list.specs.declared.slots.Slot.TheVariants.{Element, Mark}
use Rattle.ticket_list.specs.Rising.{IsRisingBy}
use Rattle.ticket_list.specs.TicketList.{has_ticket, with_change, without_ticket}
use Rattle.ticket_list.specs.Slots.{element_at, elements, slot_rank, slot_for, slot_ticket, occurs_at}

pub differs_below : (x t : ℕ) → nat_lt x t ≡ true → nat_eq x t ≡ false
differs_below x t h = grind (arith, nat_tests)

differs_above : (n x t : ℕ) → n < x → nat_lt n t ≡ false → nat_eq x t ≡ false
differs_above n x t lt h = grind (arith, nat_tests)

above_too : (x t : ℕ) → nat_lt x t ≡ false → nat_eq x t ≡ false → nat_lt x (suc t) ≡ false
above_too x t h e = grind (arith, nat_tests)

module _ {X : Type 0} (ticket_of : X → ℕ) (t : ℕ) where
  abbrev pub AreOthers : List X → Type 0
  AreOthers xs = AllByRecursion (λ x. has_ticket ticket_of t x ≡ false) xs

  -- if a slot's ticket isn't below this ticket, no element after the slot has this ticket
  pub others_behind : (n : ℕ) (slots : List (Slot X)) → AllByRecursion (λ s. n < slot_ticket ticket_of s) slots → nat_lt n t ≡ false → AreOthers (elements slots)
  others_behind n [] h low = tt
  others_behind n (Element x ∷ slots) h low = (differs_above n (ticket_of x) t h.0 low, others_behind n slots h.1 low)
  others_behind n (Mark u ∷ slots) h low = others_behind n slots h.1 low

  pub absent_others : (slots : List (Slot X)) → IsRisingBy (slot_ticket ticket_of) slots → occurs_at ticket_of slots (slot_for ticket_of t slots) t ≡ false → AreOthers (elements slots)
  absent_others [] rising h = tt
  absent_others (Element x ∷ slots) rising h = go (nat_lt (ticket_of x) t) refl h (absent_others slots rising.1) where
    go : (b : Bool) → nat_lt (ticket_of x) t ≡ b
        → occurs_at ticket_of (Element x ∷ slots) (cond b (suc (slot_for ticket_of t slots)) 0) t ≡ false
        → (occurs_at ticket_of slots (slot_for ticket_of t slots) t ≡ false → AreOthers (elements slots))
        → AreOthers (x ∷ elements slots)
    go true e h more = (differs_below (ticket_of x) t e, more h)
    go false e h more = (h, others_behind (ticket_of x) slots rising.0 e)
  absent_others (Mark u ∷ slots) rising h = go (nat_lt u t) refl h (absent_others slots rising.1) where
    go : (b : Bool) → nat_lt u t ≡ b
        → occurs_at ticket_of (Mark u ∷ slots) (cond b (suc (slot_for ticket_of t slots)) 0) t ≡ false
        → (occurs_at ticket_of slots (slot_for ticket_of t slots) t ≡ false → AreOthers (elements slots))
        → AreOthers (elements slots)
    go true e h more = more h
    go false e h more = others_behind u slots rising.0 e

  -- a search in a list in which no element has the ticket
  pub others_find : (xs : List X) → AreOthers xs → None ≡ find (has_ticket ticket_of t) xs
  others_find [] h = refl
  others_find (x ∷ xs) h = others_find xs h.1 ∙ ap (λ (b : Bool). cond b (Some x) (find (has_ticket ticket_of t) xs)) (sym h.0)

  others_position : (xs : List X) → AreOthers xs → position_or_len (has_ticket ticket_of t) xs ≡ length xs
  others_position [] h = refl
  others_position (x ∷ xs) h =
      let more = others_position xs h.1 in
      let here = ap (λ (b : Bool). cond (not b) (1 + position_or_len (has_ticket ticket_of t) xs) 0) h.0 in
      here ∙ omega (arith, more)

  not_less : (n : ℕ) → nat_lt n n ≡ false
  not_less n = grind (arith, nat_tests)

  pub others_place : (xs : List X) → AreOthers xs → None ≡ position (has_ticket ticket_of t) xs
  others_place xs h =
      let same = others_position xs h in
      sym (ap (λ (b : Bool). cond b (Some (position_or_len (has_ticket ticket_of t) xs)) None) (ap (λ (n : ℕ). nat_lt n (length xs)) same ∙ not_less (length xs)))

  pub others_without : (xs : List X) → AreOthers xs → xs ≡ without_ticket ticket_of t xs
  others_without [] h = refl
  others_without (x ∷ xs) h = ap (λ (u : List X). x ∷ u) (others_without xs h.1) ∙ ap (λ (b : Bool). cond (not b) (x ∷ without_ticket ticket_of t xs) (without_ticket ticket_of t xs)) (sym h.0)

  pub others_change : (f : X → X) (xs : List X) → AreOthers xs → xs ≡ with_change ticket_of t f xs
  others_change f [] h = refl
  others_change f (x ∷ xs) h = ap (λ (u : List X). x ∷ u) (others_change f xs h.1) ∙ ap (λ (b : Bool). cond b (f x) x ∷ with_change ticket_of t f xs) (sym h.0)

  -- the slot has an element with the ticket
  pub found_within : (slots : List (Slot X)) (k : ℕ) → occurs_at ticket_of slots k t ≡ true → k < length slots
  found_within [] k h = let wrong : false ≡ true = h in absurd (cc)
  found_within (slot ∷ slots) zero h = omega arith
  found_within (slot ∷ slots) (suc k) h = let more = found_within slots k h in omega (arith, more)

  pub found_element : (slots : List (Slot X)) → occurs_at ticket_of slots (slot_for ticket_of t slots) t ≡ true
      → element_at slots (slot_for ticket_of t slots) ≡ find (has_ticket ticket_of t) (elements slots)
  found_element [] h = refl
  found_element (Element x ∷ slots) h = go (nat_lt (ticket_of x) t) refl h (found_element slots) where
    go : (b : Bool) → nat_lt (ticket_of x) t ≡ b
        → occurs_at ticket_of (Element x ∷ slots) (cond b (suc (slot_for ticket_of t slots)) 0) t ≡ true
        → (occurs_at ticket_of slots (slot_for ticket_of t slots) t ≡ true → element_at slots (slot_for ticket_of t slots) ≡ find (has_ticket ticket_of t) (elements slots))
        → element_at (Element x ∷ slots) (cond b (suc (slot_for ticket_of t slots)) 0) ≡ find (has_ticket ticket_of t) (x ∷ elements slots)
    go true e h more = more h ∙ ap (λ (b : Bool). cond b (Some x) (find (has_ticket ticket_of t) (elements slots))) (sym (differs_below (ticket_of x) t e))
    go false e h more = ap (λ (b : Bool). cond b (Some x) (find (has_ticket ticket_of t) (elements slots))) (sym h)
  found_element (Mark u ∷ slots) h = go (nat_lt u t) h (found_element slots) where
    go : (b : Bool)
        → occurs_at ticket_of (Mark u ∷ slots) (cond b (suc (slot_for ticket_of t slots)) 0) t ≡ true
        → (occurs_at ticket_of slots (slot_for ticket_of t slots) t ≡ true → element_at slots (slot_for ticket_of t slots) ≡ find (has_ticket ticket_of t) (elements slots))
        → element_at (Mark u ∷ slots) (cond b (suc (slot_for ticket_of t slots)) 0) ≡ find (has_ticket ticket_of t) (elements slots)
    go true h more = more h
    go false h more = let wrong : false ≡ true = h in absurd (cc)

  ranks_below : (slots : List (Slot X)) (k : ℕ) → occurs_at ticket_of slots k t ≡ true → slot_rank k slots < length (elements slots)
  ranks_below [] k h = let wrong : false ≡ true = h in absurd (cc)
  ranks_below (Element x ∷ slots) zero h = omega arith
  ranks_below (Element x ∷ slots) (suc k) h = let more = ranks_below slots k h in omega (arith, more)
  ranks_below (Mark u ∷ slots) zero h = let wrong : false ≡ true = h in absurd (cc)
  ranks_below (Mark u ∷ slots) (suc k) h = ranks_below slots k h

  found_rank : (slots : List (Slot X)) → occurs_at ticket_of slots (slot_for ticket_of t slots) t ≡ true
      → position_or_len (has_ticket ticket_of t) (elements slots) ≡ slot_rank (slot_for ticket_of t slots) slots
  found_rank [] h = refl
  found_rank (Element x ∷ slots) h = go (nat_lt (ticket_of x) t) refl h (found_rank slots) where
    go : (b : Bool) → nat_lt (ticket_of x) t ≡ b
        → occurs_at ticket_of (Element x ∷ slots) (cond b (suc (slot_for ticket_of t slots)) 0) t ≡ true
        → (occurs_at ticket_of slots (slot_for ticket_of t slots) t ≡ true → position_or_len (has_ticket ticket_of t) (elements slots) ≡ slot_rank (slot_for ticket_of t slots) slots)
        → position_or_len (has_ticket ticket_of t) (x ∷ elements slots) ≡ slot_rank (cond b (suc (slot_for ticket_of t slots)) 0) (Element x ∷ slots)
    go true e h more =
        let same = more h in
        let here = ap (λ (b : Bool). cond (not b) (1 + position_or_len (has_ticket ticket_of t) (elements slots)) 0) (differs_below (ticket_of x) t e) in
        here ∙ omega (arith, same)
    go false e h more = ap (λ (b : Bool). cond (not b) (1 + position_or_len (has_ticket ticket_of t) (elements slots)) 0) h
  found_rank (Mark u ∷ slots) h = go (nat_lt u t) h (found_rank slots) where
    go : (b : Bool)
        → occurs_at ticket_of (Mark u ∷ slots) (cond b (suc (slot_for ticket_of t slots)) 0) t ≡ true
        → (occurs_at ticket_of slots (slot_for ticket_of t slots) t ≡ true → position_or_len (has_ticket ticket_of t) (elements slots) ≡ slot_rank (slot_for ticket_of t slots) slots)
        → position_or_len (has_ticket ticket_of t) (elements slots) ≡ slot_rank (cond b (suc (slot_for ticket_of t slots)) 0) (Mark u ∷ slots)
    go true h more = more h
    go false h more = let wrong : false ≡ true = h in absurd (cc)

  less : (a b : ℕ) → a < b → nat_lt a b ≡ true
  less a b h = grind (arith, nat_tests)

  pub found_place : (slots : List (Slot X)) → occurs_at ticket_of slots (slot_for ticket_of t slots) t ≡ true
      → Some (slot_rank (slot_for ticket_of t slots) slots) ≡ position (has_ticket ticket_of t) (elements slots)
  found_place slots h =
      let same = found_rank slots h in
      let lt = ranks_below slots (slot_for ticket_of t slots) h in
      ap (λ (n : ℕ). Some n) (sym same)
      ∙ sym (ap (λ (b : Bool). cond b (Some (position_or_len (has_ticket ticket_of t) (elements slots))) None) (ap (λ (n : ℕ). nat_lt n (length (elements slots))) same ∙ less _ _ lt))

  -- the same of a slot that equals `slot_for`
  found_here : (slots : List (Slot X)) (k : ℕ) → k ≡ slot_for ticket_of t slots → occurs_at ticket_of slots k t ≡ true → occurs_at ticket_of slots (slot_for ticket_of t slots) t ≡ true
  found_here slots k e h = ap (λ (n : ℕ). occurs_at ticket_of slots n t) (sym e) ∙ h

  pub element_here : (slots : List (Slot X)) (k : ℕ) → k ≡ slot_for ticket_of t slots → occurs_at ticket_of slots k t ≡ true → element_at slots k ≡ find (has_ticket ticket_of t) (elements slots)
  element_here slots k e h = ap (λ (n : ℕ). element_at slots n) e ∙ found_element slots (found_here slots k e h)

  pub place_here : (slots : List (Slot X)) (k n : ℕ) → k ≡ slot_for ticket_of t slots → occurs_at ticket_of slots k t ≡ true → n ≡ slot_rank k slots → Some n ≡ position (has_ticket ticket_of t) (elements slots)
  place_here slots k n e h same =
      ap (λ (m : ℕ). Some m) (same ∙ ap (λ (m : ℕ). slot_rank m slots) e) ∙ found_place slots (found_here slots k e h)

  -- an element with the ticket is in no other slot
  same_ticket : (x : ℕ) → nat_eq x t ≡ true → nat_lt x t ≡ false
  same_ticket x h = grind (arith, nat_tests)

  above_ticket : (n x : ℕ) → n < x → nat_eq x t ≡ true → nat_lt n t ≡ true
  above_ticket n x lt h = grind (arith, nat_tests)

  is_above_all : (n : ℕ) (slots : List (Slot X)) (k : ℕ) → AllByRecursion (λ s. n < slot_ticket ticket_of s) slots → occurs_at ticket_of slots k t ≡ true → nat_lt n t ≡ true
  is_above_all n [] k above h = let wrong : false ≡ true = h in absurd (cc)
  is_above_all n (Element x ∷ slots) zero above h = above_ticket n (ticket_of x) above.0 h
  is_above_all n (Mark u ∷ slots) zero above h = let wrong : false ≡ true = h in absurd (cc)
  is_above_all n (slot ∷ slots) (suc k) above h = is_above_all n slots k above.1 h

  pub occurs_once : (slots : List (Slot X)) (k : ℕ) → IsRisingBy (slot_ticket ticket_of) slots → occurs_at ticket_of slots k t ≡ true → k ≡ slot_for ticket_of t slots
  occurs_once [] k rising h = let wrong : false ≡ true = h in absurd (cc)
  occurs_once (Element x ∷ slots) zero rising h = ap (λ (b : Bool). cond b (suc (slot_for ticket_of t slots)) 0) (sym (same_ticket (ticket_of x) h))
  occurs_once (Mark u ∷ slots) zero rising h = let wrong : false ≡ true = h in absurd (cc)
  occurs_once (slot ∷ slots) (suc k) rising h =
      ap suc (occurs_once slots k rising.1 h)
      ∙ ap (λ (b : Bool). cond b (suc (slot_for ticket_of t slots)) 0) (sym (is_above_all (slot_ticket ticket_of slot) slots k rising.0 h))
