-- Slots: elements, and marks of removed elements.
use Rattle.std.specs.Prelude.{◌≡◌, ℕ, zero, suc, Bool, true, false, cond, nat_le, nat_lt, slice_get, List, [], ◌∷◌, Option, Some, None}
use Rattle.std.specs.List.{filter_map}
use Rattle.std.specs.Option.{option_map_or}
use Rattle.ticket_list.specs.declared.slots.Slot.{Slot}
use Rattle.ticket_list.specs.declared.slots.Slot.TheVariants.{Element, Mark}
use Rattle.ticket_list.specs.Rising.{IsRisingBy, prefix}
use Rattle.ticket_list.specs.TicketList.{has_ticket}

abbrev pub element_of : {X : Type 0} → Slot X → Option X
element_of (Element x) = Some x
element_of (Mark t) = None

abbrev pub is_element : {X : Type 0} → Slot X → Bool
is_element (Element x) = true
is_element (Mark t) = false

-- the elements of the slots, in their order
abbrev pub elements : {X : Type 0} → List (Slot X) → List X
elements slots = filter_map element_of slots

abbrev pub slot_ticket : {X : Type 0} → (X → ℕ) → Slot X → ℕ
slot_ticket ticket_of (Element x) = ticket_of x
slot_ticket ticket_of (Mark t) = t

abbrev pub element_in : {X : Type 0} → Option (Slot X) → Option X
element_in None = None
element_in (Some slot) = element_of slot

-- the element in a slot, if there is one
abbrev pub element_at : {X : Type 0} → List (Slot X) → ℕ → Option X
element_at slots k = element_in (slice_get slots k)

abbrev pub occurs_at : {X : Type 0} → (X → ℕ) → List (Slot X) → ℕ → ℕ → Bool
occurs_at ticket_of slots k t = option_map_or (has_ticket ticket_of t) (element_at slots k) false

abbrev pub with_element : {X : Type 0} → (X → X) → Slot X → Slot X
with_element change (Element x) = Element (change x)
with_element change (Mark t) = Mark t

-- the slots after a change of the element in slot `k`
abbrev pub changed_slot : {X : Type 0} → ℕ → (X → X) → List (Slot X) → List (Slot X)
changed_slot k change [] = []
changed_slot zero change (slot ∷ slots) = with_element change slot ∷ slots
changed_slot (suc k) change (slot ∷ slots) = slot ∷ changed_slot k change slots

-- the last slot, if there is one, is an element
abbrev pub ends_with_element : {X : Type 0} → List (Slot X) → Bool
ends_with_element [] = true
ends_with_element (slot ∷ []) = is_element slot
ends_with_element (slot ∷ (next ∷ slots)) = ends_with_element (next ∷ slots)

-- the number of slots before the first whose ticket isn't below this ticket
abbrev pub slot_for : {X : Type 0} → (X → ℕ) → ℕ → List (Slot X) → ℕ
slot_for ticket_of t slots = prefix (λ s. nat_lt (slot_ticket ticket_of s) t) slots

-- the places of the marks, if the first slot has place `n`
abbrev pub marks_from : {X : Type 0} → ℕ → List (Slot X) → List ℕ
marks_from n [] = []
marks_from n (Element x ∷ slots) = marks_from (suc n) slots
marks_from n (Mark t ∷ slots) = n ∷ marks_from (suc n) slots

-- the number of elements in the first `k` slots
abbrev pub slot_rank : {X : Type 0} → ℕ → List (Slot X) → ℕ
slot_rank zero slots = 0
slot_rank (suc k) [] = 0
slot_rank (suc k) (Element x ∷ slots) = suc (slot_rank k slots)
slot_rank (suc k) (Mark t ∷ slots) = slot_rank k slots

-- the slot `k` moved on by 1 for each mark up to it
abbrev pub skipped : ℕ → List ℕ → ℕ
skipped k [] = k
skipped k (m ∷ marks) = cond (nat_le m k) (skipped (suc k) marks) k

-- tickets rise from slot to slot, `marks` are the places of the marks, and the last slot is no mark
pub record AreSlots {X : Type 0} (ticket_of : X → ℕ) (slots : List (Slot X)) (marks : List ℕ) : Type 0 where
  pub rising : IsRisingBy (slot_ticket ticket_of) slots
  pub marked : marks ≡ marks_from 0 slots
  pub last : ends_with_element slots ≡ true
