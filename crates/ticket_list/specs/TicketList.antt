-- A list of elements with tickets, as contracts see it.
use Rattle.std.specs.Prelude.{ℕ, Bool, not, cond, nat_eq, List, map, refl}
use Rattle.std.specs.List.{filter}
use Rattle.std.specs.Coded.{Coded, code_by, coded×, coded_bool, coded_list}

-- the elements, and whether there is room for one more
pub record TicketRows (X : Type 0) : Type 0 where
  pub items : List X
  pub ready : Bool

abbrev pub listed_code : {X : Type 0} → Coded X → Coded (TicketRows X)
listed_code {X} code = code_by (List X × Bool) (coded× (coded_list code) coded_bool) (λ l. (l.items, l.ready)) (λ p. record { items = p.0; ready = p.1 }) (λ _. refl)

abbrev pub has_ticket : {X : Type 0} → (X → ℕ) → ℕ → X → Bool
has_ticket ticket_of t x = nat_eq (ticket_of x) t

-- all elements except the one with this ticket
abbrev pub without_ticket : {X : Type 0} → (X → ℕ) → ℕ → List X → List X
without_ticket ticket_of t xs = filter (λ x. not (has_ticket ticket_of t x)) xs

-- the elements after a change of the one with this ticket
abbrev pub with_change : {X : Type 0} → (X → ℕ) → ℕ → (X → X) → List X → List X
with_change ticket_of t change xs = map (λ x. cond (has_ticket ticket_of t x) (change x) x) xs
