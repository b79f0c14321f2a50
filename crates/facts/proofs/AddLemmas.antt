-- A ticket is added to facts, one after the other.
use Rattle.std.proofs.Common.{◌≡◌, ℕ, suc, zero, ◌<◌, Bool, true, false, cond, ◌||◌, nat_eq, List, [], ◌∷◌, ◌++◌, length, get_or, Option, refl, sym, ap, subst, ◌∙◌, inl, inr, eq-eqb, eqb-true, arith}
use Rattle.std.specs.Prelude.{is_some}
use Rattle.std.proofs.lemmas.Bool.{both_ways, cases_eq, or_cases, or_left, or_right, true≢false}
use Rattle.name_index.specs.declared.table.NameId.{NameId}
use Rattle.fact_rows.specs.Facts.{ends_or_none, truth_or_unknown, Fact, fact_at, facts_with_end, FactTable, has_end_of_fact, has_fact_room, room_or_none, users_of, users_or_none}
use Rattle.fact_rows.specs.Calls.{UsersTo}
use Rattle.fact_rows.specs.ticket_list.Tickets.{ends_with, with_last}
use Rattle.facts.specs.Calls.{UsersAdded}

-- ---- tickets

last_ends : (t : ℕ) (xs : List ℕ) → ends_with t (xs ++ t ∷ []) ≡ true
last_ends t [] = eq-eqb t t refl
last_ends t (x ∷ []) = eq-eqb t t refl
last_ends t (x ∷ (y ∷ ys)) = last_ends t (y ∷ ys)

pub with_ends : (t : ℕ) (xs : List ℕ) → ends_with t (with_last t xs) ≡ true
with_ends t xs = by (ends_with t xs) refl
  where
    by : (b : Bool) → ends_with t xs ≡ b → ends_with t (cond b xs (xs ++ t ∷ [])) ≡ true
    by true e = e
    by false e = last_ends t xs

with_twice : (t : ℕ) (xs : List ℕ) → with_last t (with_last t xs) ≡ with_last t xs
with_twice t xs = ap (λ (b : Bool). cond b (with_last t xs) (with_last t xs ++ t ∷ [])) (with_ends t xs)

-- ---- one fact after the other

pub added_none : (t : FactTable) (which : ℕ → Bool) (ticket : ℕ) → ((q : ℕ) → which q ≡ false) → UsersAdded t t which ticket
added_none t which ticket none = record {
  here = λ q w. absurd (true≢false (sym w ∙ none q));
  others = λ q w. refl;
  there = λ q. refl;
  ends = λ q. refl;
  truths = λ q. refl;
  facts = λ e. refl;
}

module _ (a b c : FactTable) (so which : ℕ → Bool) (id ticket : ℕ) (same : (q : ℕ) → which q ≡ (so q || nat_eq id q)) (u : UsersAdded a b so ticket) (v : UsersTo b c id (with_last ticket (users_of b id))) where
  next_here : (q : ℕ) → which q ≡ true → users_of c q ≡ with_last ticket (users_of a q)
  next_here q w = elim (cases_eq id q) [
    | inl e ↦ subst (λ (n : ℕ). users_of c n ≡ with_last ticket (users_of a n)) e (v.here ∙ by (so id) refl)
    | inr ne ↦ ap users_or_none (v.others q (λ e. ne (sym e))) ∙ u.here q (elim (or_cases (so q) (nat_eq id q) (sym (same q) ∙ w)) [ inl s ↦ s | inr t ↦ absurd (ne (eqb-true id q t)) ])
  ]
    where
      by : (s : Bool) → so id ≡ s → with_last ticket (users_of b id) ≡ with_last ticket (users_of a id)
      by true s = ap (with_last ticket) (u.here id s) ∙ with_twice ticket (users_of a id)
      by false s = ap (λ (o : Option Fact). with_last ticket (users_or_none o)) (u.others id s)

  next_others : (q : ℕ) → which q ≡ false → fact_at c q ≡ fact_at b q × (fact_at b q ≡ fact_at a q)
  next_others q w = (
    v.others q (λ e. both_ways (nat_eq id q) (or_second (so q) (nat_eq id q) (sym (same q) ∙ w)) (eq-eqb id q (sym e))),
    u.others q (or_first (so q) (nat_eq id q) (sym (same q) ∙ w)),
  )
    where
      or_first : (x y : Bool) → (x || y) ≡ false → x ≡ false
      or_first true y e = e
      or_first false y e = refl

      or_second : (x y : Bool) → (x || y) ≡ false → y ≡ false
      or_second true y e = absurd (true≢false e)
      or_second false y e = e

  pub added_next : UsersAdded a c which ticket
  added_next = record {
    here = next_here;
    others = λ q w. (next_others q w).0 ∙ (next_others q w).1;
    there = λ q. v.there q ∙ u.there q;
    ends = λ q. v.ends q ∙ u.ends q;
    truths = λ q. v.truths q ∙ u.truths q;
    facts = λ e. v.facts e ∙ u.facts e;
  }

-- there is room for each
pub room_next : (a b : FactTable) (so : ℕ → Bool) (id ticket : ℕ) → UsersAdded a b so ticket → (has_fact_room a id || ends_with ticket (users_of a id)) ≡ true → (has_fact_room b id || ends_with ticket (users_of b id)) ≡ true
room_next a b so id ticket u room = by (so id) refl
  where
    by : (s : Bool) → so id ≡ s → (has_fact_room b id || ends_with ticket (users_of b id)) ≡ true
    by true s = or_right (has_fact_room b id) (ends_with ticket (users_of b id)) (ap (ends_with ticket) (u.here id s) ∙ with_ends ticket (users_of a id))
    by false s = ap (λ (o : Option Fact). room_or_none o || ends_with ticket (users_or_none o)) (u.others id s) ∙ room

-- an element of a list is in it
pub among_ends : (ids : List NameId) (i : ℕ) (d : NameId) → i < length ids → has_end_of_fact ids (get_or ids i d).0 ≡ true
among_ends [] i d lt = absurd (omega (arith, lt))
among_ends (x ∷ ids) zero d lt = or_left (nat_eq x.0 x.0) (has_end_of_fact ids x.0) (eq-eqb x.0 x.0 refl)
among_ends (x ∷ ids) (suc i) d lt = or_right (nat_eq x.0 (get_or ids i d).0) (has_end_of_fact ids (get_or ids i d).0) (among_ends ids i d (omega (arith, lt)))

-- the same for a table with the same facts and other changes
pub added_to : (t cleared new : FactTable) (which : ℕ → Bool) (ticket : ℕ) → ((q : ℕ) → fact_at cleared q ≡ fact_at t q) → ((e : ℕ) → facts_with_end cleared e ≡ facts_with_end t e) → UsersAdded cleared new which ticket → UsersAdded t new which ticket
added_to t cleared new which ticket stay links u = record {
  here = λ q w. u.here q w ∙ ap (λ (o : Option Fact). with_last ticket (users_or_none o)) (stay q);
  others = λ q w. u.others q w ∙ stay q;
  there = λ q. u.there q ∙ ap is_some (stay q);
  ends = λ q. u.ends q ∙ ap ends_or_none (stay q);
  truths = λ q. u.truths q ∙ ap truth_or_unknown (stay q);
  facts = λ e. u.facts e ∙ links e;
}

pub room_still : (t cleared : FactTable) (ids : List NameId) (ticket : ℕ) → ((q : ℕ) → fact_at cleared q ≡ fact_at t q) → ((q : ℕ) → has_end_of_fact ids q ≡ true → (has_fact_room t q || ends_with ticket (users_of t q)) ≡ true)
    → (q : ℕ) → has_end_of_fact ids q ≡ true → (has_fact_room cleared q || ends_with ticket (users_of cleared q)) ≡ true
room_still t cleared ids ticket stay room q h = ap (λ (o : Option Fact). room_or_none o || ends_with ticket (users_or_none o)) (stay q) ∙ room q h
