-- Each fact is in use, after a statement was added or removed.
use Rattle.std.proofs.Common.{◌≡◌, ℕ, Bool, true, false, not, cond, ◌&&◌, ◌||◌, List, [], ◌∷◌, ◌++◌, Option, refl, sym, ap, ◌∙◌, inl, inr}
use Rattle.std.specs.Prelude.{is_some}
use Rattle.std.proofs.lemmas.Bool.{or_cases, true≢false}
use Rattle.std.proofs.Math.Bool.{or-false}
use Rattle.name_index.specs.declared.table.NameId.{NameId}
use Rattle.fact_boards.specs.level_board.Board.{Board}
use Rattle.cpe_rows.specs.declared.statement.Mode.{Mode}
use Rattle.cpe_rows.specs.declared.statement.Mode.TheVariants.{Plain, Follow}
use Rattle.fact_rows.specs.Calls.{Refreshed, SameFacts}
use Rattle.fact_rows.specs.Facts.{Fact, fact_at, FactTable, has_end_of_fact, is_fact, users_of, users_or_none}
use Rattle.fact_rows.specs.ticket_list.Tickets.{ends_with, is_empty, with_last, without}
use Rattle.facts.specs.Calls.{FactsRemoved, UsersAdded, UsersRemoved}
use Rattle.facts.specs.Facts.{AreUsed, FactsNow, is_used}
use Rattle.facts.specs.Leads.{SameUsers}

-- ---- tickets

pub empty_is : (xs : List ℕ) → is_empty xs ≡ true → xs ≡ []
empty_is [] e = refl
empty_is (x ∷ xs) e = absurd (true≢false (sym e))

some_more : (t : ℕ) (xs : List ℕ) → not (is_empty (xs ++ t ∷ [])) ≡ true
some_more t [] = refl
some_more t (x ∷ xs) = refl

some_last : (t : ℕ) (xs : List ℕ) → not (is_empty (with_last t xs)) ≡ true
some_last t xs = by (ends_with t xs) refl
  where
    ended : (ys : List ℕ) → ends_with t ys ≡ true → not (is_empty ys) ≡ true
    ended [] e = absurd (true≢false (sym e))
    ended (y ∷ ys) e = refl

    by : (b : Bool) → ends_with t xs ≡ b → not (is_empty (cond b xs (xs ++ t ∷ []))) ≡ true
    by true e = ended xs e
    by false e = some_more t xs

both_left : (a b : Bool) → (a && b) ≡ true → a ≡ true
both_left true b e = refl
both_left false b e = e

both_right : (a b : Bool) → (a && b) ≡ true → b ≡ true
both_right true b e = e
both_right false b e = absurd (true≢false (sym e))

-- ---- a statement was added

pub added_used : (mode : Mode) (board : Board) (old mid new : FactTable) (ids fresh : List NameId) (ticket : ℕ) → UsersAdded old mid (has_end_of_fact ids) ticket → Refreshed mid new (has_end_of_fact fresh) mode board → ((q : ℕ) → has_end_of_fact fresh q ≡ true → has_end_of_fact ids q ≡ true)
    → ((q : ℕ) → is_fact old q ≡ true → (is_used old q || has_end_of_fact fresh q) ≡ true) → (q : ℕ) → is_fact new q ≡ true → is_used new q ≡ true
added_used mode board old mid new ids fresh ticket u r own used q is = ap (λ (us : List ℕ). not (is_empty us)) (r.same.users q) ∙ by (has_end_of_fact ids q) refl
  where
    was : is_fact old q ≡ true
    was = sym (u.there q) ∙ (sym (r.same.there q) ∙ is)

    by : (b : Bool) → has_end_of_fact ids q ≡ b → is_used mid q ≡ true
    by true e = ap (λ (us : List ℕ). not (is_empty us)) (u.here q e) ∙ some_last ticket (users_of old q)
    by false e = ap (λ (o : Option Fact). not (is_empty (users_or_none o))) (u.others q e) ∙ elim (or_cases (is_used old q) (has_end_of_fact fresh q) (used q was)) [
      | inl h ↦ h
      | inr h ↦ absurd (true≢false (sym (own q h) ∙ e))
    ]

-- ---- a statement was removed

module _ (old mid new : FactTable) (ids last : List NameId) (ticket : ℕ) (alone : (q : ℕ) → has_end_of_fact last q ≡ (has_end_of_fact ids q && is_empty (without ticket (users_of old q)))) where
  pub alone_here : (q : ℕ) → has_end_of_fact last q ≡ true → has_end_of_fact ids q ≡ true × (without ticket (users_of old q) ≡ [])
  alone_here q e =
      let both = sym (alone q) ∙ e in
      (both_left (has_end_of_fact ids q) (is_empty (without ticket (users_of old q))) both, empty_is (without ticket (users_of old q)) (both_right (has_end_of_fact ids q) (is_empty (without ticket (users_of old q))) both))

  pub removed_used : UsersRemoved old mid (has_end_of_fact ids) ticket → FactsRemoved mid new (has_end_of_fact last) → ((q : ℕ) → is_fact old q ≡ true → is_used old q ≡ true) → (q : ℕ) → is_fact new q ≡ true → is_used new q ≡ true
  removed_used u g used q is = by (has_end_of_fact last q) refl
    where
      by : (b : Bool) → has_end_of_fact last q ≡ b → is_used new q ≡ true
      by true e = absurd (true≢false (sym is ∙ ap is_some (g.gone q e)))
      by false e = ap (λ (o : Option Fact). not (is_empty (users_or_none o))) (g.others q e) ∙ mid_used (has_end_of_fact ids q) refl
        where
          mid_fact : is_fact mid q ≡ true
          mid_fact = sym (ap is_some (g.others q e)) ∙ is

          mid_used : (b : Bool) → has_end_of_fact ids q ≡ b → is_used mid q ≡ true
          mid_used true i =
              let some : is_empty (without ticket (users_of old q)) ≡ false = sym (ap (λ (b : Bool). b && is_empty (without ticket (users_of old q))) i) ∙ (sym (alone q) ∙ e) in
              ap (λ (us : List ℕ). not (is_empty us)) (u.here q i) ∙ ap not some
          mid_used false i = ap (λ (o : Option Fact). not (is_empty (users_or_none o))) (u.others q i) ∙ used q (sym (u.there q) ∙ mid_fact)

-- ---- the same facts

pub same_used : (t cleared : FactTable) → ((q : ℕ) → fact_at cleared q ≡ fact_at t q) → ((q : ℕ) → is_fact t q ≡ true → is_used t q ≡ true) → (q : ℕ) → is_fact cleared q ≡ true → is_used cleared q ≡ true
same_used t cleared stay used q is = ap (λ (o : Option Fact). not (is_empty (users_or_none o))) (stay q) ∙ used q (sym (ap is_some (stay q)) ∙ is)

pub all_used : (f : FactsNow) → ((q : ℕ) → is_fact f.plain q ≡ true → is_used f.plain q ≡ true) → ((q : ℕ) → is_fact f.follow q ≡ true → is_used f.follow q ≡ true) → AreUsed f
all_used f plain follow Plain = plain
all_used f plain follow Follow = follow

pub but_none : (t : FactTable) → ((q : ℕ) → is_fact t q ≡ true → (is_used t q || false) ≡ true) → (q : ℕ) → is_fact t q ≡ true → is_used t q ≡ true
but_none t used q is = sym (or-false (is_used t q)) ∙ used q is

-- ---- facts got other ends

pub led_used : (t cleared mid new : FactTable) → ((q : ℕ) → fact_at cleared q ≡ fact_at t q) → SameUsers cleared mid → SameFacts mid new → ((q : ℕ) → is_fact t q ≡ true → is_used t q ≡ true) → (q : ℕ) → is_fact new q ≡ true → is_used new q ≡ true
led_used t cleared mid new stay u same used q is =
    ap (λ (us : List ℕ). not (is_empty us)) (same.users q ∙ u.users q ∙ ap users_or_none (stay q)) ∙ used q (sym (ap is_some (stay q)) ∙ (sym (u.there q) ∙ (sym (same.there q) ∙ is)))
