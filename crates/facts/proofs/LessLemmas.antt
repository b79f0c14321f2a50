-- A ticket is removed from facts, one after the other.
use Rattle.std.proofs.Common.{◌≡◌, ℕ, ◌<◌, Bool, true, false, not, cond, ◌||◌, nat_eq, List, [], ◌∷◌, length, Option, Some, None, refl, sym, ap, subst, ◌∙◌, inl, inr, eq-eqb, eqb-true, arith}
use Rattle.std.specs.Prelude.{is_some, find}
use Rattle.std.specs.List.{AllByRecursion}
use Rattle.std.proofs.lemmas.Bool.{both_ways, cases_eq, or_cases, true≢false}
use Rattle.std.proofs.lemmas.Option.{same_Some, none-some}
use Rattle.fact_laws.proofs.Shown.{other_number}
use Rattle.cpe_rows.specs.cpe_name.Eleven.{Values}
use Rattle.cpe_rows.specs.After.{without_first}
use Rattle.cpe_rows.specs.Rows.{has_id}
use Rattle.cpe_rows.specs.declared.statement.Mode.{Mode}
use Rattle.cpe_rows.specs.declared.statement.Statement.{Statement}
use Rattle.fact_laws.specs.Asked.{refers_to}
use Rattle.fact_rows.specs.Facts.{AreLinkedFacts, ends_or_none, Fact, fact_at, facts_with_end, FactTable, OthersStay, truth_or_unknown, users_of, users_or_none}
use Rattle.fact_rows.specs.Calls.{UsersTo}
use Rattle.fact_rows.specs.ticket_list.Tickets.{without}
use Rattle.fact_rows.specs.ticket_list.Rising.{IsRising}
use Rattle.facts.specs.Calls.{FactsRemoved, UsersRemoved}
use Rattle.facts.specs.Users.{AreTickets, statement_ticket, users_in}

-- ---- tickets

without_twice : (t : ℕ) (xs : List ℕ) → without t (without t xs) ≡ without t xs
without_twice t [] = refl
without_twice t (x ∷ xs) = by (nat_eq x t) refl (without_twice t xs)
  where
    by : (b : Bool) → nat_eq x t ≡ b → without t (without t xs) ≡ without t xs → without t (cond (not b) (x ∷ without t xs) (without t xs)) ≡ cond (not b) (x ∷ without t xs) (without t xs)
    by true e later = later
    by false e later = ap (λ (b : Bool). cond (not b) (x ∷ without t (without t xs)) (without t (without t xs))) e ∙ ap (λ (us : List ℕ). x ∷ us) later

above_still : (x t : ℕ) (xs : List ℕ) → AllByRecursion (λ (y : ℕ). x < y) xs → AllByRecursion (λ (y : ℕ). x < y) (without t xs)
above_still x t [] all = tt
above_still x t (y ∷ xs) all = by (nat_eq y t) (above_still x t xs all.1)
  where
    by : (b : Bool) → AllByRecursion (λ (z : ℕ). x < z) (without t xs) → AllByRecursion (λ (z : ℕ). x < z) (cond (not b) (y ∷ without t xs) (without t xs))
    by true later = later
    by false later = (all.0, later)

pub rising_still : (t : ℕ) (xs : List ℕ) → IsRising xs → IsRising (without t xs)
rising_still t [] rising = tt
rising_still t (x ∷ xs) rising = by (nat_eq x t) (rising_still t xs rising.1)
  where
    by : (b : Bool) → IsRising (without t xs) → IsRising (cond (not b) (x ∷ without t xs) (without t xs))
    by true later = later
    by false later = (above_still x t xs rising.0, later)

-- a list of greater tickets does not have this one
above_without : (t : ℕ) (xs : List ℕ) → AllByRecursion (λ (y : ℕ). t < y) xs → without t xs ≡ xs
above_without t [] all = refl
above_without t (x ∷ xs) all = ap (λ (b : Bool). cond (not b) (x ∷ without t xs) (without t xs)) (other_number x t (λ e. absurd (omega (arith, e, all.0)))) ∙ ap (λ (us : List ℕ). x ∷ us) (above_without t xs all.1)

pub users_above : (mode : Mode) (n : Values) (t : ℕ) (tickets : List ℕ) (statements : List Statement) → AllByRecursion (λ (y : ℕ). t < y) tickets → AllByRecursion (λ (y : ℕ). t < y) (users_in mode n tickets statements)
users_above mode n t [] statements all = tt
users_above mode n t (x ∷ tickets) [] all = tt
users_above mode n t (x ∷ tickets) (s ∷ statements) all = by (refers_to mode n s) (users_above mode n t tickets statements all.1)
  where
    by : (b : Bool) → AllByRecursion (λ (y : ℕ). t < y) (users_in mode n tickets statements) → AllByRecursion (λ (y : ℕ). t < y) (cond b (x ∷ users_in mode n tickets statements) (users_in mode n tickets statements))
    by true later = (all.0, later)
    by false later = later

ticket_above : (x t : ℕ) (id : List ℕ) (tickets : List ℕ) (statements : List Statement) → AllByRecursion (λ (y : ℕ). x < y) tickets → statement_ticket id tickets statements ≡ Some t → x < t
ticket_above x t id [] statements all e = absurd (none-some t e)
ticket_above x t id (y ∷ tickets) [] all e = absurd (none-some t e)
ticket_above x t id (y ∷ tickets) (s ∷ statements) all e = by (has_id id s) e (ticket_above x t id tickets statements all.1)
  where
    by : (b : Bool) → cond b (Some y) (statement_ticket id tickets statements) ≡ Some t → (statement_ticket id tickets statements ≡ Some t → x < t) → x < t
    by true h later = subst (λ (z : ℕ). x < z) (same_Some y t h) all.0
    by false h later = later h

module _ (id : List ℕ) (t : ℕ) where
  -- the first ticket is the one, or is another
  stays_first : (x : ℕ) (xs : List ℕ) → x < t → without t (x ∷ xs) ≡ x ∷ without t xs
  stays_first x xs lt = ap (λ (b : Bool). cond (not b) (x ∷ without t xs) (without t xs)) (other_number x t (λ e. absurd (omega (arith, e, lt))))

  first_is_removed : (x : ℕ) (xs : List ℕ) → x ≡ t → without t (x ∷ xs) ≡ without t xs
  first_is_removed x xs e = ap (λ (b : Bool). cond (not b) (x ∷ without t xs) (without t xs)) (eq-eqb x t e)

  module _ (mode : Mode) (n : Values) where
    without_users : (b : Bool) (x : ℕ) (us : List ℕ) → x < t → without t (cond b (x ∷ us) us) ≡ cond b (x ∷ without t us) (without t us)
    without_users true x us lt = stays_first x us lt
    without_users false x us lt = refl

    gone_user : (b : Bool) (x : ℕ) (us : List ℕ) → x ≡ t → without t (cond b (x ∷ us) us) ≡ without t us
    gone_user true x us e = first_is_removed x us e
    gone_user false x us e = refl

    pub users_less : (tickets : List ℕ) (statements : List Statement) → IsRising tickets → statement_ticket id tickets statements ≡ Some t
        → without t (users_in mode n tickets statements) ≡ users_in mode n (without t tickets) (without_first (has_id id) statements)
    users_less [] statements rising e = absurd (none-some t e)
    users_less (x ∷ tickets) [] rising e = absurd (none-some t e)
    users_less (x ∷ tickets) (s ∷ statements) rising e = by (has_id id s) e (users_less tickets statements rising.1)
      where
        by : (b : Bool) → cond b (Some x) (statement_ticket id tickets statements) ≡ Some t
            → (statement_ticket id tickets statements ≡ Some t → without t (users_in mode n tickets statements) ≡ users_in mode n (without t tickets) (without_first (has_id id) statements))
            → without t (users_in mode n (x ∷ tickets) (s ∷ statements)) ≡ users_in mode n (without t (x ∷ tickets)) (cond b statements (s ∷ without_first (has_id id) statements))
        by true h later =
            let same = same_Some x t h in
            let above = subst (λ (z : ℕ). AllByRecursion (λ (y : ℕ). z < y) tickets) same rising.0 in
            gone_user (refers_to mode n s) x (users_in mode n tickets statements) same
            ∙ above_without t (users_in mode n tickets statements) (users_above mode n t tickets statements above)
            ∙ ap (λ (ts : List ℕ). users_in mode n ts statements) (sym (first_is_removed x tickets same ∙ above_without t tickets above))
        by false h later =
            let lt = ticket_above x t id tickets statements rising.0 h in
            without_users (refers_to mode n s) x (users_in mode n tickets statements) lt
            ∙ ap (λ (us : List ℕ). cond (refers_to mode n s) (x ∷ us) us) (later h)
            ∙ ap (λ (ts : List ℕ). users_in mode n ts (s ∷ without_first (has_id id) statements)) (sym (stays_first x tickets lt))

    -- a fact to which it doesn't refer does not have its ticket
    pub users_without : (tickets : List ℕ) (statements : List Statement) (gone : Statement) → IsRising tickets → statement_ticket id tickets statements ≡ Some t → find (has_id id) statements ≡ Some gone → refers_to mode n gone ≡ false
        → without t (users_in mode n tickets statements) ≡ users_in mode n tickets statements
    users_without [] statements gone rising e found free = absurd (none-some t e)
    users_without (x ∷ tickets) [] gone rising e found free = absurd (none-some t e)
    users_without (x ∷ tickets) (s ∷ statements) gone rising e found free = by (has_id id s) e found (λ h g. users_without tickets statements gone rising.1 h g free)
      where
        by : (b : Bool) → cond b (Some x) (statement_ticket id tickets statements) ≡ Some t → cond b (Some s) (find (has_id id) statements) ≡ Some gone
            → (statement_ticket id tickets statements ≡ Some t → find (has_id id) statements ≡ Some gone → without t (users_in mode n tickets statements) ≡ users_in mode n tickets statements)
            → without t (users_in mode n (x ∷ tickets) (s ∷ statements)) ≡ users_in mode n (x ∷ tickets) (s ∷ statements)
        by true h g later =
            let same = same_Some x t h in
            let above = subst (λ (z : ℕ). AllByRecursion (λ (y : ℕ). z < y) tickets) same rising.0 in
            gone_user (refers_to mode n s) x (users_in mode n tickets statements) same
            ∙ above_without t (users_in mode n tickets statements) (users_above mode n t tickets statements above)
            ∙ ap (λ (b : Bool). cond b (x ∷ users_in mode n tickets statements) (users_in mode n tickets statements)) (sym (ap (refers_to mode n) (same_Some s gone g) ∙ free))
        by false h g later =
            without_users (refers_to mode n s) x (users_in mode n tickets statements) (ticket_above x t id tickets statements rising.0 h)
            ∙ ap (λ (us : List ℕ). cond (refers_to mode n s) (x ∷ us) us) (later h g)

  tickets_each : (tickets : List ℕ) (statements : List Statement) → IsRising tickets → statement_ticket id tickets statements ≡ Some t → length tickets ≡ length statements → length (without t tickets) ≡ length (without_first (has_id id) statements)
  tickets_each [] statements rising e each = absurd (none-some t e)
  tickets_each (x ∷ tickets) [] rising e each = absurd (none-some t e)
  tickets_each (x ∷ tickets) (s ∷ statements) rising e each = by (has_id id s) e (λ h. tickets_each tickets statements rising.1 h (omega (arith, each)))
    where
      by : (b : Bool) → cond b (Some x) (statement_ticket id tickets statements) ≡ Some t → (statement_ticket id tickets statements ≡ Some t → length (without t tickets) ≡ length (without_first (has_id id) statements))
          → length (without t (x ∷ tickets)) ≡ length (cond b statements (s ∷ without_first (has_id id) statements))
      by true h later =
          let same = same_Some x t h in
          let is : without t (x ∷ tickets) ≡ tickets = first_is_removed x tickets same ∙ above_without t tickets (subst (λ (z : ℕ). AllByRecursion (λ (y : ℕ). z < y) tickets) same rising.0) in
          omega (arith, ap length is, each)
      by false h later = let is = stays_first x tickets (ticket_above x t id tickets statements rising.0 h) in omega (arith, ap length is, later h)

  pub tickets_less : (tickets : List ℕ) (statements : List Statement) → AreTickets tickets statements → statement_ticket id tickets statements ≡ Some t → AreTickets (without t tickets) (without_first (has_id id) statements)
  tickets_less tickets statements a e = record { each = tickets_each tickets statements a.rising e a.each; rising = rising_still t tickets a.rising }

-- ---- one fact after the other

pub less_none : (t : FactTable) (which : ℕ → Bool) (ticket : ℕ) → ((q : ℕ) → which q ≡ false) → UsersRemoved t t which ticket
less_none t which ticket none = record {
  here = λ q w. absurd (true≢false (sym w ∙ none q));
  others = λ q w. refl;
  there = λ q. refl;
  ends = λ q. refl;
  truths = λ q. refl;
  facts = λ e. refl;
}

or_first : (x y : Bool) → (x || y) ≡ false → x ≡ false
or_first true y e = e
or_first false y e = refl

or_second : (x y : Bool) → (x || y) ≡ false → y ≡ false
or_second true y e = absurd (true≢false e)
or_second false y e = e

module _ (a b c : FactTable) (so which : ℕ → Bool) (id ticket : ℕ) (same : (q : ℕ) → which q ≡ (so q || nat_eq id q)) (u : UsersRemoved a b so ticket) (v : UsersTo b c id (without ticket (users_of b id))) where
  less_here : (q : ℕ) → which q ≡ true → users_of c q ≡ without ticket (users_of a q)
  less_here q w = elim (cases_eq id q) [
    | inl e ↦ subst (λ (n : ℕ). users_of c n ≡ without ticket (users_of a n)) e (v.here ∙ by (so id) refl)
    | inr ne ↦ ap users_or_none (v.others q (λ e. ne (sym e))) ∙ u.here q (elim (or_cases (so q) (nat_eq id q) (sym (same q) ∙ w)) [ inl s ↦ s | inr t ↦ absurd (ne (eqb-true id q t)) ])
  ]
    where
      by : (s : Bool) → so id ≡ s → without ticket (users_of b id) ≡ without ticket (users_of a id)
      by true s = ap (without ticket) (u.here id s) ∙ without_twice ticket (users_of a id)
      by false s = ap (λ (o : Option Fact). without ticket (users_or_none o)) (u.others id s)

  pub less_next : UsersRemoved a c which ticket
  less_next = record {
    here = less_here;
    others = λ q w. v.others q (λ e. both_ways (nat_eq id q) (or_second (so q) (nat_eq id q) (sym (same q) ∙ w)) (eq-eqb id q (sym e))) ∙ u.others q (or_first (so q) (nat_eq id q) (sym (same q) ∙ w));
    there = λ q. v.there q ∙ u.there q;
    ends = λ q. v.ends q ∙ u.ends q;
    truths = λ q. v.truths q ∙ u.truths q;
    facts = λ e. v.facts e ∙ u.facts e;
  }

pub rising_now : (a b : FactTable) (so : ℕ → Bool) (id ticket : ℕ) → UsersRemoved a b so ticket → IsRising (users_of a id) → IsRising (users_of b id)
rising_now a b so id ticket u rising = by (so id) refl
  where
    by : (s : Bool) → so id ≡ s → IsRising (users_of b id)
    by true s = subst IsRising (sym (u.here id s)) (rising_still ticket (users_of a id) rising)
    by false s = subst IsRising (sym (ap users_or_none (u.others id s))) rising

pub less_from : (t cleared new : FactTable) (which : ℕ → Bool) (ticket : ℕ) → ((q : ℕ) → fact_at cleared q ≡ fact_at t q) → ((e : ℕ) → facts_with_end cleared e ≡ facts_with_end t e) → UsersRemoved cleared new which ticket → UsersRemoved t new which ticket
less_from t cleared new which ticket stay links u = record {
  here = λ q w. u.here q w ∙ ap (λ (o : Option Fact). without ticket (users_or_none o)) (stay q);
  others = λ q w. u.others q w ∙ stay q;
  there = λ q. u.there q ∙ ap is_some (stay q);
  ends = λ q. u.ends q ∙ ap ends_or_none (stay q);
  truths = λ q. u.truths q ∙ ap truth_or_unknown (stay q);
  facts = λ e. u.facts e ∙ links e;
}

pub removed_none : (t : FactTable) (which : ℕ → Bool) → ((q : ℕ) → which q ≡ false) → FactsRemoved t t which
removed_none t which none = record { gone = λ q w. absurd (true≢false (sym w ∙ none q)); others = λ q w. refl; linked = λ h. h }

pub removed_next : (a b c : FactTable) (so which : ℕ → Bool) (id : ℕ) → ((q : ℕ) → which q ≡ (so q || nat_eq id q)) → FactsRemoved a b so → fact_at c id ≡ None → OthersStay id b c → (AreLinkedFacts b → AreLinkedFacts c) → FactsRemoved a c which
removed_next a b c so which id same f gone stay linked = record {
  gone = λ q w. elim (cases_eq id q) [
    | inl e ↦ subst (λ (n : ℕ). fact_at c n ≡ None) e gone
    | inr ne ↦ stay q (λ e. ne (sym e)) ∙ f.gone q (elim (or_cases (so q) (nat_eq id q) (sym (same q) ∙ w)) [ inl s ↦ s | inr t ↦ absurd (ne (eqb-true id q t)) ])
  ];
  others = λ q w. stay q (λ e. both_ways (nat_eq id q) (or_second (so q) (nat_eq id q) (sym (same q) ∙ w)) (eq-eqb id q (sym e))) ∙ f.others q (or_first (so q) (nat_eq id q) (sym (same q) ∙ w));
  linked = λ h. linked (f.linked h);
}
