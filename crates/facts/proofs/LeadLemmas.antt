-- Facts that lead to other ends.
use Rattle.std.proofs.Common.{◌≡◌, ℕ, Bool, true, false, not, ◌||◌, nat_eq, List, [], ◌∷◌, length, get_or, drop, Option, Some, None, refl, sym, ap, subst, ◌∙◌, inl, inr, eq-eqb, arith}
use Rattle.std.specs.Prelude.{is_some}
use Rattle.std.specs.Option.{option_map}
use Rattle.std.specs.List.{AllByRecursion}
use Rattle.std.proofs.lemmas.Bool.{both_ways, cases_eq, ne_eqb, or_left, true≢false}
use Rattle.cpe_rows.specs.cpe_name.Eleven.{Values}
use Rattle.name_index.specs.declared.table.NameId.{NameId}
use Rattle.name_index.specs.Index.{name_id}
use Rattle.name_index.specs.Table.{IsNameTable, Names, kept_at}
use Rattle.fact_boards.specs.level_board.Board.{AreAnswers, Board}
use Rattle.cpe_rows.specs.Rows.{Rows}
use Rattle.cpe_rows.specs.Verdict.{fact_truth}
use Rattle.cpe_rows.specs.declared.statement.Mode.TheVariants.{Follow}
use Rattle.fact_laws.specs.Shown.{name_at, names_at}
use Rattle.fact_laws.proofs.Shown.{live_is}
use Rattle.fact_laws.specs.Asked.{leads}
use Rattle.fact_boards.specs.Kept.{AreFactNames}
use Rattle.fact_boards.proofs.AskedOn.{facts_on}
use Rattle.fact_rows.specs.Facts.{AreLinkedFacts, truth_differs, ends_of_fact, ends_or_none, Fact, fact_at, facts_with_end, FactTable, has_end_of_fact, is_fact, IsUnder, leads_by, leads_of, OthersStay, SameOthers, truth_of_fact, truth_or_unknown, users_of, users_or_none, with_ends}
use Rattle.fact_rows.specs.Calls.{Refreshed, SameFacts}
use Rattle.fact_rows.specs.ticket_list.Tickets.{is_empty}
use Rattle.facts.specs.Facts.{is_used, LeadsTo}
use Rattle.facts.specs.Leads.{AreLedBut, ChangesTo, is_led, IsLed, SameUsers}
use Rattle.facts.specs.declared.lead.Led.{Led}
use Rattle.fact_rows.proofs.RefreshLemmas.{differs_not}
use Rattle.facts.proofs.MoveLemmas.{linked_still}
use Rattle.facts.proofs.LevelLemmas.{shown}
use Rattle.facts.proofs.UserLemmas.{used_fact, users_refer}

users_with : (es : List NameId) (o : Option Fact) → users_or_none (option_map (with_ends es) o) ≡ users_or_none o
users_with es None = refl
users_with es (Some f) = refl

truth_with : (es : List NameId) (o : Option Fact) → truth_or_unknown (option_map (with_ends es) o) ≡ truth_or_unknown o
truth_with es None = refl
truth_with es (Some f) = refl

some_with : (es : List NameId) (o : Option Fact) → is_some (option_map (with_ends es) o) ≡ is_some o
some_with es None = refl
some_with es (Some f) = refl

ends_with : (es : List NameId) (o : Option Fact) → is_some o ≡ true → ends_or_none (option_map (with_ends es) o) ≡ es
ends_with es None h = absurd (true≢false (sym h))
ends_with es (Some f) h = refl

-- numbers of the same names are the same
pub same_numbers : (names : Names) → IsNameTable names → (xs ys : List NameId) → AreFactNames names xs → AreFactNames names ys → names_at names xs ≡ names_at names ys → xs ≡ ys
same_numbers names are [] [] lx ly e = refl
same_numbers names are [] (y ∷ ys) lx ly e = absurd (omega (arith, ap length e))
same_numbers names are (x ∷ xs) [] lx ly e = absurd (omega (arith, ap length e))
same_numbers names are (x ∷ xs) (y ∷ ys) lx ly e =
    let first : x.0 ≡ y.0 = are.different x.0 y.0 (kept_at names x.0) (kept_at names y.0) (live_is names x.0 lx.0) (live_is names y.0 ly.0) (ap (λ (ns : List Values). get_or ns 0 (name_at names x)) e) in
    λ i. name_id (first i) ∷ same_numbers names are xs ys lx.1 ly.1 (ap (drop 1) e) i

or_first : (x y : Bool) → (x || y) ≡ false → x ≡ false
or_first true y e = e
or_first false y e = refl

or_second : (x y : Bool) → (x || y) ≡ false → y ≡ false
or_second true y e = absurd (true≢false e)
or_second false y e = e

-- the users of facts are unchanged, of which one gets other ends
pub led_users : (led : Led) (old mid new : FactTable) → fact_at mid led.fact.0 ≡ option_map (with_ends led.ends.items) (fact_at old led.fact.0) → OthersStay led.fact.0 old mid → SameFacts mid new → SameUsers old new
led_users led old mid new here stay same = record {
  there = λ q. same.there q ∙ both is_some (some_with led.ends.items) q;
  users = λ q. same.users q ∙ both users_or_none (users_with led.ends.items) q;
}
  where
    both : {A : Type 0} (read : Option Fact → A) → ((o : Option Fact) → read (option_map (with_ends led.ends.items) o) ≡ read o) → (q : ℕ) → read (fact_at mid q) ≡ read (fact_at old q)
    both read kept q = elim (cases_eq q led.fact.0) [
      | inl e ↦ ap (λ (n : ℕ). read (fact_at mid n)) e ∙ ap read here ∙ kept (fact_at old led.fact.0) ∙ ap (λ (n : ℕ). read (fact_at old n)) (sym e)
      | inr ne ↦ ap read (stay q ne)
    ]

module _ (names : Names) (are : IsNameTable names) (board : Board) (answers : AreAnswers board) (next : Rows) (tickets : List ℕ) (passes : ℕ → Bool) (led : Led) (rest : List Led) (old mid new : FactTable)
    (a : AreLedBut names board old next tickets passes (led ∷ rest))
    (here : fact_at mid led.fact.0 ≡ option_map (with_ends led.ends.items) (fact_at old led.fact.0)) (stay : OthersStay led.fact.0 old mid)
    (links : (e : ℕ) → has_end_of_fact led.ends.items e ≡ true → facts_with_end mid e ≡ facts_with_end old e) (others : SameOthers led.fact.0 (facts_with_end old) (facts_with_end mid))
    (linked : AreLinkedFacts old → IsUnder (facts_with_end old) led.fact.0 led.ends.items → AreLinkedFacts mid)
    (r : Refreshed mid new (has_end_of_fact (led.fact ∷ [])) Follow board) where
  first : IsLed names old next.entries led
  first = a.led.0

  -- whatever is read of a row, except its ends, is unchanged
  same_by : {A : Type 0} (read : Option Fact → A) → ((o : Option Fact) → read (option_map (with_ends led.ends.items) o) ≡ read o) → (q : ℕ) → read (fact_at mid q) ≡ read (fact_at old q)
  same_by read same q = elim (cases_eq q led.fact.0) [
    | inl e ↦ ap (λ (n : ℕ). read (fact_at mid n)) e ∙ ap read here ∙ same (fact_at old led.fact.0) ∙ ap (λ (n : ℕ). read (fact_at old n)) (sym e)
    | inr ne ↦ ap read (stay q ne)
  ]

  users_mid : (q : ℕ) → users_of mid q ≡ users_of old q
  users_mid = same_by users_or_none (users_with led.ends.items)

  was : (q : ℕ) → is_used mid q ≡ true → is_used old q ≡ true
  was q used = sym (ap (λ (us : List ℕ). not (is_empty us)) (users_mid q)) ∙ used

  ends_mid : ends_of_fact mid led.fact.0 ≡ led.ends.items
  ends_mid = ap ends_or_none here ∙ ends_with led.ends.items (fact_at old led.fact.0) (used_fact old led.fact.0 first.used)

  live_now : (q : ℕ) → is_fact new q ≡ true → is_fact old q ≡ true
  live_now q is = sym (same_by is_some (some_with led.ends.items) q) ∙ (sym (r.same.there q) ∙ is)

  users_now : (q : ℕ) → users_of new q ≡ users_of old q
  users_now q = r.same.users q ∙ users_mid q

  was_used : (q : ℕ) → is_used new q ≡ true → is_used old q ≡ true
  was_used q used = sym (ap (λ (us : List ℕ). not (is_empty us)) (users_now q)) ∙ used

  led_still : (x : Led) → IsLed names old next.entries x → IsLed names new next.entries x
  led_still x l = record {
    used = ap (λ (us : List ℕ). not (is_empty us)) (users_now x.fact.0) ∙ l.used;
    leads_there = l.leads_there;
    under = λ e h. ap (λ (fs : List NameId). has_end_of_fact fs x.fact.0) (r.same.facts e) ∙ elim (cases_eq x.fact.0 led.fact.0) [
      | inl same ↦
          let same_ends : x.ends.items ≡ led.ends.items = same_numbers names are x.ends.items led.ends.items l.leads_there.live first.leads_there.live
          (l.leads_there.names ∙ ap (λ (n : ℕ). leads next.entries Follow (kept_at names n).name) same ∙ sym first.leads_there.names) in
          ap (λ (fs : List NameId). has_end_of_fact fs x.fact.0) (links e (sym (ap (λ (ns : List NameId). has_end_of_fact ns e) same_ends) ∙ h)) ∙ l.under e h
      | inr ne ↦ others e x.fact.0 ne ∙ l.under e h
    ];
  }

  all_still : (xs : List Led) → AllByRecursion (IsLed names old next.entries) xs → AllByRecursion (IsLed names new next.entries) xs
  all_still [] all = tt
  all_still (x ∷ xs) all = (led_still x all.0, all_still xs all.1)

  leads_mid : (q : ℕ) → is_used mid q ≡ true → is_led rest q ≡ false → LeadsTo names next.entries Follow q (leads_of Follow mid q)
  leads_mid q used free = elim (cases_eq q led.fact.0) [
    | inl e ↦
        subst (λ (n : ℕ). LeadsTo names next.entries Follow n (leads_of Follow mid n)) (sym e) (subst (LeadsTo names next.entries Follow led.fact.0) (sym ends_mid) first.leads_there)
    | inr ne ↦
        subst (LeadsTo names next.entries Follow q) (sym (ap (λ (o : Option Fact). leads_by Follow q (ends_or_none o)) (stay q ne)))
        (a.leads_there q (was q used) (ap (λ (b : Bool). b || is_led rest q) (ne_eqb led.fact.0 q (λ e. ne (sym e))) ∙ free))
  ]

  leads_now : (q : ℕ) → is_used new q ≡ true → is_led rest q ≡ false → LeadsTo names next.entries Follow q (leads_of Follow new q)
  leads_now q used free = subst (LeadsTo names next.entries Follow q) (sym (ap (leads_by Follow q) (r.same.ends q))) (leads_mid q (sym (ap (λ (us : List ℕ). not (is_empty us)) (r.same.users q)) ∙ used) free)

  -- it was refreshed
  right_led : (q : ℕ) → is_used new q ≡ true → has_end_of_fact (led.fact ∷ []) q ≡ true → LeadsTo names next.entries Follow q (leads_of Follow new q) → truth_of_fact new q ≡ fact_truth next Follow (kept_at names q).name
  right_led q used e l =
      let before = was_used q used in
      r.here q e (used_fact new q used)
      ∙ shown names board next Follow answers a.fits a.shows (kept_at names q).name (leads_of Follow new q)
      (facts_on names board next Follow (kept_at names q).name (leads_of Follow new q) are a.shows
      (users_refer Follow (kept_at names q).name tickets next.statements (subst (λ (us : List ℕ). not (is_empty us) ≡ true) (a.users q (a.live q (used_fact old q before))) before)) l.live l.names)
      l.names

  truth_now : (q : ℕ) → is_used new q ≡ true → is_led rest q ≡ false → passes q ≡ false → truth_of_fact new q ≡ fact_truth next Follow (kept_at names q).name
  truth_now q used free apart = by (has_end_of_fact (led.fact ∷ []) q) refl
    where
      by : (b : Bool) → has_end_of_fact (led.fact ∷ []) q ≡ b → truth_of_fact new q ≡ fact_truth next Follow (kept_at names q).name
      by true e = right_led q used e (leads_now q used free)
      by false e =
          let other = or_first (nat_eq led.fact.0 q) false e in
          r.others q e
          ∙ ap truth_or_unknown (stay q (λ same. both_ways (nat_eq led.fact.0 q) other (eq-eqb led.fact.0 q (sym same))))
          ∙ a.truths q (was_used q used) (ap (λ (b : Bool). b || is_led rest q) other ∙ free) apart

  truth_mid : (q : ℕ) → truth_of_fact mid q ≡ truth_of_fact old q
  truth_mid = same_by truth_or_unknown (truth_with led.ends.items)

  used_led : is_used new led.fact.0 ≡ true
  used_led = ap (λ (us : List ℕ). not (is_empty us)) (users_now led.fact.0) ∙ first.used

  truth_led : truth_of_fact new led.fact.0 ≡ fact_truth next Follow (kept_at names led.fact.0).name
  truth_led = right_led led.fact.0 used_led (or_left (nat_eq led.fact.0 led.fact.0) false (eq-eqb led.fact.0 led.fact.0 refl))
      (subst (LeadsTo names next.entries Follow led.fact.0) (sym (r.same.ends led.fact.0 ∙ ends_mid)) first.leads_there)

  pub led_changes : mid.changed ≡ old.changed → ChangesTo old new (λ q. fact_truth next Follow (kept_at names q).name)
  led_changes same = record {
    listed = λ q. r.changed q ∙ (λ i. has_end_of_fact (same i) q || truth_differs (truth_mid q i) (truth_of_fact new q));
    right = λ q d. elim (cases_eq q led.fact.0) [
      | inl e ↦ subst (λ (n : ℕ). is_used new n ≡ true × (truth_of_fact new n ≡ fact_truth next Follow (kept_at names n).name)) (sym e) (used_led, truth_led)
      | inr ne ↦ absurd (true≢false (sym d ∙ ap (truth_differs (truth_of_fact old q)) (r.others q (ap (λ (b : Bool). b || false) (ne_eqb led.fact.0 q (λ e. ne (sym e)))) ∙ truth_mid q) ∙ differs_not (truth_of_fact old q)))
    ];
  }

  pub led_next : AreLedBut names board new next tickets passes rest
  led_next = record {
    shows = a.shows;
    fits = a.fits;
    live = λ q is. a.live q (live_now q is);
    users = λ q lq. users_now q ∙ a.users q lq;
    led = all_still rest a.led.1;
    leads_there = leads_now;
    linked = linked_still mid new r.same.ends r.same.facts (linked a.linked first.under);
    truths = truth_now;
  }
