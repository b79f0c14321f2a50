-- The facts are still those of the same rows, if only what no statement uses changed.
use Rattle.std.proofs.Common.{◌≡◌, ◌≢◌, ◌+◌, ◌<◌, ℕ, Bool, true, false, not, ◌||◌, nat_eq, List, [], ◌∷◌, length, take, get_or, Option, Some, None, Result, Ok, Err, OnOk, OnErr, refl, sym, ap, subst, ◌∙◌, inl, inr, eq-eqb, eqb-true}
use Rattle.std.specs.Prelude.{is_some}
use Rattle.std.proofs.lemmas.Bool.{cases_eq, or_cases, or_left, or_right, true≢false}
use Rattle.std.proofs.Math.Bool.{or-false}
use Rattle.std.proofs.lemmas.List.Folds.{list_any_more}
use Rattle.name_index.specs.declared.table.NameId.{NameId}
use Rattle.name_index.specs.Table.{IsLive, Names}
use Rattle.fact_boards.specs.level_board.Board.{Board}
use Rattle.cpe_rows.specs.Rows.{Rows}
use Rattle.cpe_rows.specs.declared.statement.Mode.{Mode}
use Rattle.cpe_rows.specs.declared.statement.Mode.TheVariants.{Plain, Follow}
use Rattle.fact_rows.specs.Facts.{AreLinkedFacts, ends_of_fact, ends_or_none, Fact, fact_at, FactTable, has_end_of_fact, has_fact_room, is_fact, leads_by, fact_name_id, new_fact, OthersStay, room_or_none, truth_of_fact, truth_or_unknown, users_of, users_or_none}
use Rattle.fact_rows.specs.Calls.{FactAdded, SameFacts}
use Rattle.fact_rows.specs.ticket_list.Tickets.{is_empty}
use Rattle.facts.specs.Calls.{FactsRemoved}
use Rattle.facts.specs.Facts.{AreUsedBut, FactsBut, FactsNow, is_used, LeadsTo, table_of}
use Rattle.facts.specs.Room.{OnlyMode}

-- ---- the same facts in use

module _ (names : Names) (board : Board) (mode : Mode) (rows : Rows) (tickets : List ℕ) (old new : FactTable) (s : FactsBut names board old rows tickets mode (λ q. false))
    (live : (q : ℕ) → is_fact new q ≡ true → IsLive names q) (users : (q : ℕ) → users_of new q ≡ users_of old q) (ends : (q : ℕ) → is_used old q ≡ true → ends_of_fact new q ≡ ends_of_fact old q)
    (truths : (q : ℕ) → is_used old q ≡ true → truth_of_fact new q ≡ truth_of_fact old q) (linked : AreLinkedFacts new) where
  was : (q : ℕ) → is_used new q ≡ true → is_used old q ≡ true
  was q used = sym (ap (λ (us : List ℕ). not (is_empty us)) (users q)) ∙ used

  pub alike : FactsBut names board new rows tickets mode (λ q. false)
  alike = record {
    shows = s.shows;
    fits = s.fits;
    live = live;
    users = λ q lq. users q ∙ s.users q lq;
    leads_there = λ q used. subst (LeadsTo names rows.entries mode q) (sym (ap (leads_by mode q) (ends q (was q used)))) (s.leads_there q (was q used));
    linked = linked;
    truths = λ q used free. truths q (was q used) ∙ s.truths q (was q used) free;
  }

-- ---- a fact was added

no_users : {Done Fault : Type 0} (new : FactTable) (fact : ℕ) (its_ends : List NameId) (r : Result Done Fault) → OnOk r (fact_at new fact ≡ Some (new_fact its_ends)) → OnErr r (fact_at new fact ≡ None) → users_of new fact ≡ []
no_users new fact its_ends (Ok x) ok err = ap users_or_none ok
no_users new fact its_ends (Err x) ok err = ap users_or_none err

module _ {Done Fault : Type 0} (old new : FactTable) (fact : ℕ) (its_ends : List NameId) (result : Result Done Fault) (none : fact_at old fact ≡ None) (a : FactAdded old new fact its_ends result) where
  pub same_users : (q : ℕ) → users_of new q ≡ users_of old q
  same_users q = elim (cases_eq q fact) [
    | inl e ↦ subst (λ (n : ℕ). users_of new n ≡ users_of old n) (sym e) (no_users new fact its_ends result a.here a.none ∙ sym (ap users_or_none none))
    | inr ne ↦ ap users_or_none (a.others q ne)
  ]

  not_it : (q : ℕ) → is_used old q ≡ true → q ≢ fact
  not_it q used e = true≢false (sym (subst (λ (n : ℕ). is_used old n ≡ true) e used) ∙ ap (λ (o : Option Fact). not (is_empty (users_or_none o))) none)

  pub with_unused : (names : Names) (board : Board) (mode : Mode) (rows : Rows) (tickets : List ℕ) → IsLive names fact → FactsBut names board old rows tickets mode (λ q. false) → FactsBut names board new rows tickets mode (λ q. false)
  with_unused names board mode rows tickets live s =
      alike names board mode rows tickets old new s
      (λ q is. elim (cases_eq q fact) [
        | inl e ↦ subst (IsLive names) (sym e) live
        | inr ne ↦ s.live q (sym (ap is_some (a.others q ne)) ∙ is)
      ])
      same_users (λ q used. ap ends_or_none (a.others q (not_it q used))) (λ q used. ap truth_or_unknown (a.others q (not_it q used))) (a.linked s.linked)

  pub used_with : (fresh : List NameId) → ((q : ℕ) → is_fact old q ≡ true → (is_used old q || has_end_of_fact fresh q) ≡ true) → (q : ℕ) → is_fact new q ≡ true → (is_used new q || has_end_of_fact (fact_name_id fact ∷ fresh) q) ≡ true
  used_with fresh used q is = elim (cases_eq q fact) [
    | inl e ↦ or_right (is_used new q) (has_end_of_fact (fact_name_id fact ∷ fresh) q) (or_left (nat_eq fact q) (has_end_of_fact fresh q) (eq-eqb fact q (sym e)))
    | inr ne ↦ elim (or_cases (is_used old q) (has_end_of_fact fresh q) (used q (sym (ap is_some (a.others q ne)) ∙ is))) [
      | inl u ↦ or_left (is_used new q) (has_end_of_fact (fact_name_id fact ∷ fresh) q) (ap (λ (us : List ℕ). not (is_empty us)) (same_users q) ∙ u)
      | inr f ↦ or_right (is_used new q) (has_end_of_fact (fact_name_id fact ∷ fresh) q) (or_right (nat_eq fact q) (has_end_of_fact fresh q) f)
    ]
  ]

-- ---- facts were removed

module _ (old new : FactTable) (unused : List NameId) (none : (q : ℕ) → has_end_of_fact unused q ≡ true → users_of old q ≡ []) (r : FactsRemoved old new (has_end_of_fact unused)) where
  left : (q : ℕ) → is_fact new q ≡ true → has_end_of_fact unused q ≡ false
  left q is = by (has_end_of_fact unused q) refl
    where
      by : (b : Bool) → has_end_of_fact unused q ≡ b → has_end_of_fact unused q ≡ false
      by true e = absurd (true≢false (sym is ∙ ap is_some (r.gone q e)))
      by false e = e

  in_use : (q : ℕ) → is_used old q ≡ true → has_end_of_fact unused q ≡ false
  in_use q used = by (has_end_of_fact unused q) refl
    where
      by : (b : Bool) → has_end_of_fact unused q ≡ b → has_end_of_fact unused q ≡ false
      by true e = absurd (true≢false (sym used ∙ ap (λ (us : List ℕ). not (is_empty us)) (none q e)))
      by false e = e

  users_left : (q : ℕ) → users_of new q ≡ users_of old q
  users_left q = by (has_end_of_fact unused q) refl
    where
      by : (b : Bool) → has_end_of_fact unused q ≡ b → users_of new q ≡ users_of old q
      by true e = ap users_or_none (r.gone q e) ∙ sym (none q e)
      by false e = ap users_or_none (r.others q e)

  pub without_unused : (names : Names) (board : Board) (mode : Mode) (rows : Rows) (tickets : List ℕ) → FactsBut names board old rows tickets mode (λ q. false) → FactsBut names board new rows tickets mode (λ q. false)
  without_unused names board mode rows tickets s =
      alike names board mode rows tickets old new s (λ q is. s.live q (sym (ap is_some (r.others q (left q is))) ∙ is)) users_left
      (λ q used. ap ends_or_none (r.others q (in_use q used))) (λ q used. ap truth_or_unknown (r.others q (in_use q used))) (r.linked s.linked)

  pub used_without : ((q : ℕ) → is_fact old q ≡ true → (is_used old q || has_end_of_fact unused q) ≡ true) → (q : ℕ) → is_fact new q ≡ true → is_used new q ≡ true
  used_without used q is =
      let apart = left q is in
      ap (λ (us : List ℕ). not (is_empty us)) (users_left q) ∙ sym (or-false (is_used old q)) ∙ ap (λ (b : Bool). is_used old q || b) (sym apart) ∙ used q (sym (ap is_some (r.others q apart)) ∙ is)

-- ---- room was reserved

pub reserved_facts : (names : Names) (board : Board) (mode : Mode) (rows : Rows) (tickets : List ℕ) (old new : FactTable) → SameFacts old new → ((q : ℕ) → truth_of_fact new q ≡ truth_of_fact old q)
    → FactsBut names board old rows tickets mode (λ q. false) → FactsBut names board new rows tickets mode (λ q. false)
reserved_facts names board mode rows tickets old new same truths s =
    alike names board mode rows tickets old new s (λ q is. s.live q (sym (same.there q) ∙ is)) same.users (λ q used. same.ends q) (λ q used. truths q)
    (λ q e h. ap (λ (fs : List NameId). has_end_of_fact fs q) (same.facts e) ∙ s.linked q e (sym (ap (λ (es : List NameId). has_end_of_fact es e) (same.ends q)) ∙ h))

pub same_facts_none : (t : FactTable) → SameFacts t t
same_facts_none t = record { there = λ q. refl; ends = λ q. refl; users = λ q. refl; facts = λ e. refl }

pub same_facts_again : (a b c : FactTable) → SameFacts a b → SameFacts b c → SameFacts a c
same_facts_again a b c u v = record { there = λ q. v.there q ∙ u.there q; ends = λ q. v.ends q ∙ u.ends q; users = λ q. v.users q ∙ u.users q; facts = λ e. v.facts e ∙ u.facts e }

-- each of those so far has room, and so has the next
pub room_so_far : (ids : List NameId) (i : ℕ) (d : NameId) → i < length ids → (a b : FactTable) → OthersStay (get_or ids i d).0 a b → has_fact_room b (get_or ids i d).0 ≡ true → ((q : ℕ) → has_end_of_fact (take i ids) q ≡ true → has_fact_room a q ≡ true)
    → (q : ℕ) → has_end_of_fact (take (i + 1) ids) q ≡ true → has_fact_room b q ≡ true
room_so_far ids i d lt a b stay room so_far q h = elim (cases_eq q (get_or ids i d).0) [
  | inl e ↦ subst (λ (n : ℕ). has_fact_room b n ≡ true) (sym e) room
  | inr ne ↦ ap room_or_none (stay q ne) ∙ so_far q (elim (or_cases (has_end_of_fact (take i ids) q) (nat_eq (get_or ids i d).0 q) (sym (list_any_more (λ (id : NameId). nat_eq id.0 q) ids i d lt) ∙ h)) [
    | inl t ↦ t
    | inr t ↦ absurd (ne (sym (eqb-true (get_or ids i d).0 q t)))
  ])
]

-- ---- both modes

pub only_plain : (old new : FactsNow) → new.boards ≡ old.boards → new.follow ≡ old.follow → OnlyMode old new Plain
only_plain old new boards follow = record { boards = boards; other = other }
  where
    other : (m : Mode) → m ≢ Plain → table_of new m ≡ table_of old m
    other Plain ne = absurd (ne refl)
    other Follow ne = follow

pub only_follow : (old new : FactsNow) → new.boards ≡ old.boards → new.plain ≡ old.plain → OnlyMode old new Follow
only_follow old new boards plain = record { boards = boards; other = other }
  where
    other : (m : Mode) → m ≢ Follow → table_of new m ≡ table_of old m
    other Plain ne = plain
    other Follow ne = absurd (ne refl)

pub used_but_plain : (f : FactsNow) (fresh : List NameId) → ((q : ℕ) → is_fact f.plain q ≡ true → (is_used f.plain q || has_end_of_fact fresh q) ≡ true) → ((q : ℕ) → is_fact f.follow q ≡ true → (is_used f.follow q || false) ≡ true) → AreUsedBut f Plain fresh
used_but_plain f fresh plain follow Plain = plain
used_but_plain f fresh plain follow Follow = follow

pub used_but_follow : (f : FactsNow) (fresh : List NameId) → ((q : ℕ) → is_fact f.plain q ≡ true → (is_used f.plain q || false) ≡ true) → ((q : ℕ) → is_fact f.follow q ≡ true → (is_used f.follow q || has_end_of_fact fresh q) ≡ true) → AreUsedBut f Follow fresh
used_but_follow f fresh plain follow Plain = plain
used_but_follow f fresh plain follow Follow = follow
