-- Facts after a statement was removed.
use Rattle.std.proofs.Common.{cond, ◌≡◌, ℕ, Bool, true, false, not, List, [], ◌∷◌, Option, Some, None, refl, sym, ap, subst, ◌∙◌}
use Rattle.std.specs.Prelude.{is_some, find}
use Rattle.std.proofs.lemmas.Bool.{true≢false}
use Rattle.name_index.specs.declared.table.NameId.{NameId}
use Rattle.name_index.specs.Table.{IsNameTable, IsLive, Names, kept_at}
use Rattle.fact_boards.specs.level_board.Board.{AreAnswers, ProbesAreMarks, Board, FitsBoard, KeepsLevels}
use Rattle.cpe_rows.specs.After.{after}
use Rattle.cpe_rows.specs.FactNames.{fact_names}
use Rattle.cpe_rows.specs.Rows.{has_id, Rows}
use Rattle.cpe_rows.specs.declared.edit.Edit.TheVariants as edit
use Rattle.cpe_rows.specs.declared.statement.Mode.{Mode}
use Rattle.cpe_rows.specs.declared.statement.Mode.TheVariants.{Plain, Follow}
use Rattle.cpe_rows.specs.declared.statement.Statement.{Statement}
use Rattle.fact_laws.specs.Shown.{names_at}
use Rattle.fact_laws.specs.Asked.{same_mode}
use Rattle.fact_boards.specs.Kept.{AreFactNames, ShowsRows}
use Rattle.fact_rows.specs.Facts.{ends_or_none, Fact, fact_at, FactTable, has_end_of_fact, is_fact, leads_by, leads_of, truth_of_fact, truth_or_unknown, users_of, users_or_none}
use Rattle.fact_rows.specs.ticket_list.Tickets.{is_empty, without}
use Rattle.facts.specs.Facts.{FactsBut, is_used, LeadsTo}
use Rattle.facts.specs.Calls.{FactsRemoved, UsersRemoved}
use Rattle.facts.specs.Users.{AreTickets, statement_ticket, users_in}
use Rattle.facts.proofs.LessLemmas.{users_above, users_less, users_without}
use Rattle.fact_laws.specs.Asked.{refers_to}
use Rattle.cpe_rows.specs.cpe_name.Eleven.{Values}
use Rattle.fact_rows.specs.ticket_list.Rising.{IsRising}
use Rattle.facts.proofs.MoveLemmas.{linked_still, moved, no_used}
use Rattle.facts.proofs.PutLemmas.{none_touched, refers_here, refers_not}

some_with : (t : ℕ) (xs : List ℕ) → not (is_empty (without t xs)) ≡ true → not (is_empty xs) ≡ true
some_with t [] h = h
some_with t (x ∷ xs) h = refl

-- ---- the rows of the statement's mode

module _ (mode : Mode) (old mid new : FactTable) (ids last : List NameId) (ticket : ℕ) (u : UsersRemoved old mid (has_end_of_fact ids) ticket) (g : FactsRemoved mid new (has_end_of_fact last)) where
  -- a fact that was not removed is none of the last ones
  left : (q : ℕ) → is_fact new q ≡ true → has_end_of_fact last q ≡ false
  left q is = by (has_end_of_fact last q) refl
    where
      by : (b : Bool) → has_end_of_fact last q ≡ b → has_end_of_fact last q ≡ false
      by true e = absurd (true≢false (sym is ∙ ap is_some (g.gone q e)))
      by false e = e

  left_used : (q : ℕ) → is_used new q ≡ true → has_end_of_fact last q ≡ false
  left_used q used = by (has_end_of_fact last q) refl
    where
      by : (b : Bool) → has_end_of_fact last q ≡ b → has_end_of_fact last q ≡ false
      by true e = absurd (no_used new q (g.gone q e) used)
      by false e = e

  pub left_truth : (q : ℕ) → is_fact new q ≡ true → truth_of_fact new q ≡ truth_of_fact old q
  left_truth q is = ap truth_or_unknown (g.others q (left q is)) ∙ u.truths q

  left_leads : (q : ℕ) → is_used new q ≡ true → leads_of mode new q ≡ leads_of mode old q
  left_leads q used = ap (leads_by mode q) (ap ends_or_none (g.others q (left_used q used)) ∙ u.ends q)

  was_used : (q : ℕ) → is_used new q ≡ true → is_used old q ≡ true
  was_used q used = by (has_end_of_fact ids q) refl (sym (ap (λ (o : Option Fact). not (is_empty (users_or_none o))) (g.others q (left_used q used))) ∙ used)
    where
      by : (b : Bool) → has_end_of_fact ids q ≡ b → is_used mid q ≡ true → is_used old q ≡ true
      by true e now = some_with ticket (users_of old q) (sym (ap (λ (us : List ℕ). not (is_empty us)) (u.here q e)) ∙ now)
      by false e now = sym (ap (λ (o : Option Fact). not (is_empty (users_or_none o))) (u.others q e)) ∙ now

  was_fact : (q : ℕ) → is_fact new q ≡ true → is_fact old q ≡ true
  was_fact q is = sym (u.there q) ∙ (sym (ap is_some (g.others q (left q is))) ∙ is)

module _ (names : Names) (are : IsNameTable names) (mode : Mode) (before board : Board) (answers_before : AreAnswers before) (answers : AreAnswers board) (levels : KeepsLevels before board) (marks : ProbesAreMarks board) (none : board.marks ≡ [])
    (rows : Rows) (tickets : List ℕ) (id : List ℕ) (s : Statement) (ticket : ℕ) (numbered : AreTickets tickets rows.statements) (its : statement_ticket id tickets rows.statements ≡ Some ticket) (there : find (has_id id) rows.statements ≡ Some s) where
  abbrev next : Rows
  next = after rows (edit.DropStatement id)

  abbrev fewer : List ℕ
  fewer = without ticket tickets

  module _ (old mid new : FactTable) (ids last : List NameId) (f : FactsBut names before old rows tickets mode (λ q. false)) (shows : ShowsRows names board next mode) (fits : FitsBoard board names)
      (moded : s.mode ≡ mode) (live : AreFactNames names ids) (named : names_at names ids ≡ fact_names s.test)
      (alone : (q : ℕ) → has_end_of_fact last q ≡ true → has_end_of_fact ids q ≡ true × (without ticket (users_of old q) ≡ []))
      (u : UsersRemoved old mid (has_end_of_fact ids) ticket) (g : FactsRemoved mid new (has_end_of_fact last)) where
    users_mid : (q : ℕ) → IsLive names q → users_of mid q ≡ users_in mode (kept_at names q).name fewer next.statements
    users_mid q lq = by (has_end_of_fact ids q) refl ∙ users_less id ticket mode (kept_at names q).name tickets rows.statements numbered.rising its
      where
        by : (b : Bool) → has_end_of_fact ids q ≡ b → users_of mid q ≡ without ticket (users_in mode (kept_at names q).name tickets rows.statements)
        by true e = u.here q e ∙ ap (without ticket) (f.users q lq)
        by false e =
            ap users_or_none (u.others q e)
            ∙ f.users q lq
            ∙ sym (users_without id ticket mode (kept_at names q).name tickets rows.statements s numbered.rising its there (refers_here names are mode s ids q lq live moded named ∙ e))

    users_now : (q : ℕ) → IsLive names q → users_of new q ≡ users_in mode (kept_at names q).name fewer next.statements
    users_now q lq = by (has_end_of_fact last q) refl ∙ users_mid q lq
      where
        by : (b : Bool) → has_end_of_fact last q ≡ b → users_of new q ≡ users_of mid q
        by true e = let a = alone q e in ap users_or_none (g.gone q e) ∙ sym (u.here q a.0 ∙ a.1)
        by false e = ap users_or_none (g.others q e)

    pub left_facts : FactsBut names board new next fewer mode (λ q. false)
    left_facts =
        moved names are mode before board answers_before answers levels rows next tickets fewer old new (λ q. false) (λ q. true) f
        (record {
          shows = shows;
          fits = fits;
          live = λ q is. f.live q (was_fact mode old mid new ids last ticket u g q is);
          users = users_now;
          leads_there = λ q used. subst (LeadsTo names rows.entries mode q) (sym (left_leads mode old mid new ids last ticket u g q used)) (f.leads_there q (was_used mode old mid new ids last ticket u g q used));
          linked = g.linked (linked_still old mid u.ends u.facts f.linked);
          truths = λ q used free. absurd (true≢false free);
        })
        (λ q used free. record {
          used = was_used mode old mid new ids last ticket u g q used;
          leads = left_leads mode old mid new ids last ticket u g q used;
          truth = ap truth_or_unknown (g.others q (left_used mode old mid new ids last ticket u g q used)) ∙ u.truths q;
          free = none_touched mode board new q marks none;
        })

  -- ---- the facts of the other mode
  pub other_left : (t : FactTable) → FactsBut names before t rows tickets mode (λ q. false) → ShowsRows names board next mode → FitsBoard board names → same_mode mode s.mode ≡ false → FactsBut names board t next fewer mode (λ q. false)
  other_left t f shows fits apart =
      moved names are mode before board answers_before answers levels rows next tickets fewer t t (λ q. false) (λ q. true) f
      (record {
        shows = shows;
        fits = fits;
        live = f.live;
        users = λ q lq. f.users q lq
            ∙ sym (users_without id ticket mode (kept_at names q).name tickets rows.statements s numbered.rising its there (refers_not mode (kept_at names q).name s apart))
            ∙ users_less id ticket mode (kept_at names q).name tickets rows.statements numbered.rising its;
        leads_there = f.leads_there;
        linked = f.linked;
        truths = λ q used free. absurd (true≢false free);
      })
      (λ q used free. record { used = used; leads = refl; truth = refl; free = none_touched mode board t q marks none })

pub by_modes : (P : Mode → Type 0) → P Plain → P Follow → (m : Mode) → P m
by_modes P plain follow Plain = plain
by_modes P plain follow Follow = follow

-- ---- users rise

rising_users : (mode : Mode) (n : Values) (tickets : List ℕ) (statements : List Statement) → IsRising tickets → IsRising (users_in mode n tickets statements)
rising_users mode n [] statements rising = tt
rising_users mode n (x ∷ tickets) [] rising = tt
rising_users mode n (x ∷ tickets) (s ∷ statements) rising = by (refers_to mode n s) (rising_users mode n tickets statements rising.1)
  where
    by : (b : Bool) → IsRising (users_in mode n tickets statements) → IsRising (cond b (x ∷ users_in mode n tickets statements) (users_in mode n tickets statements))
    by true later = (users_above mode n x tickets statements rising.0, later)
    by false later = later

pub users_rise : (names : Names) (board : Board) (t cleared : FactTable) (rows : Rows) (tickets : List ℕ) (mode : Mode) (passes : ℕ → Bool) → FactsBut names board t rows tickets mode passes → IsRising tickets → ((q : ℕ) → fact_at cleared q ≡ fact_at t q)
    → (q : ℕ) → IsRising (users_of cleared q)
users_rise names board t cleared rows tickets mode passes s rising stay q = subst (λ (o : Option Fact). IsRising (users_or_none o)) (sym (stay q)) (by (fact_at t q) refl)
  where
    by : (o : Option Fact) → fact_at t q ≡ o → IsRising (users_of t q)
    by None e = subst IsRising (sym (ap users_or_none e)) tt
    by (Some f) e = subst IsRising (sym (s.users q (s.live q (ap is_some e)))) (rising_users mode (kept_at names q).name tickets rows.statements rising)
