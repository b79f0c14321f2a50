-- Verdicts after a statement was removed.
use Rattle.std.proofs.Common.{◌≡◌, ◌≤◌, ◌<◌, ℕ, Bool, true, false, not, cond, ◌||◌, nat_eq, List, [], ◌∷◌, ◌++◌, Option, Some, None, refl, sym, ap, subst, ◌∙◌, arith, eq-eqb}
use Rattle.std.specs.Prelude.{find}
use Rattle.std.specs.List.{AllByRecursion, flat_map, list_any, sum_by}
use Rattle.std.specs.Option.{option_map}
use Rattle.std.proofs.lemmas.Bool.{and_parts}
use Rattle.std.proofs.lemmas.Option.{none-some, same_Some}
use Rattle.fact_boards.specs.Prelude.{SameElements}
use Rattle.name_index.specs.declared.table.NameId.{NameId}
use Rattle.name_index.specs.Table.{IsNameTable, IsLive, kept_at, Names}
use Rattle.facts.specs.level_board.Board.{probe_times}
use Rattle.facts.specs.ticket_list.Rising.{IsRising}
use Rattle.cpe_rows.specs.After.{after, without_first}
use Rattle.cpe_rows.specs.Rows.{has_id, Rows}
use Rattle.cpe_rows.specs.declared.edit.Edit.TheVariants as edit
use Rattle.cpe_rows.specs.declared.statement.Mode.{Mode}
use Rattle.cpe_rows.specs.declared.statement.Statement.{Statement}
use Rattle.cpe_rows.specs.declared.test.CheckKey.{CheckKey}
use Rattle.cpe_rows.specs.declared.truth.Truth.{Truth}
use Rattle.facts.specs.fact_laws.Asked.{asked, fresh_facts, is_referred, leads}
use Rattle.facts.specs.fact_laws.Shown.{names_at, times_in_list}
use Rattle.facts.proofs.fact_laws.Names.{found_if_any}
use Rattle.facts.proofs.fact_laws.Shown.{other_number, shows_order, shows_part}
use Rattle.fact_boards.specs.Kept.{AreFactNames, AreSound, board_of_mode}
use Rattle.fact_boards.proofs.Boards.{statement_less}
use Rattle.facts.specs.fact_rows.Facts.{has_end_of_fact, is_fact, leads_of, truth_of_fact, users_of}
use Rattle.facts.specs.ticket_list.Tickets.{is_empty, without}
use Rattle.facts.specs.Calls.{IsOldStatement, MayRemoveStatement}
use Rattle.facts.specs.Facts.{AreUsed, FactsNow, FactsOf, HasFacts, is_used, LeadsTo, table_of}
use Rattle.facts.specs.Users.{AreTickets, statement_ticket}
use Rattle.facts.proofs.LessLemmas.{tickets_less, users_less}
use Rattle.facts.proofs.TakeLemmas.{by_modes}
use Rattle.facts.proofs.UserLemmas.{used_fact}
use Rattle.statement_rows.specs.Askers.{AreAskers}
use Rattle.statement_rows.specs.State.{is_of, judge, State, StatementRow, statements_of, use_of}
use Rattle.statement_rows.proofs.PlaceLemmas.{find-map}
use Rattle.verdicts.specs.Removal.{IsRemovalOf}
use Rattle.verdicts.specs.Verdicts.{HasVerdicts, IsNumbered, tickets_in, truths_in, VerdictsNow}
use Rattle.verdicts.specs.declared.removal.Removal.{Removal}
use Rattle.verdicts.proofs.JudgeLemmas.{SameTruths}
use Rattle.verdicts.proofs.LastLemmas.{all_ends, flat_same, fresh_named, leads_named, once_each, users_empty}
use Rattle.verdicts.proofs.UserLemmas.{all_listed, in_use, IsListed, live_of}

-- ---- the first that passes, and a list without it

module _ {A : Type 0} (p : A → Bool) (P : A → Type 0) where
  pub all_without : (xs : List A) → AllByRecursion P xs → AllByRecursion P (without_first p xs)
  all_without [] all = tt
  all_without (x ∷ xs) all = by (p x) (all_without xs all.1)
    where
      by : (b : Bool) → AllByRecursion P (without_first p xs) → AllByRecursion P (cond b xs (x ∷ without_first p xs))
      by true later = all.1
      by false later = (all.0, later)

  pub found_all : (xs : List A) (y : A) → find p xs ≡ Some y → AllByRecursion P xs → P y
  found_all [] y found all = absurd (none-some y found)
  found_all (x ∷ xs) y found all = by (p x) found (λ later. found_all xs y later all.1)
    where
      by : (b : Bool) → cond b (Some x) (find p xs) ≡ Some y → (find p xs ≡ Some y → P y) → P y
      by true e later = subst P (same_Some x y e) all.0
      by false e later = later e

-- ---- the row of an id, and the rows without it

any_row : (id : List ℕ) (js : List StatementRow) → list_any (is_of id) js ≡ list_any (has_id id) (statements_of js)
any_row id [] = refl
any_row id (j ∷ js) = ap (λ (b : Bool). is_of id j || b) (any_row id js)

pub row_of : (id : List ℕ) (js : List StatementRow) → list_any (has_id id) (statements_of js) ≡ true → (j : StatementRow) × (find (is_of id) js ≡ Some j)
row_of id js h = let found = found_if_any (is_of id) js (any_row id js ∙ h) in (found.0, found.1)

-- which facts a row uses, as a call returned it
pub use_found : (o : Option StatementRow) (u : Mode × List NameId × ℕ) → Some u ≡ option_map use_of o → (j : StatementRow) × (o ≡ Some j) × (u ≡ use_of j)
use_found None u e = absurd (none-some u (sym e))
use_found (Some j) u e = (j, refl, same_Some u (use_of j) e)

pub found_statement : (id : List ℕ) (js : List StatementRow) (j : StatementRow) → find (is_of id) js ≡ Some j → find (has_id id) (statements_of js) ≡ Some j.statement
found_statement id js j found = find-map (λ (k : StatementRow). k.statement) (has_id id) js ∙ ap (option_map (λ (k : StatementRow). k.statement)) found

pub statements_without : (id : List ℕ) (js : List StatementRow) → statements_of (without_first (is_of id) js) ≡ without_first (has_id id) (statements_of js)
statements_without id [] = refl
statements_without id (j ∷ js) = by (has_id id j.statement) (statements_without id js)
  where
    by : (b : Bool) → statements_of (without_first (is_of id) js) ≡ without_first (has_id id) (statements_of js)
        → statements_of (cond b js (j ∷ without_first (is_of id) js)) ≡ cond b (statements_of js) (j.statement ∷ without_first (has_id id) (statements_of js))
    by true later = refl
    by false later = ap (λ (ss : List Statement). j.statement ∷ ss) later

found_ticket : (id : List ℕ) (js : List StatementRow) (j : StatementRow) → find (is_of id) js ≡ Some j → statement_ticket id (tickets_in js) (statements_of js) ≡ Some j.ticket
found_ticket id [] j found = absurd (none-some j found)
found_ticket id (k ∷ js) j found = by (has_id id k.statement) found (found_ticket id js j)
  where
    by : (b : Bool) → cond b (Some k) (find (is_of id) js) ≡ Some j → (find (is_of id) js ≡ Some j → statement_ticket id (tickets_in js) (statements_of js) ≡ Some j.ticket)
        → cond b (Some k.ticket) (statement_ticket id (tickets_in js) (statements_of js)) ≡ Some j.ticket
    by true e later = ap (λ (r : StatementRow). Some r.ticket) (same_Some k j e)
    by false e later = later e

-- a list of greater tickets does not have this one
above_without : (t : ℕ) (ts : List ℕ) → AllByRecursion (λ (y : ℕ). t < y) ts → without t ts ≡ ts
above_without t [] all = refl
above_without t (x ∷ ts) all = ap (λ (b : Bool). cond (not b) (x ∷ without t ts) (without t ts)) (other_number x t (λ e. absurd (omega (arith, e, all.0)))) ∙ ap (λ (us : List ℕ). x ∷ us) (above_without t ts all.1)

found_above : (id : List ℕ) (n : ℕ) (js : List StatementRow) (j : StatementRow) → find (is_of id) js ≡ Some j → AllByRecursion (λ (y : ℕ). n < y) (tickets_in js) → n < j.ticket
found_above id n [] j found all = absurd (none-some j found)
found_above id n (k ∷ js) j found all = by (has_id id k.statement) found (λ e. found_above id n js j e all.1)
  where
    by : (b : Bool) → cond b (Some k) (find (is_of id) js) ≡ Some j → (find (is_of id) js ≡ Some j → n < j.ticket) → n < j.ticket
    by true e later = subst (λ (r : StatementRow). n < r.ticket) (same_Some k j e) all.0
    by false e later = later e

pub tickets_without : (id : List ℕ) (js : List StatementRow) (j : StatementRow) → IsRising (tickets_in js) → find (is_of id) js ≡ Some j → tickets_in (without_first (is_of id) js) ≡ without j.ticket (tickets_in js)
tickets_without id [] j rising found = refl
tickets_without id (k ∷ js) j rising found = by (has_id id k.statement) found (tickets_without id js j rising.1)
  where
    rest : List ℕ
    rest = without j.ticket (tickets_in js)

    first : (b : Bool) → nat_eq k.ticket j.ticket ≡ b → without j.ticket (k.ticket ∷ tickets_in js) ≡ cond (not b) (k.ticket ∷ rest) rest
    first b e = ap (λ (c : Bool). cond (not c) (k.ticket ∷ rest) rest) e

    by : (b : Bool) → cond b (Some k) (find (is_of id) js) ≡ Some j → (find (is_of id) js ≡ Some j → tickets_in (without_first (is_of id) js) ≡ rest)
        → tickets_in (cond b js (k ∷ without_first (is_of id) js)) ≡ without j.ticket (k.ticket ∷ tickets_in js)
    by true e later =
        let same : k.ticket ≡ j.ticket = ap (λ (r : StatementRow). r.ticket) (same_Some k j e) in
        let above = subst (λ (n : ℕ). AllByRecursion (λ (y : ℕ). n < y) (tickets_in js)) same rising.0 in
        sym (first true (eq-eqb k.ticket j.ticket same) ∙ above_without j.ticket (tickets_in js) above)
    by false e later =
        let lower = found_above id k.ticket js j e rising.0 in
        ap (λ (ts : List ℕ). k.ticket ∷ ts) (later e) ∙ sym (first false (other_number k.ticket j.ticket (λ same. absurd (omega (arith, same, lower)))))

-- ---- the statement that is removed

module _ (names : Names) (v : VerdictsNow) (rows : Rows) (h : HasVerdicts names v rows) (id : List ℕ) (j : StatementRow) (found : find (is_of id) v.statements.rows ≡ Some j) where
  pub row_numbered : IsNumbered names j
  row_numbered = found_all (is_of id) (IsNumbered names) v.statements.rows j found h.numbered

  row_listed : IsListed v.statements.rows j
  row_listed = found_all (is_of id) (IsListed v.statements.rows) v.statements.rows j found (all_listed v.statements.rows)

  pub statement_there : find (has_id id) rows.statements ≡ Some j.statement
  statement_there = ap (find (has_id id)) (sym h.statements) ∙ found_statement id v.statements.rows j found

  ticket_there : statement_ticket id (tickets_in v.statements.rows) rows.statements ≡ Some j.ticket
  ticket_there = ap (statement_ticket id (tickets_in v.statements.rows)) (sym h.statements) ∙ found_ticket id v.statements.rows j found

  module _ (are : IsNameTable names) (r : Removal) (last : IsRemovalOf v.facts j.statement.mode j.ids j.ticket r) where
    abbrev mode : Mode
    mode = j.statement.mode

    abbrev tickets : List ℕ
    tickets = tickets_in v.statements.rows

    abbrev left : Rows
    left = after rows (edit.DropStatement id)

    abbrev no_other : ℕ → Bool
    no_other q = is_empty (without j.ticket (users_of (table_of v.facts mode) q))

    facts : FactsOf names (board_of_mode v.facts.boards mode) (table_of v.facts mode) rows tickets mode
    facts = by_modes (λ (m : Mode). FactsOf names (board_of_mode v.facts.boards m) (table_of v.facts m) rows tickets m) h.facts.plain h.facts.follow mode

    own : (q : ℕ) → has_end_of_fact r.last.items q ≡ true → has_end_of_fact j.ids q ≡ true
    own q is = (and_parts (has_end_of_fact j.ids q) (no_other q) (sym (last.alone q) ∙ is)).0

    own_live : (q : ℕ) → has_end_of_fact j.ids q ≡ true → IsLive names q
    own_live q is = live_of names j.ids q row_numbered.live is

    used : (q : ℕ) → has_end_of_fact r.last.items q ≡ true → is_used (table_of v.facts mode) q ≡ true
    used q is = in_use names v.facts rows v.statements.rows h.facts h.statements j row_listed row_numbered q (own q is)

    live_last : AreFactNames names r.last.items
    live_last = all_ends (IsLive names) r.last.items (λ q is. own_live q (own q is))

    led : AreFactNames names (flat_map (λ (x : NameId). leads_of mode (table_of v.facts mode) x.0) r.last.items)
        × (names_at names (flat_map (λ (x : NameId). leads_of mode (table_of v.facts mode) x.0) r.last.items) ≡ flat_map (leads rows.entries mode) (names_at names r.last.items))
    led =
        leads_named names rows.entries mode (table_of v.facts mode) r.last.items
        (all_ends (λ q. LeadsTo names rows.entries mode q (leads_of mode (table_of v.facts mode) q)) r.last.items (λ q is. facts.leads_there q (used q is)))

    live_asked : AreFactNames names r.asked.items
    live_asked = subst (AreFactNames names) (sym last.asked) led.0

    fewer : AreTickets (without j.ticket tickets) left.statements
    fewer = tickets_less id j.ticket tickets rows.statements h.facts.numbered ticket_there

    -- no other ticket uses a fact of it exactly if no other statement refers to the name
    passes : (q : ℕ) → has_end_of_fact j.ids q ≡ true → no_other q ≡ not (is_referred mode left.statements (kept_at names q).name)
    passes q is =
        let n = (kept_at names q).name in
        ap (λ (us : List ℕ). is_empty (without j.ticket us)) (facts.users q (own_live q is))
        ∙ ap is_empty (users_less id j.ticket mode n tickets rows.statements h.facts.numbered.rising ticket_there)
        ∙ users_empty mode n (without j.ticket tickets) left.statements fewer.each

    last_named : SameElements (names_at names r.last.items) (fresh_facts mode left.statements j.statement)
    last_named =
        fresh_named names are mode left.statements j.statement (λ (x : NameId). no_other x.0) j.ids r.last.items refl row_numbered.live live_last row_numbered.named
        (all_ends (λ q. no_other q ≡ not (is_referred mode left.statements (kept_at names q).name)) j.ids passes) (once_each no_other j.ids r.last.items last.alone last.once)

    asked_for : SameElements (names_at names r.asked.items) (flat_map (leads rows.entries mode) (fresh_facts mode left.statements j.statement))
    asked_for f =
        ap (sum_by f) (ap (names_at names) last.asked ∙ led.1)
        ∙ flat_same (leads rows.entries mode) (names_at names r.last.items) (fresh_facts mode left.statements j.statement) last_named f

    -- the board counts them at least as often as they are asked here
    asked_there : (p : ℕ) → times_in_list p r.asked.items ≤ probe_times (board_of_mode v.facts.boards mode) p
    asked_there p =
        let board = board_of_mode v.facts.boards mode in
        let ns = names_at names r.asked.items in
        shows_part names (probe_times board) r.asked.items (asked left mode) p are live_asked
        (shows_order names (probe_times board) (asked rows mode) (ns ++ asked left mode) (statement_less rows mode id j.statement ns statement_there asked_for) facts.shows.asked)

    -- which facts it uses, and the lists, as calls have them
    module _ (u : Mode × List NameId × ℕ) (is : u ≡ use_of j) (ids its_last its_asked : List NameId) (are_ids : ids ≡ u.1) (are_last : its_last ≡ r.last.items) (are_asked : its_asked ≡ r.asked.items) where
      ids_are : ids ≡ j.ids
      ids_are = are_ids ∙ ap (λ (w : Mode × List NameId × ℕ). w.1) is

      pub may_remove : MayRemoveStatement v.facts names u.0 ids its_last its_asked u.2
      may_remove =
          let core : MayRemoveStatement v.facts names mode j.ids r.last.items r.asked.items j.ticket = record { alone = last.alone; live_asked = live_asked; asked_there = asked_there; rows_before = (rows, tickets, h.facts) } in
          subst (λ (ls : List NameId). MayRemoveStatement v.facts names u.0 ids ls its_asked u.2) (sym are_last)
          (subst (λ (ls : List NameId). MayRemoveStatement v.facts names u.0 ids r.last.items ls u.2) (sym are_asked)
          (subst (λ (ls : List NameId). MayRemoveStatement v.facts names u.0 ls r.last.items r.asked.items u.2) (sym ids_are)
          (subst (λ (w : Mode × List NameId × ℕ). MayRemoveStatement v.facts names w.0 j.ids r.last.items r.asked.items w.2) (sym is) core)))

      pub old_statement : IsOldStatement v.facts names rows tickets id j.statement u.0 ids its_asked u.2
      old_statement =
          let core : IsOldStatement v.facts names rows tickets id j.statement mode j.ids r.asked.items j.ticket = record { moded = refl; live = row_numbered.live; named = row_numbered.named; there = statement_there; its = ticket_there; asked_for = asked_for } in
          subst (λ (ls : List NameId). IsOldStatement v.facts names rows tickets id j.statement u.0 ids ls u.2) (sym are_asked)
          (subst (λ (ls : List NameId). IsOldStatement v.facts names rows tickets id j.statement u.0 ls r.asked.items u.2) (sym ids_are)
          (subst (λ (w : Mode × List NameId × ℕ). IsOldStatement v.facts names rows tickets id j.statement w.0 j.ids r.asked.items w.2) (sym is) core))

-- ---- the verdicts of the others

module _ (same : SameTruths) (names : Names) (v : VerdictsNow) (new : FactsNow) (rows : Rows) (h : HasVerdicts names v rows) (id : List ℕ) where
  abbrev rest : List StatementRow
  rest = without_first (is_of id) v.statements.rows

  abbrev next : Rows
  next = after rows (edit.DropStatement id)

  statements_left : statements_of rest ≡ next.statements
  statements_left = statements_without id v.statements.rows ∙ ap (without_first (has_id id)) h.statements

  module _ (facts : HasFacts names new next (tickets_in rest)) (truths : (m : Mode) (q : ℕ) → is_fact (table_of new m) q ≡ true → truth_of_fact (table_of new m) q ≡ truth_of_fact (table_of v.facts m) q) where
    one_judged : (j : StatementRow) → IsListed rest j → IsNumbered names j → judge (truths_in v.facts) v.statements.checks j ≡ j → judge (truths_in new) v.statements.checks j ≡ j
    one_judged j listed numbered judged =
        let mode = j.statement.mode in
        sym (same (truths_in v.facts) (truths_in new) v.statements.checks j (λ q has. sym (truths mode q (used_fact (table_of new mode) q (in_use names new next rest facts statements_left j listed numbered q has))))) ∙ judged

    all_judged : (js : List StatementRow) → AllByRecursion (IsListed rest) js → AllByRecursion (IsNumbered names) js → AllByRecursion (λ j. judge (truths_in v.facts) v.statements.checks j ≡ j) js → AllByRecursion (λ j. judge (truths_in new) v.statements.checks j ≡ j) js
    all_judged [] l n g = tt
    all_judged (j ∷ js) l n g = (one_judged j l.0 n.0 g.0, all_judged js l.1 n.1 g.1)

    pub left_verdicts : (now : State) → AreUsed new → AreAskers now.askers → AreSound new.boards → now.rows ≡ rest → now.checks ≡ v.statements.checks → HasVerdicts names (record { facts = new; statements = now }) next
    left_verdicts now used asked sound are kept =
        let numbered = all_without (is_of id) (IsNumbered names) v.statements.rows h.numbered in
        let judged = all_without (is_of id) (λ j. judge (truths_in v.facts) v.statements.checks j ≡ j) v.statements.rows h.judged in
        let left = all_judged rest (all_listed rest) numbered judged in
        record {
          statements = ap statements_of are ∙ statements_left;
          checks = kept ∙ h.checks;
          numbered = subst (AllByRecursion (IsNumbered names)) (sym are) numbered;
          facts = subst (HasFacts names new next) (sym (ap tickets_in are)) facts;
          needed = record { facts = used; askers = asked };
          sound = sound;
          judged = subst (λ (cs : List (CheckKey × Truth)). AllByRecursion (λ j. judge (truths_in new) cs j ≡ j) now.rows) (sym kept)
              (subst (AllByRecursion (λ j. judge (truths_in new) v.statements.checks j ≡ j)) (sym are) left);
        }
