-- An addition is ready, or is taken back.
use Rattle.std.proofs.Common.{◌≡◌, ◌<◌, ℕ, Bool, true, false, not, ◌&&◌, List, [], ◌∷◌, ◌++◌, Result, Ok, Err, OnErr, refl, sym, ap, subst, ◌∙◌}
use Rattle.std.specs.List.{AllByRecursion, flat_map, sum_by}
use Rattle.std.proofs.lemmas.Bool.{or_left, true≢false}
use Rattle.std.proofs.lemmas.List.{append-nil}
use Rattle.name_index.specs.Elements.{SameElements}
use Rattle.name_index.specs.declared.table.NameId.{NameId}
use Rattle.name_index.specs.Table.{IsNameTable, kept_at, Names}
use Rattle.cpe_rows.specs.FactNames.{fact_names}
use Rattle.cpe_rows.specs.Rows.{Rows}
use Rattle.cpe_rows.specs.declared.entry.Entry.{Entry}
use Rattle.cpe_rows.specs.declared.statement.Mode.{Mode}
use Rattle.cpe_rows.specs.declared.statement.Statement.{Statement}
use Rattle.facts.specs.fact_laws.Shown.{names_at}
use Rattle.facts.specs.fact_laws.Asked.{fresh_facts, is_referred, leads, same_mode}
use Rattle.fact_boards.specs.Kept.{AreFactNames}
use Rattle.facts.specs.fact_rows.Facts.{has_end_of_fact, has_fact_room, is_fact, leads_of, users_of}
use Rattle.facts.specs.ticket_list.Tickets.{ends_with, is_empty}
use Rattle.facts.specs.Facts.{AreUsed, AreUsedBut, FactsNow, is_used, LeadsTo, table_of}
use Rattle.facts.specs.Users.{AreBelow}
use Rattle.facts.proofs.UsedLemmas.{empty_is}
use Rattle.statement_rows.specs.State.{IsReadyRow, SameRows, StatementRow, statements_of}
use Rattle.verdicts.specs.Addition.{AreFresh, AreReady, FreshBeside, IsAddition}
use Rattle.verdicts.specs.Verdicts.{HasVerdicts, tickets_in, VerdictsNow}
use Rattle.verdicts.specs.declared.addition.Addition.{Addition}
use Rattle.verdicts.proofs.BesideLemmas.{used_wider}
use Rattle.verdicts.proofs.FreshLemmas.{all_led, fresh_own, fresh_unused, fresh_whole}
use Rattle.verdicts.proofs.LastLemmas.{all_ends, flat_same, fresh_named, users_empty}
use Rattle.verdicts.proofs.UserLemmas.{facts_users, live_of}

-- ---- fresh facts

module _ (f new : FactsNow) (table : Names) (mode : Mode) (ids fresh : List NameId) (each : AreFresh (table_of f mode) ids fresh) (beside : FreshBeside f new table mode fresh) where
  pub no_users : (q : ℕ) → has_end_of_fact fresh q ≡ true → users_of (table_of new mode) q ≡ []
  no_users q at = beside.users q ∙ empty_is (users_of (table_of f mode) q) (empty (is_empty (users_of (table_of f mode) q)) (fresh_unused (table_of f mode) ids fresh each q at))
    where
      empty : (b : Bool) → not b ≡ false → b ≡ true
      empty true e = refl
      empty false e = absurd (true≢false e)

  pub not_changed : AreUsed f → ((q : ℕ) → has_end_of_fact (table_of f mode).changed q ≡ true → is_fact (table_of f mode) q ≡ true) → (q : ℕ) → has_end_of_fact fresh q ≡ true → has_end_of_fact (table_of new mode).changed q ≡ false
  not_changed used listed q at = ap (λ (ns : List NameId). has_end_of_fact ns q) beside.changed ∙ by (has_end_of_fact (table_of f mode).changed q) refl
    where
      by : (b : Bool) → has_end_of_fact (table_of f mode).changed q ≡ b → has_end_of_fact (table_of f mode).changed q ≡ false
      by false e = e
      by true e = absurd (true≢false (sym (used mode q (listed q e)) ∙ fresh_unused (table_of f mode) ids fresh each q at))

  pub used_but : AreUsed f → AreUsedBut new mode fresh
  used_but used = used_wider new mode (fresh ++ []) fresh (first fresh) (beside.used [] none)
    where
      none : AreUsedBut f mode []
      none m q is = or_left (is_used (table_of f m) q) (same_mode mode m && false) (used m q is)

      first : (xs : List NameId) (q : ℕ) → has_end_of_fact (xs ++ []) q ≡ true → has_end_of_fact xs q ≡ true
      first xs q h = ap (λ (ys : List NameId). has_end_of_fact ys q) (sym (append-nil xs)) ∙ h

-- ---- an addition

below_all : (n : ℕ) (js : List StatementRow) → AllByRecursion (λ j. j.ticket < n) js → AreBelow n (tickets_in js)
below_all n [] all = tt
below_all n (j ∷ js) all = (all.0, below_all n js all.1)

module _ (table : Names) (are : IsNameTable table) (v new : VerdictsNow) (rows : Rows) (h : HasVerdicts table v rows) (entries : List Entry) (s : Statement) (ids : List NameId) (a : Addition)
    (live : AreFactNames table ids) (named : names_at table ids ≡ fact_names s.test) (each : AreFresh (table_of v.facts s.mode) ids a.fresh.items) (live_fresh : AreFactNames table a.fresh.items)
    (beside : FreshBeside v.facts new.facts table s.mode a.fresh.items) (ready : AreReady new.facts table entries s.mode ids a.fresh.items a.asked.items)
    (same : SameRows v.statements new.statements) (row : IsReadyRow new.statements s ids a.statement) (below : AllByRecursion (λ j. j.ticket < v.statements.next) v.statements.rows)
    (listed : (q : ℕ) → has_end_of_fact (table_of v.facts s.mode).changed q ≡ true → is_fact (table_of v.facts s.mode) q ≡ true) where
  abbrev fresh : List NameId
  fresh = a.fresh.items

  led : AreFactNames table (flat_map (λ (x : NameId). leads_of s.mode (table_of new.facts s.mode) x.0) fresh) × (names_at table (flat_map (λ (x : NameId). leads_of s.mode (table_of new.facts s.mode) x.0) fresh) ≡ flat_map (leads entries s.mode) (names_at table fresh))
  led = all_led table entries s.mode (table_of new.facts s.mode) fresh ready.leads_there

  -- a statement refers to the name of a number exactly if a statement uses the fact
  referred : (q : ℕ) → has_end_of_fact ids q ≡ true → not (is_used (table_of v.facts s.mode) q) ≡ not (is_referred s.mode rows.statements (kept_at table q).name)
  referred q at =
      ap (λ (us : List ℕ). not (not (is_empty us))) (facts_users table v.facts rows (tickets_in v.statements.rows) h.facts s.mode q (live_of table ids q live at))
      ∙ ap (λ (b : Bool). not (not b)) (users_empty s.mode (kept_at table q).name (tickets_in v.statements.rows) rows.statements h.facts.numbered.each)
      ∙ twice (not (is_referred s.mode rows.statements (kept_at table q).name))
    where
      twice : (b : Bool) → not (not b) ≡ b
      twice true = refl
      twice false = refl

  fresh_names : SameElements (names_at table fresh) (fresh_facts s.mode rows.statements s)
  fresh_names =
      fresh_named table are s.mode rows.statements s (λ (x : NameId). not (is_used (table_of v.facts s.mode) x.0)) ids fresh refl live live_fresh named
      (all_ends (λ q. not (is_used (table_of v.facts s.mode) q) ≡ not (is_referred s.mode rows.statements (kept_at table q).name)) ids referred) each

  asked_names : SameElements (names_at table a.asked.items) (flat_map (leads entries s.mode) (fresh_facts s.mode rows.statements s))
  asked_names w =
      ap (λ (ns : List NameId). sum_by w (names_at table ns)) ready.asked_there
      ∙ ap (sum_by w) led.1
      ∙ flat_same (leads entries s.mode) (names_at table fresh) (fresh_facts s.mode rows.statements s) fresh_names w

  pub is_addition : IsAddition new table entries s ids a
  is_addition = record {
    row = row;
    room = record {
      live_asked = subst (AreFactNames table) (sym ready.asked_there) led.0;
      wide = ready.room.wide;
      room = ready.room.room;
      few = ready.room.few;
      own = fresh_own (table_of v.facts s.mode) ids fresh each;
      room_users = λ q at. or_left (has_fact_room (table_of new.facts s.mode) q) (ends_with a.statement.ticket (users_of (table_of new.facts s.mode) q)) (ready.room_users q at);
    };
    new = λ next are_entries are_statements.
        let statements : rows.statements ≡ next.statements = sym h.statements ∙ sym (ap statements_of same.rows) ∙ sym are_statements in
        record {
          moded = refl;
          live = live;
          named = named;
          below = subst (λ (n : ℕ). AreBelow n (tickets_in new.statements.rows)) (sym (row.ticket.0 ∙ same.next)) (subst (λ (js : List StatementRow). AreBelow v.statements.next (tickets_in js)) (sym same.rows) (below_all v.statements.next v.statements.rows below));
          whole = λ q at apart. ap (λ (us : List ℕ). not (is_empty us)) (beside.users q) ∙ fresh_whole (table_of v.facts s.mode) ids fresh each q at apart;
          leads_there = λ q at. subst (λ (es : List Entry). LeadsTo table es s.mode q (leads_of s.mode (table_of new.facts s.mode) q)) (sym are_entries) (ready.leads_there q at);
          asked_for = λ w. asked_names w ∙ (λ i. sum_by w (flat_map (leads (sym are_entries i) s.mode) (fresh_facts s.mode (statements i) s)));
        };
    unused = no_users v.facts new.facts table s.mode ids fresh each beside;
    unchanged = not_changed v.facts new.facts table s.mode ids fresh each beside h.needed.facts listed;
  }

-- ---- results

pub on_err : {Done Fault : Type 0} (r : Result Done Fault) (P : Type 0) → P → OnErr r P
on_err (Ok x) P p = tt
on_err (Err e) P p = p
