-- Verdicts after the truths of facts changed, and the statements that use a changed fact were judged.
use Rattle.std.proofs.Common.{◌≡◌, ◌+◌, ◌<◌, ℕ, Bool, true, false, cond, List, [], ◌∷◌, ◌++◌, length, map, take, get_or, refl, sym, ap, subst, ◌∙◌}
use Rattle.std.specs.List.{AllByRecursion, flat_map}
use Rattle.std.proofs.lemmas.List.{append-nil, take_more}
use Rattle.std.proofs.lemmas.Grind.{flat_map-append}
use Rattle.std.proofs.lemmas.Bool.{true≢false}
use Rattle.name_index.specs.declared.table.NameId.{NameId}
use Rattle.name_index.specs.Table.{Names}
use Rattle.cpe_rows.specs.Rows.{Rows}
use Rattle.cpe_rows.specs.declared.statement.Mode.{Mode}
use Rattle.cpe_rows.specs.declared.statement.Mode.TheVariants.{Plain, Follow}
use Rattle.cpe_rows.specs.declared.test.CheckKey.{CheckKey}
use Rattle.cpe_rows.specs.declared.truth.Truth.{Truth}
use Rattle.fact_boards.specs.Kept.{AreSound}
use Rattle.facts.specs.fact_rows.Facts.{truth_differs, FactTable, is_fact, truth_of_fact}
use Rattle.facts.specs.Facts.{AreChanges, AreUsed, FactsNow, HasFacts, is_used, table_of}
use Rattle.facts.specs.Room.{KeepsFacts}
use Rattle.facts.proofs.ChangeLemmas.{differs_is}
use Rattle.statement_rows.specs.Askers.{AreAskers}
use Rattle.statement_rows.specs.Readings.{FactTruths, has_fact}
use Rattle.statement_rows.specs.State.{AreJudged, at_tickets, judge, SameRoom, State, StatementRow, statements_of}
use Rattle.statement_rows.specs.Tickets.{among}
use Rattle.verdicts.specs.Verdicts.{HasVerdicts, IsNumbered, tickets_in, truths_in, users_of_changed, VerdictsNow}
use Rattle.verdicts.proofs.UserLemmas.{all_listed, in_changed, is_user, IsListed}

-- what the law of equal truths says
abbrev pub SameTruths : Type 0
SameTruths = (old new : FactTruths) (checks : List (CheckKey × Truth)) (j : StatementRow) → ((q : ℕ) → has_fact j.ids q ≡ true → old j.statement.mode q ≡ new j.statement.mode q) → judge old checks j ≡ judge new checks j

-- what the law of refreshes says
abbrev pub Refreshes : Type 0
Refreshes = (old new : FactTruths) (ts : List ℕ) (a b : State) → b.rows ≡ at_tickets ts (judge new a.checks) a.rows → b.checks ≡ a.checks → AreJudged a old
    → AllByRecursion (λ j. among ts j.ticket ≡ false → judge old a.checks j ≡ judge new a.checks j) a.rows → AreJudged b new

abbrev pub users_of_all : FactsNow → List ℕ
users_of_all f = users_of_changed f Plain ++ users_of_changed f Follow

-- ---- what a refresh leaves

module _ (truth : FactTruths) (checks : List (CheckKey × Truth)) (ts : List ℕ) where
  pub at_map : {A : Type 0} (p : StatementRow → A) → ((j : StatementRow) → p (judge truth checks j) ≡ p j) → (js : List StatementRow) → map p (at_tickets ts (judge truth checks) js) ≡ map p js
  at_map p same [] = refl
  at_map p same (j ∷ js) = λ i. one (among ts j.ticket) i ∷ at_map p same js i
    where
      one : (b : Bool) → p (cond b (judge truth checks j) j) ≡ p j
      one true = same j
      one false = refl

  pub at_numbered : (names : Names) (js : List StatementRow) → AllByRecursion (IsNumbered names) js → AllByRecursion (IsNumbered names) (at_tickets ts (judge truth checks) js)
  at_numbered names [] all = tt
  at_numbered names (j ∷ js) all = (one (among ts j.ticket), at_numbered names js all.1)
    where
      one : (b : Bool) → IsNumbered names (cond b (judge truth checks j) j)
      one true = record { live = all.0.live; named = all.0.named }
      one false = all.0

-- ---- statements without a changed fact are judged the same

module _ (same : SameTruths) (names : Names) (old new : FactsNow) (rows : Rows) (all : List StatementRow) (facts : HasFacts names new rows (tickets_in all)) (statements : statements_of all ≡ rows.statements)
    (changes : (m : Mode) → AreChanges (table_of old m) (table_of new m)) (checks : List (CheckKey × Truth)) where
  one_same : (j : StatementRow) → IsListed all j → IsNumbered names j → among (users_of_all new) j.ticket ≡ false → judge (truths_in old) checks j ≡ judge (truths_in new) checks j
  one_same j listed numbered apart = same (truths_in old) (truths_in new) checks j (λ q has. by q has (truth_differs (truths_in old j.statement.mode q) (truths_in new j.statement.mode q)) refl)
    where
      by : (q : ℕ) → has_fact j.ids q ≡ true → (b : Bool) → truth_differs (truths_in old j.statement.mode q) (truths_in new j.statement.mode q) ≡ b → truths_in old j.statement.mode q ≡ truths_in new j.statement.mode q
      by q has false e = differs_is (truths_in old j.statement.mode q) (truths_in new j.statement.mode q) e
      by q has true e =
          let changed = changes j.statement.mode q ∙ e in
          absurd (true≢false (sym (in_changed new j.statement.mode q j.ticket changed (is_user names new rows all facts statements j listed numbered q has)) ∙ apart))

  all_same : (js : List StatementRow) → AllByRecursion (IsListed all) js → AllByRecursion (IsNumbered names) js → AllByRecursion (λ j. among (users_of_all new) j.ticket ≡ false → judge (truths_in old) checks j ≡ judge (truths_in new) checks j) js
  all_same [] l n = tt
  all_same (j ∷ js) l n = (one_same j l.0 n.0, all_same js l.1 n.1)

  pub rows_same : AllByRecursion (IsNumbered names) all → AllByRecursion (λ j. among (users_of_all new) j.ticket ≡ false → judge (truths_in old) checks j ≡ judge (truths_in new) checks j) all
  rows_same n = all_same all (all_listed all) n

-- ---- verdicts after facts changed

pub refreshed : SameTruths → Refreshes → (names : Names) (v : VerdictsNow) (new : FactsNow) (after : State) (rows next : Rows) → HasVerdicts names v rows → HasFacts names new next (tickets_in v.statements.rows) → AreUsed new → AreSound new.boards → after.askers ≡ v.statements.askers
    → next.statements ≡ rows.statements → next.checks ≡ rows.checks → ((m : Mode) → AreChanges (table_of v.facts m) (table_of new m)) → after.rows ≡ at_tickets (users_of_all new) (judge (truths_in new) v.statements.checks) v.statements.rows → after.checks ≡ v.statements.checks
    → HasVerdicts names (record { facts = new; statements = after }) next
refreshed same judged names v new after rows next h facts used sound askers statements checks changes is kept =
    let old_rows = v.statements.rows in
    let cs = v.statements.checks in
    let truth = truths_in new in
    let ts = users_of_all new in
    record {
      statements = ap (map (λ (j : StatementRow). j.statement)) is ∙ at_map truth cs ts (λ (j : StatementRow). j.statement) (λ j. refl) old_rows ∙ h.statements ∙ sym statements;
      checks = kept ∙ h.checks ∙ sym checks;
      numbered = subst (AllByRecursion (IsNumbered names)) (sym is) (at_numbered truth cs ts names old_rows h.numbered);
      facts = subst (HasFacts names new next) (sym (ap tickets_in is ∙ at_map truth cs ts (λ (j : StatementRow). j.ticket) (λ j. refl) old_rows)) facts;
      needed = record { facts = used; askers = subst AreAskers (sym askers) h.needed.askers };
      sound = sound;
      judged = judged (truths_in v.facts) truth ts v.statements after is kept h.judged (rows_same same names v.facts new next old_rows facts (h.statements ∙ sym statements) changes cs h.numbered);
    }

pub same_statements : (v : VerdictsNow) (new : FactsNow) (after : State) (ts : List ℕ) → after.rows ≡ at_tickets ts (judge (truths_in new) v.statements.checks) v.statements.rows
    → (map (λ (j : StatementRow). j.statement) after.rows ≡ map (λ (j : StatementRow). j.statement) v.statements.rows) × (map (λ (j : StatementRow). j.known) after.rows ≡ map (λ (j : StatementRow). j.known) v.statements.rows)
same_statements v new after ts is = (
  ap (map (λ (j : StatementRow). j.statement)) is ∙ at_map (truths_in new) v.statements.checks ts (λ (j : StatementRow). j.statement) (λ j. refl) v.statements.rows,
  ap (map (λ (j : StatementRow). j.known)) is ∙ at_map (truths_in new) v.statements.checks ts (λ (j : StatementRow). j.known) (λ j. refl) v.statements.rows,
)

-- ---- one changed fact after the other

pub at_none : (f : StatementRow → StatementRow) (js : List StatementRow) → at_tickets [] f js ≡ js
at_none f [] = refl
at_none f (j ∷ js) = ap (λ (ks : List StatementRow). j ∷ ks) (at_none f js)

pub flat_next : (g : NameId → List ℕ) (xs : List NameId) (i : ℕ) (d : NameId) → i < length xs → flat_map g (take (i + 1) xs) ≡ flat_map g (take i xs) ++ g (get_or xs i d)
flat_next g xs i d lt = ap (flat_map g) (take_more xs i d lt) ∙ flat_map-append g (take i xs) (get_or xs i d ∷ []) ∙ ap (λ (us : List ℕ). flat_map g (take i xs) ++ us) (append-nil (g (get_or xs i d)))

pub room_none : (s : State) → SameRoom s s
room_none s = record { askers = refl; next = refl; ready = refl }

pub room_again : (a b c : State) → SameRoom a b → SameRoom b c → SameRoom a c
room_again a b c u v = record { askers = v.askers ∙ u.askers; next = v.next ∙ u.next; ready = v.ready ∙ u.ready }

-- ---- the same facts with more room

pub tables_same : (f new : FactsNow) → new.plain ≡ f.plain → new.follow ≡ f.follow → (mode : Mode) → table_of new mode ≡ table_of f mode
tables_same f new plain follow Plain = plain
tables_same f new plain follow Follow = follow

pub roomier : (names : Names) (v : VerdictsNow) (new : FactsNow) (rows : Rows) → KeepsFacts v.facts new → new.plain ≡ v.facts.plain → new.follow ≡ v.facts.follow → AreSound new.boards → HasVerdicts names v rows → HasVerdicts names (record { facts = new; statements = v.statements }) rows
roomier names v new rows keeps plain follow sound h =
    let same = tables_same v.facts new plain follow in
    record {
      statements = h.statements;
      checks = h.checks;
      numbered = h.numbered;
      facts = keeps names rows (tickets_in v.statements.rows) h.facts;
      needed = record { facts = λ mode id. subst (λ (t : FactTable). is_fact t id ≡ true → is_used t id ≡ true) (sym (same mode)) (h.needed.facts mode id); askers = h.needed.askers };
      sound = sound;
      judged = subst (λ (truth : FactTruths). AreJudged v.statements truth) (λ i mode q. truth_of_fact (sym (same mode) i) q) h.judged;
    }
