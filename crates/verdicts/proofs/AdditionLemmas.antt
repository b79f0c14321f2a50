-- Verdicts while a statement is ready, and after it was added.
use Rattle.std.proofs.Common.{◌≡◌, ◌+◌, ℕ, Bool, true, false, List, [], ◌∷◌, ◌++◌, length, map, Some, None, refl, sym, ap, subst, ◌∙◌}
use Rattle.std.specs.Prelude.{nat_lt}
use Rattle.std.specs.List.{AllByRecursion, list_any}
use Rattle.std.proofs.lemmas.List.{map-append}
use Rattle.cpe_rows.specs.cpe_name.Eleven.{Values}
use Rattle.name_index.specs.declared.table.NameId.{NameId}
use Rattle.name_index.specs.Table.{kept_at, Names}
use Rattle.cpe_rows.specs.After.{after}
use Rattle.cpe_rows.specs.Causes.{statement_causes}
use Rattle.cpe_rows.specs.FactNames.{fact_names, number_of_facts}
use Rattle.cpe_rows.specs.Faults.{when}
use Rattle.cpe_rows.specs.Limits.{most}
use Rattle.cpe_rows.specs.Step.{first_some}
use Rattle.cpe_rows.specs.declared.fault.EditFault.{EditFault}
use Rattle.cpe_rows.specs.declared.fault.EditFault.TheVariants as fault
use Rattle.cpe_rows.specs.declared.fault.Which.TheVariants.{Facts, Statements}
use Rattle.cpe_rows.specs.Rows.{has_id, Rows}
use Rattle.cpe_rows.specs.Verdict.{fact_truth, verdict}
use Rattle.cpe_rows.specs.declared.edit.Edit.TheVariants as edit
use Rattle.cpe_rows.specs.declared.statement.Mode.{Mode}
use Rattle.cpe_rows.specs.declared.statement.Mode.TheVariants.{Plain, Follow}
use Rattle.cpe_rows.specs.declared.statement.Statement.{Statement}
use Rattle.cpe_rows.specs.declared.test.CheckKey.{CheckKey}
use Rattle.cpe_rows.specs.declared.truth.Truth.{Truth}
use Rattle.facts.specs.fact_laws.Shown.{names_at}
use Rattle.fact_boards.specs.Kept.{AreFactNames, AreSound}
use Rattle.facts.specs.Facts.{AreUsed, FactsNow, HasFacts}
use Rattle.statement_rows.specs.Readings.{has_fact}
use Rattle.statement_rows.specs.State.{AreJudged, is_of, judge, new_statement_row, SameRows, StatementStored, StatementRow, statements_of}
use Rattle.statement_rows.proofs.FaultLemmas.{any_statement}
use Rattle.verdicts.specs.Addition.{HasVerdictsBeside}
use Rattle.verdicts.specs.Verdicts.{HasVerdicts, HasVerdictsBy, IsNumbered, known_in, tickets_in, truths_in, VerdictsNow}
use Rattle.verdicts.specs.declared.addition.Addition.{Addition}
use Rattle.verdicts.proofs.JudgeLemmas.{SameTruths}
use Rattle.verdicts.proofs.NumberLemmas.{all_both}
use Rattle.verdicts.proofs.UserLemmas.{all_listed, in_use, IsListed}
use Rattle.verdicts.proofs.VerdictLemmas.{all_verdicts, fact_right, VerdictsAreTruths}

-- ---- lists

pub all_first : {X : Type 0} (P : X → Type 0) (xs ys : List X) → AllByRecursion P (xs ++ ys) → AllByRecursion P xs
all_first P [] ys a = tt
all_first P (x ∷ xs) ys a = (a.0, all_first P xs ys a.1)

pub all_last : {X : Type 0} (P : X → Type 0) (xs ys : List X) → AllByRecursion P (xs ++ ys) → AllByRecursion P ys
all_last P [] ys a = a
all_last P (x ∷ xs) ys a = all_last P xs ys a.1

-- ---- rows whose facts have the same truths

-- the facts of a row have the same truths in both
abbrev pub HasSameTruths : FactsNow → FactsNow → StatementRow → Type 0
HasSameTruths old new j = (q : ℕ) → has_fact j.ids q ≡ true → truths_in old j.statement.mode q ≡ truths_in new j.statement.mode q

pub judged_still : SameTruths → (old new : FactsNow) (checks : List (CheckKey × Truth)) (js : List StatementRow) → AllByRecursion (HasSameTruths old new) js → AllByRecursion (λ j. judge (truths_in old) checks j ≡ j) js → AllByRecursion (λ j. judge (truths_in new) checks j ≡ j) js
judged_still same old new checks [] t g = tt
judged_still same old new checks (j ∷ js) t g = (sym (same (truths_in old) (truths_in new) checks j t.0) ∙ g.0, judged_still same old new checks js t.1 g.1)

module _ (names : Names) (old new : FactsNow) (rows next : Rows) (all later : List StatementRow) (before : HasFacts names old rows (tickets_in all)) (now : HasFacts names new next (tickets_in later))
    (were : statements_of all ≡ rows.statements) (are : statements_of later ≡ next.statements) (same : (mode : Mode) (n : Values) → fact_truth next mode n ≡ fact_truth rows mode n) where
  one_truth : (j : StatementRow) → IsListed all j → IsListed later j → IsNumbered names j → HasSameTruths old new j
  one_truth j was is numbered q has =
      let mode = j.statement.mode in
      fact_right names old rows (tickets_in all) before mode q (in_use names old rows all before were j was numbered q has)
      ∙ sym (same mode (kept_at names q).name)
      ∙ sym (fact_right names new next (tickets_in later) now mode q (in_use names new next later now are j is numbered q has))

  pub all_truths : (js : List StatementRow) → AllByRecursion (IsListed all) js → AllByRecursion (IsListed later) js → AllByRecursion (IsNumbered names) js → AllByRecursion (HasSameTruths old new) js
  all_truths [] was is n = tt
  all_truths (j ∷ js) was is n = (one_truth j was.0 is.0 n.0, all_truths js was.1 is.1 n.1)

-- ---- the same rows, beside other facts that no statement uses

pub same_verdicts : SameTruths → (was only : Type 0) (names : Names) (v new : VerdictsNow) (rows : Rows) → HasVerdictsBy was names v rows → ((rows : Rows) (tickets : List ℕ) → HasFacts names v.facts rows tickets → HasFacts names new.facts rows tickets)
    → SameRows v.statements new.statements → AreSound new.facts.boards → only → HasVerdictsBy only names new rows
same_verdicts law was only names v new rows h facts same sound needed =
    let js = v.statements.rows in
    let now = facts rows (tickets_in js) h.facts in
    record {
      statements = ap statements_of same.rows ∙ h.statements;
      checks = same.checks ∙ h.checks;
      numbered = subst (AllByRecursion (IsNumbered names)) (sym same.rows) h.numbered;
      facts = subst (HasFacts names new.facts rows) (sym (ap tickets_in same.rows)) now;
      sound = sound;
      judged = subst (λ (cs : List (CheckKey × Truth)). AllByRecursion (λ j. judge (truths_in new.facts) cs j ≡ j) new.statements.rows) (sym same.checks)
          (subst (AllByRecursion (λ j. judge (truths_in new.facts) v.statements.checks j ≡ j)) (sym same.rows)
          (judged_still law v.facts new.facts v.statements.checks js (all_truths names v.facts new.facts rows rows js js h.facts now h.statements h.statements (λ mode n. refl) js (all_listed js) (all_listed js) h.numbered) h.judged));
      needed = needed;
    }

-- ---- one more row

no_cause : (there full many : Bool) (x y z : EditFault) → first_some (when there x ∷ when full y ∷ when many z ∷ []) ≡ None → (there ≡ false) × (many ≡ false)
no_cause true full many x y z h = absurd (let wrong : Some x ≡ None = h in cc)
no_cause false true many x y z h = absurd (let wrong : Some y ≡ None = h in cc)
no_cause false false true x y z h = absurd (let wrong : Some z ≡ None = h in cc)
no_cause false false false x y z h = (refl, refl)

-- what a statement without a fault has
pub without_cause : (js : List StatementRow) (s : Statement) → first_some (statement_causes (statements_of js) s) ≡ None → (list_any (is_of s.id) js ≡ false) × (nat_lt (most Facts) (number_of_facts (statements_of js ++ s ∷ [])) ≡ false)
without_cause js s h =
    let ss = statements_of js in
    let none = no_cause (list_any (has_id s.id) ss) (nat_lt (most Statements) (length ss + 1)) (nat_lt (most Facts) (number_of_facts (ss ++ s ∷ []))) fault.Exists (fault.Full Statements) (fault.Full Facts) h in
    (any_statement s.id js ∙ none.0, none.1)

pub same_facts : (rows : Rows) (s : Statement) (mode : Mode) (n : Values) → fact_truth (after rows (edit.PutStatement s)) mode n ≡ fact_truth rows mode n
same_facts rows s Plain n = refl
same_facts rows s Follow n = refl

module _ (law : SameTruths) (names : Names) (v new : VerdictsNow) (rows : Rows) (s : Statement) (ids : List NameId) (a : Addition) (h : HasVerdictsBeside names v rows s a)
    (now : HasFacts names new.facts (after rows (edit.PutStatement s)) (tickets_in v.statements.rows ++ a.statement.ticket ∷ [])) (ticket : a.statement.ticket ≡ v.statements.next)
    (live : AreFactNames names ids) (named : names_at names ids ≡ fact_names s.test) (added : StatementStored v.statements new.statements s ids (truths_in new.facts)) (used : AreUsed new.facts) (sound : AreSound new.facts.boards) where
  abbrev next : Rows
  next = after rows (edit.PutStatement s)

  abbrev row : StatementRow
  row = new_statement_row (truths_in new.facts) v.statements s ids

  abbrev later : List StatementRow
  later = v.statements.rows ++ row ∷ []

  abbrev js : List StatementRow
  js = v.statements.rows

  all_statements : statements_of later ≡ next.statements
  all_statements = map-append (λ (j : StatementRow). j.statement) js (row ∷ []) ∙ ap (λ (ss : List Statement). ss ++ s ∷ []) h.statements

  all_tickets : tickets_in js ++ a.statement.ticket ∷ [] ≡ tickets_in later
  all_tickets = ap (λ (t : ℕ). tickets_in js ++ t ∷ []) ticket ∙ sym (map-append (λ (j : StatementRow). j.ticket) js (row ∷ []))

  facts_then : HasFacts names new.facts next (tickets_in later)
  facts_then = subst (HasFacts names new.facts next) all_tickets now

  others_judged : AreJudged v.statements (truths_in new.facts)
  others_judged =
      judged_still law v.facts new.facts v.statements.checks js
      (all_truths names v.facts new.facts rows next js later h.facts facts_then h.statements all_statements (same_facts rows s) js (all_listed js) (all_first (IsListed later) js (row ∷ []) (all_listed later)) h.numbered)
      h.judged

  pub added_verdicts : HasVerdicts names new next
  added_verdicts = record {
    statements = ap statements_of added.rows ∙ all_statements;
    checks = added.checks ∙ h.checks;
    numbered = subst (AllByRecursion (IsNumbered names)) (sym added.rows) (all_both (IsNumbered names) js (row ∷ []) h.numbered (record { live = live; named = named }, tt));
    facts = subst (HasFacts names new.facts next) (sym (ap tickets_in added.rows)) facts_then;
    sound = sound;
    judged = added.judged others_judged;
    needed = record { facts = used; askers = added.asked h.needed.askers };
  }

  pub added_known : VerdictsAreTruths → known_in new ≡ known_in v ++ verdict next s ∷ []
  added_known truths =
      let each = subst (AllByRecursion (λ j. j.verdict ≡ verdict next j.statement)) added.rows (all_verdicts truths names new next added_verdicts) in
      ap (map (λ (j : StatementRow). j.known)) added.rows
      ∙ map-append (λ (j : StatementRow). j.known) js (row ∷ [])
      ∙ ap (λ (t : Truth). known_in v ++ t ∷ []) (all_last (λ j. j.verdict ≡ verdict next j.statement) js (row ∷ []) each).0
