-- Kept verdicts are those of the rows.
use Rattle.std.proofs.Common.{◌≡◌, ℕ, zero, suc, Bool, true, false, cond, nat_eq, List, [], ◌∷◌, map, Some, refl, sym, ap, ◌∙◌, eq-eqb}
use Rattle.std.specs.Prelude.{find, slice_get}
use Rattle.std.specs.List.{AllByRecursion}
use Rattle.std.specs.Option.{option_map}
use Rattle.std.proofs.lemmas.Bool.{or_left, or_right}
use Rattle.cpe_rows.specs.cpe_name.Eleven.{Values}
use Rattle.name_index.specs.declared.table.NameId.{NameId}
use Rattle.name_index.specs.Table.{Names, kept_at}
use Rattle.cpe_rows.specs.Evaluation.{test_truth}
use Rattle.cpe_rows.specs.FactNames.{fact_names}
use Rattle.cpe_rows.specs.Rows.{has_id, Rows}
use Rattle.cpe_rows.specs.Verdict.{fact_truth, verdict}
use Rattle.cpe_rows.specs.declared.statement.Mode.{Mode}
use Rattle.cpe_rows.specs.declared.statement.Mode.TheVariants.{Plain, Follow}
use Rattle.cpe_rows.specs.declared.statement.Statement.{Statement}
use Rattle.cpe_rows.specs.declared.test.CheckKey.{CheckKey}
use Rattle.cpe_rows.specs.declared.truth.Truth.{Truth}
use Rattle.name_registry.specs.check_results.Kept.{kept_truth}
use Rattle.facts.specs.fact_laws.Shown.{names_at}
use Rattle.facts.specs.fact_rows.Facts.{has_end_of_fact, truth_of_fact}
use Rattle.facts.specs.Facts.{FactsNow, HasFacts, is_used, table_of}
use Rattle.statement_rows.specs.Readings.{FactTruths, truths_of}
use Rattle.statement_rows.specs.Rows.{verdict_by}
use Rattle.statement_rows.specs.State.{forget_row_change, is_of, judge, StatementRow, statements_of}
use Rattle.verdicts.specs.Verdicts.{HasVerdicts, IsNumbered, tickets_in, truths_in, VerdictsNow}
use Rattle.verdicts.proofs.UserLemmas.{all_listed, in_use, IsListed}

-- what the law of verdicts says
abbrev pub VerdictsAreTruths : Type 0
VerdictsAreTruths = (truth : FactTruths) (checks : List (CheckKey × Truth)) (s : Statement) (ids : List NameId) (fact : Values → Truth) → map fact (fact_names s.test) ≡ truths_of truth s.mode ids → verdict_by truth checks s ids ≡ test_truth fact (kept_truth checks) s.test

-- a fact in use has the truth of its name
pub fact_right : (names : Names) (f : FactsNow) (rows : Rows) (tickets : List ℕ) → HasFacts names f rows tickets → (mode : Mode) (q : ℕ) → is_used (table_of f mode) q ≡ true → truth_of_fact (table_of f mode) q ≡ fact_truth rows mode (kept_at names q).name
fact_right names f rows tickets s Plain q used = s.plain.truths q used refl
fact_right names f rows tickets s Follow q used = s.follow.truths q used refl

module _ (law : VerdictsAreTruths) (names : Names) (v : VerdictsNow) (rows : Rows) (h : HasVerdicts names v rows) where
  same_truths : (mode : Mode) (ids : List NameId) → ((q : ℕ) → has_end_of_fact ids q ≡ true → is_used (table_of v.facts mode) q ≡ true) → map (fact_truth rows mode) (names_at names ids) ≡ truths_of (truths_in v.facts) mode ids
  same_truths mode [] used = refl
  same_truths mode (x ∷ ids) used = λ i.
      sym (fact_right names v.facts rows (tickets_in v.statements.rows) h.facts mode x.0 (used x.0 (or_left (nat_eq x.0 x.0) (has_end_of_fact ids x.0) (eq-eqb x.0 x.0 refl)))) i
      ∷ same_truths mode ids (λ q is. used q (or_right (nat_eq x.0 q) (has_end_of_fact ids q) is)) i

  one_verdict : (j : StatementRow) → IsListed v.statements.rows j → IsNumbered names j → judge (truths_in v.facts) v.statements.checks j ≡ j → j.verdict ≡ verdict rows j.statement
  one_verdict j listed numbered judged =
      sym (ap (λ (k : StatementRow). k.verdict) judged)
      ∙ law (truths_in v.facts) v.statements.checks j.statement j.ids (fact_truth rows j.statement.mode)
      (ap (map (fact_truth rows j.statement.mode)) (sym numbered.named) ∙ same_truths j.statement.mode j.ids (in_use names v.facts rows v.statements.rows h.facts h.statements j listed numbered))
      ∙ ap (λ (cs : List (CheckKey × Truth)). test_truth (fact_truth rows j.statement.mode) (kept_truth cs) j.statement.test) h.checks

  each_verdict : (js : List StatementRow) → AllByRecursion (IsListed v.statements.rows) js → AllByRecursion (IsNumbered names) js → AllByRecursion (λ j. judge (truths_in v.facts) v.statements.checks j ≡ j) js → AllByRecursion (λ j. j.verdict ≡ verdict rows j.statement) js
  each_verdict [] l n g = tt
  each_verdict (j ∷ js) l n g = (one_verdict j l.0 n.0 g.0, each_verdict js l.1 n.1 g.1)

  pub all_verdicts : AllByRecursion (λ j. j.verdict ≡ verdict rows j.statement) v.statements.rows
  all_verdicts = each_verdict v.statements.rows (all_listed v.statements.rows) h.numbered h.judged

-- ---- lists of verdicts

module _ (rows : Rows) where
  pub verdicts_map : (js : List StatementRow) → AllByRecursion (λ j. j.verdict ≡ verdict rows j.statement) js → map (λ (j : StatementRow). j.verdict) js ≡ map (verdict rows) (statements_of js)
  verdicts_map [] all = refl
  verdicts_map (j ∷ js) all = λ i. all.0 i ∷ verdicts_map js all.1 i

  pub verdict_got : (js : List StatementRow) (k : ℕ) → AllByRecursion (λ j. j.verdict ≡ verdict rows j.statement) js → option_map (λ (j : StatementRow). j.verdict) (slice_get js k) ≡ option_map (verdict rows) (slice_get (statements_of js) k)
  verdict_got [] k all = refl
  verdict_got (j ∷ js) zero all = ap Some all.0
  verdict_got (j ∷ js) (suc k) all = verdict_got js k all.1

  pub verdict_found : (id : List ℕ) (js : List StatementRow) → AllByRecursion (λ j. j.verdict ≡ verdict rows j.statement) js → option_map (λ (j : StatementRow). j.verdict) (find (is_of id) js) ≡ option_map (verdict rows) (find (has_id id) (statements_of js))
  verdict_found id [] all = refl
  verdict_found id (j ∷ js) all = by (has_id id j.statement) (verdict_found id js all.1)
    where
      by : (t : Bool) → option_map (λ (k : StatementRow). k.verdict) (find (is_of id) js) ≡ option_map (verdict rows) (find (has_id id) (statements_of js))
          → option_map (λ (k : StatementRow). k.verdict) (cond t (Some j) (find (is_of id) js)) ≡ option_map (verdict rows) (cond t (Some j.statement) (find (has_id id) (statements_of js)))
      by true later = ap Some all.0
      by false later = later

-- ---- verdicts are made the known ones

module _ {A : Type 0} (p : StatementRow → A) (same : (j : StatementRow) → p (forget_row_change j) ≡ p j) where
  pub forget_map : (js : List StatementRow) → map p (map forget_row_change js) ≡ map p js
  forget_map [] = refl
  forget_map (j ∷ js) = λ i. same j i ∷ forget_map js i

pub forget_known : (js : List StatementRow) → map (λ (j : StatementRow). j.known) (map forget_row_change js) ≡ map (λ (j : StatementRow). j.verdict) js
forget_known [] = refl
forget_known (j ∷ js) = ap (λ (ts : List Truth). j.verdict ∷ ts) (forget_known js)

pub forget_numbered : (names : Names) (js : List StatementRow) → AllByRecursion (IsNumbered names) js → AllByRecursion (IsNumbered names) (map forget_row_change js)
forget_numbered names [] all = tt
forget_numbered names (j ∷ js) all = (record { live = all.0.live; named = all.0.named }, forget_numbered names js all.1)

pub forget_judged : (truth : FactTruths) (checks : List (CheckKey × Truth)) (js : List StatementRow) → AllByRecursion (λ j. judge truth checks j ≡ j) js → AllByRecursion (λ j. judge truth checks j ≡ j) (map forget_row_change js)
forget_judged truth checks [] all = tt
forget_judged truth checks (j ∷ js) all = (ap (λ (k : StatementRow). record k { known = j.verdict }) all.0, forget_judged truth checks js all.1)
