-- Lemmas: an added entry changes no verdict.
use Rattle.std.proofs.Common.{◌≡◌, Bool, [], map, ap, ◌∙◌, refl, subst}
use Rattle.std.specs.List.{list_any}
use Rattle.cpe_name.specs.Eleven.{Values}
use Rattle.cpe_relation.specs.NameRelation.{covers}
use Rattle.cpe_relation.specs.Maybe.{maybe}
use Rattle.cpe_rows.specs.Rows.{Rows}
use Rattle.cpe_rows.specs.Chains.{ends}
use Rattle.cpe_rows.specs.After.{after}
use Rattle.cpe_rows.specs.Evaluation.{test_truth}
use Rattle.cpe_rows.specs.Verdict.{truth, fact_truth, finds_item, check_truth, verdict}
use Rattle.cpe_rows.specs.Changes.{changes, differing}
use Rattle.cpe_rows.specs.Accepted.{IsAccepted}
use Rattle.cpe_rows.specs.declared.entry.Entry.{Entry}
use Rattle.cpe_rows.specs.declared.edit.Edit.TheVariants as edit
use Rattle.cpe_rows.specs.declared.statement.Mode.{Mode}
use Rattle.cpe_rows.specs.declared.statement.Mode.TheVariants.{Plain, Follow}
use Rattle.cpe_rows.specs.declared.statement.Statement.{Statement}
use Rattle.cpe_rows.proofs.Accepted.{next_ends}
use Rattle.cpe_rows.proofs.Unrefused.{unrefused}
use Rattle.cpe_rows.proofs.Differing.{no_difference}

module _ (rows next : Rows) (e : Entry) (h : IsAccepted rows (edit.Entry e) next) where
  abbrev left : Rows
  left = after rows (edit.Entry e)

  left_ends : (x : Values) → ends left.entries x ≡ ends rows.entries x
  left_ends x = ap (λ (r : Rows). ends r.entries x) (unrefused h).1 ∙ next_ends rows next e h x

  same_found : (relates : Values → Values → Bool) (f : Values) → finds_item relates left Follow f ≡ finds_item relates rows Follow f
  same_found relates f = λ i. list_any (λ x. list_any (λ g. list_any (relates g) (left_ends x i)) (left_ends f i)) rows.items

  pub same_facts : (mode : Mode) (f : Values) → fact_truth left mode f ≡ fact_truth rows mode f
  same_facts Plain f = refl
  same_facts Follow f = λ i. truth (same_found covers f i) (same_found maybe f i)

  same_verdict : (s : Statement) → verdict left s ≡ verdict rows s
  same_verdict s = λ i. test_truth (λ f. same_facts s.mode f i) (check_truth rows) s.test

  pub next_verdict : (s : Statement) → verdict next s ≡ verdict rows s
  next_verdict s = subst (λ (r : Rows). verdict r s ≡ verdict rows s) (unrefused h).1 (same_verdict s)

  pub no_changes : changes rows (edit.Entry e) ≡ []
  no_changes = (λ i. differing 0 (map (verdict rows) rows.statements) (map (λ s. same_verdict s i) rows.statements)) ∙ no_difference 0 (map (verdict rows) rows.statements)
