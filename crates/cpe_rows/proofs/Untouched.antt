-- Lemmas: facts, checks and verdicts that an accepted edit doesn't touch are unchanged.
use Rattle.std.proofs.Common.{◌≡◌, false, refl, subst}
use Rattle.cpe_name.specs.Eleven.{Values}
use Rattle.cpe_rows.specs.Rows.{Rows}
use Rattle.cpe_rows.specs.After.{after}
use Rattle.cpe_rows.specs.Verdict.{fact_truth, check_truth, verdict}
use Rattle.cpe_rows.specs.Accepted.{IsAccepted}
use Rattle.cpe_rows.specs.declared.edit.Edit.{Edit}
use Rattle.cpe_rows.specs.declared.edit.Edit.TheVariants as edit
use Rattle.cpe_rows.specs.declared.statement.Mode.{Mode}
use Rattle.cpe_rows.specs.declared.statement.Mode.TheVariants.{Plain, Follow}
use Rattle.cpe_rows.specs.declared.statement.Statement.{Statement}
use Rattle.cpe_rows.specs.declared.test.CheckKey.{CheckKey}
use Rattle.cpe_rows.proofs.Unrefused.{unrefused}
use Rattle.cpe_rows.specs.Touching.{touches_fact, touches_check, touches_statement}
use Rattle.cpe_rows.proofs.UntouchedTests.{stays}
use Rattle.cpe_rows.proofs.ItemChanges as item
use Rattle.cpe_rows.proofs.CheckChanges as check
use Rattle.cpe_rows.proofs.DeprecationChanges as deprecation
use Rattle.cpe_rows.proofs.EntryChanges as entry

facts_after : (rows next : Rows) (e : Edit) (mode : Mode) (f : Values) → IsAccepted rows e next → touches_fact rows e mode f ≡ false
    → fact_truth (after rows e) mode f ≡ fact_truth rows mode f
facts_after rows next (edit.Entry e) mode f a h = entry.same_facts rows next e a mode f
facts_after rows next (edit.Item n) mode f a h = item.added rows mode f n h
facts_after rows next (edit.DropItem n) mode f a h = item.dropped rows mode f n h
facts_after rows next (edit.Deprecate n d date comment) mode f a h = deprecation.same_facts rows (edit.Deprecate n d date comment) n f mode refl h
facts_after rows next (edit.Amend n d date comment) mode f a h = deprecation.same_facts rows (edit.Amend n d date comment) n f mode refl h
facts_after rows next (edit.Restore n date comment) mode f a h = deprecation.same_facts rows (edit.Restore n date comment) n f mode refl h
facts_after rows next (edit.PutStatement s) Plain f a h = refl
facts_after rows next (edit.PutStatement s) Follow f a h = refl
facts_after rows next (edit.DropStatement id) Plain f a h = refl
facts_after rows next (edit.DropStatement id) Follow f a h = refl
facts_after rows next (edit.SetCheck k t) mode f a h = check.fact_boards rows k t mode f
facts_after rows next (edit.DropCheck k) mode f a h = check.dropped_facts rows k mode f

checks_after : (rows : Rows) (e : Edit) (key : CheckKey) → touches_check e key ≡ false → check_truth (after rows e) key ≡ check_truth rows key
checks_after rows (edit.Entry e) key h = refl
checks_after rows (edit.Item n) key h = refl
checks_after rows (edit.DropItem n) key h = refl
checks_after rows (edit.Deprecate n d date comment) key h = refl
checks_after rows (edit.Amend n d date comment) key h = refl
checks_after rows (edit.Restore n date comment) key h = refl
checks_after rows (edit.PutStatement s) key h = refl
checks_after rows (edit.DropStatement id) key h = refl
checks_after rows (edit.SetCheck k t) key h = check.kept k key h rows t
checks_after rows (edit.DropCheck k) key h = check.dropped k key h rows

module _ (rows next : Rows) (e : Edit) (a : IsAccepted rows e next) where
  pub same_facts : (mode : Mode) (f : Values) → touches_fact rows e mode f ≡ false → fact_truth next mode f ≡ fact_truth rows mode f
  same_facts mode f h = subst (λ (r : Rows). fact_truth r mode f ≡ fact_truth rows mode f) (unrefused a).1 (facts_after rows next e mode f a h)

  pub same_checks : (key : CheckKey) → touches_check e key ≡ false → check_truth next key ≡ check_truth rows key
  same_checks key h = subst (λ (r : Rows). check_truth r key ≡ check_truth rows key) (unrefused a).1 (checks_after rows e key h)

  pub same_verdict : (s : Statement) → touches_statement rows e s ≡ false → verdict next s ≡ verdict rows s
  same_verdict s h =
      stays (fact_truth next s.mode) (fact_truth rows s.mode) (check_truth next) (check_truth rows) (touches_fact rows e s.mode) (touches_check e)
      (same_facts s.mode) same_checks s.test h
