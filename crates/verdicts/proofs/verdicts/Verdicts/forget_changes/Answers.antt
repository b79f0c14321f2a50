use Rattle.std.proofs.Common.{◌≡◌, List, map, refl, sym, ap, subst, ◌∙◌}
use Rattle.std.specs.List.{AllByRecursion}
use Rattle.cpe_rows.specs.Verdict.{verdict}
use Rattle.cpe_rows.specs.declared.test.CheckKey.{CheckKey}
use Rattle.cpe_rows.specs.declared.truth.Truth.{Truth}
use Rattle.facts.specs.Facts.{HasFacts}
use Rattle.statement_rows.specs.Askers.{AreAskers}
use Rattle.statement_rows.specs.State.{judge, StatementRow}
use Rattle.verdicts.specs.Verdicts.{HasVerdicts, IsNumbered, statements_in, tickets_in, truths_in, VerdictsNow}
use Rattle.verdicts.proofs.VerdictLemmas.{all_verdicts, forget_judged, forget_known, forget_map, forget_numbered, verdicts_map}
use Rattle.verdicts.proofs.verdicts.Verdicts.forget_changes.Goals as goal

pub returns-clause-verdicts : goal.returns-clause-verdicts
returns-clause-verdicts c names rows rows_before =
    let v : VerdictsNow = record { facts = c.self.inside.facts; statements = c.self.inside.statements } in
    let h = subst (λ (w : VerdictsNow). HasVerdicts names w rows) (sym c.self.view_is) rows_before in
    let js = v.statements.rows in
    let is = c.forget_changes.ensures.rows in
    let kept = c.forget_changes.ensures.checks in
    let truth = truths_in v.facts in
    record {
      statements = ap (map (λ (j : StatementRow). j.statement)) is ∙ forget_map (λ (j : StatementRow). j.statement) (λ j. refl) js ∙ h.statements;
      checks = kept ∙ h.checks;
      numbered = subst (AllByRecursion (IsNumbered names)) (sym is) (forget_numbered names js h.numbered);
      facts = subst (HasFacts names v.facts rows) (sym (ap tickets_in is ∙ forget_map (λ (j : StatementRow). j.ticket) (λ j. refl) js)) h.facts;
      needed = record { facts = h.needed.facts; askers = subst AreAskers (sym c.forget_changes.ensures.room.askers) h.needed.askers };
      sound = h.sound;
      judged = subst (λ (xs : List (CheckKey × Truth)). AllByRecursion (λ j. judge truth xs j ≡ j) c.forget_changes.new.self.rows) (sym kept)
          (subst (AllByRecursion (λ j. judge truth v.statements.checks j ≡ j)) (sym is) (forget_judged truth v.statements.checks js h.judged));
    }

pub returns-clause-known : goal.returns-clause-known
returns-clause-known c names rows rows_before =
    let v : VerdictsNow = record { facts = c.self.inside.facts; statements = c.self.inside.statements } in
    let h = subst (λ (w : VerdictsNow). HasVerdicts names w rows) (sym c.self.view_is) rows_before in
    let js = v.statements.rows in
    ap (map (λ (j : StatementRow). j.known)) c.forget_changes.ensures.rows
    ∙ forget_known js
    ∙ verdicts_map rows js (all_verdicts c.verdicts_are_truths.ensures names v rows h)
    ∙ ap (map (verdict rows)) h.statements

pub returns-clause-statements : goal.returns-clause-statements
returns-clause-statements c =
    let v : VerdictsNow = record { facts = c.self.inside.facts; statements = c.self.inside.statements } in
    ap (map (λ (j : StatementRow). j.statement)) c.forget_changes.ensures.rows ∙ forget_map (λ (j : StatementRow). j.statement) (λ j. refl) v.statements.rows ∙ ap statements_in c.self.view_is
