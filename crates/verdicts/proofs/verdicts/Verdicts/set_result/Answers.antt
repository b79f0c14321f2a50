use Rattle.std.proofs.Common.{sym, ap, subst, ◌∙◌}
use Rattle.cpe_rows.specs.After.{after, with_check}
use Rattle.cpe_rows.specs.declared.edit.Edit.TheVariants as edit
use Rattle.statement_rows.specs.Askers.{AreAskers}
use Rattle.statement_rows.specs.State.{IsReadyTruth}
use Rattle.verdicts.specs.Verdicts.{HasVerdicts, known_in, statements_in, tickets_in, VerdictsNow}
use Rattle.verdicts.proofs.ResultLemmas.{facts_over, same_known, same_statements, with_results}
use Rattle.verdicts.proofs.verdicts.Verdicts.set_result.Goals as goal

pub set_result-requires : goal.set_result-requires
set_result-requires c =
    let r = c.requires in
    (r.0, subst (λ (w : VerdictsNow). IsReadyTruth w.statements r.0 c.args.ready) (sym c.self.view_is) r.1)

pub returns-clause-verdicts : goal.returns-clause-verdicts
returns-clause-verdicts c k names rows is rows_before =
    let v : VerdictsNow = record { facts = c.self.inside.facts; statements = c.self.inside.statements } in
    let h = subst (λ (w : VerdictsNow). HasVerdicts names w rows) (sym c.self.view_is) rows_before in
    let t = c.args.truth in
    let e = c.set_result.ensures in
    let checks = e.checks k (subst (λ (w : VerdictsNow). IsReadyTruth w.statements k c.args.ready) (sym c.self.view_is) is) in
    with_results names v c.set_result.new.self (after rows (edit.SetCheck k t)) h.numbered (facts_over names v.facts rows (with_check k t rows.checks) (tickets_in v.statements.rows) h.facts) h.needed.facts (subst AreAskers (sym e.room.askers) h.needed.askers) h.sound h.statements e.same (checks ∙ ap (with_check k t) h.checks) (e.judged h.judged)

pub returns-clause-statements : goal.returns-clause-statements
returns-clause-statements c = same_statements c.set_result.new.self.rows c.self.inside.statements.rows c.set_result.ensures.same ∙ ap statements_in c.self.view_is

pub returns-clause-known : goal.returns-clause-known
returns-clause-known c = same_known c.set_result.new.self.rows c.self.inside.statements.rows c.set_result.ensures.same ∙ ap known_in c.self.view_is
