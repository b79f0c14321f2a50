use Rattle.std.proofs.Common.{sym, ap, subst, ◌∙◌}
use Rattle.cpe_rows.specs.Rows.{has_key}
use Rattle.cpe_rows.specs.After.{after, without_first}
use Rattle.cpe_rows.specs.declared.edit.Edit.TheVariants as edit
use Rattle.statement_rows.specs.Askers.{AreAskers}
use Rattle.verdicts.specs.Verdicts.{HasVerdicts, known_in, statements_in, tickets_in, VerdictsNow}
use Rattle.verdicts.proofs.ResultLemmas.{facts_over, same_known, same_statements, with_results}
use Rattle.verdicts.proofs.verdicts.Verdicts.remove_result.Goals as goal

pub returns-clause-verdicts : goal.returns-clause-verdicts
returns-clause-verdicts c names rows rows_before =
    let v : VerdictsNow = record { facts = c.self.inside.facts; statements = c.self.inside.statements } in
    let h = subst (λ (w : VerdictsNow). HasVerdicts names w rows) (sym c.self.view_is) rows_before in
    let e = c.remove_result.ensures in
    with_results names v c.remove_result.new.self (after rows (edit.DropCheck c.args.key.now)) h.numbered (facts_over names v.facts rows (without_first (has_key c.args.key.now) rows.checks) (tickets_in v.statements.rows) h.facts) h.needed.facts (subst AreAskers (sym e.room.askers) h.needed.askers) h.sound h.statements e.same (e.checks ∙ ap (without_first (has_key c.args.key.now)) h.checks) (e.judged h.judged)

pub returns-clause-statements : goal.returns-clause-statements
returns-clause-statements c = same_statements c.remove_result.new.self.rows c.self.inside.statements.rows c.remove_result.ensures.same ∙ ap statements_in c.self.view_is

pub returns-clause-known : goal.returns-clause-known
returns-clause-known c = same_known c.remove_result.new.self.rows c.self.inside.statements.rows c.remove_result.ensures.same ∙ ap known_in c.self.view_is
