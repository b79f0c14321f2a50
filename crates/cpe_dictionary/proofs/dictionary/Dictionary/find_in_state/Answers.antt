use Rattle.std.proofs.Common.{sym, ◌∙◌}
use Rattle.cpe_rows.proofs.CauseLemmas.{is_cause}
use Rattle.cpe_rows.specs.Step.{first_some}
use Rattle.cpe_dictionary.specs.Causes.{state_causes}
use Rattle.cpe_dictionary.proofs.PlanLemmas.{state_is, unknown_first}
use Rattle.cpe_dictionary.proofs.dictionary.Dictionary.find_in_state.Goals as goal

pub returns-in_default-clause-err : goal.returns-in_default-clause-err
returns-in_default-clause-err c = unknown_first c.args.self.now c.args.name.now c.args.active (sym c.requires ∙ c.in_default.is)

pub returns-in-Some-state_fault-clause-err : goal.returns-in-Some-state_fault-clause-err
returns-in-Some-state_fault-clause-err c =
    let es = c.args.self.now in
    let n = c.args.name.now in
    is_cause c.in-Some-state_fault.fault (first_some (state_causes es n c.args.active))
    (state_is es n c.in-Some.number c.args.active c.is_active.result (sym c.requires ∙ c.in-Some.is) c.is_active.ensures ∙ sym c.in-Some-state_fault.ensures)

pub returns-in-None-clause-ok : goal.returns-in-None-clause-ok
returns-in-None-clause-ok c =
    let es = c.args.self.now in
    let n = c.args.name.now in
    state_is es n c.in-Some.number c.args.active c.is_active.result (sym c.requires ∙ c.in-Some.is) c.is_active.ensures ∙ sym c.in-None.ensures
