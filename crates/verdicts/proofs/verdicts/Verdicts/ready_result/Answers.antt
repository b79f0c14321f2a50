use Rattle.std.proofs.Common.{map, sym, ap, subst, ◌∙◌}
use Rattle.statement_rows.specs.State.{State, StatementRow}
use Rattle.verdicts.specs.Verdicts.{checks_in, HasVerdicts, known_in, statements_in, VerdictsNow}
use Rattle.verdicts.proofs.ResultLemmas.{with_result_room}
use Rattle.verdicts.proofs.verdicts.Verdicts.ready_result.Goals as goal

pub returns-clause-verdicts : goal.returns-clause-verdicts
returns-clause-verdicts c names rows rows_before =
    let v : VerdictsNow = record { facts = c.self.inside.facts; statements = c.self.inside.statements } in
    let h = subst (λ (w : VerdictsNow). HasVerdicts names w rows) (sym c.self.view_is) rows_before in
    subst (λ (b : State). HasVerdicts names (record { facts = v.facts; statements = b }) rows) (sym c.ready_result.ensures.same) (with_result_room names v c.ready_result.new.self.result_room rows h)

pub returns-clause-same : goal.returns-clause-same
returns-clause-same c =
    let same = c.ready_result.ensures.same in
    record {
      statements = ap (λ (b : State). map (λ (j : StatementRow). j.statement) b.rows) same ∙ ap statements_in c.self.view_is;
      checks = ap (λ (b : State). b.checks) same ∙ ap checks_in c.self.view_is;
      known = ap (λ (b : State). map (λ (j : StatementRow). j.known) b.rows) same ∙ ap known_in c.self.view_is;
    }
