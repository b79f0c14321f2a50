use Rattle.std.proofs.Common.{ap, ◌∙◌}
use Rattle.statement_rows.specs.State.{State}
use Rattle.statement_rows.proofs.statements.StatementRows.ready_result.Goals as goal

pub returns-clause-same : goal.returns-clause-same
returns-clause-same c =
    let checks = c.reserve.ensures.list ∙ ap (λ (a : State). a.checks) c.self.view_is in
    λ i. record (c.self.view_is i) { checks = checks i; result_room = c.reserve.new.self.ready }
