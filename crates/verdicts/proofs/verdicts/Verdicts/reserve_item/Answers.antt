use Rattle.std.proofs.Common.{sym, ap, subst}
use Rattle.verdicts.specs.Verdicts.{checks_in, HasVerdicts, known_in, statements_in, tickets_in, VerdictsNow}
use Rattle.verdicts.proofs.JudgeLemmas.{roomier}
use Rattle.verdicts.proofs.verdicts.Verdicts.reserve_item.Goals as goal

pub reserve-reserved-requires-clause-rows_before : goal.reserve-reserved-requires-clause-rows_before
reserve-reserved-requires-clause-rows_before c =
    let rows_before = c.requires.rows_before in
    let h = subst (λ (w : VerdictsNow). HasVerdicts c.args.table.now w rows_before.0) (sym c.self.view_is) rows_before.2 in
    (rows_before.0, tickets_in c.self.inside.statements.rows, rows_before.1, h.facts)

pub returns-clause-verdicts : goal.returns-clause-verdicts
returns-clause-verdicts c names rows rows_before =
    let v : VerdictsNow = record { facts = c.self.inside.facts; statements = c.self.inside.statements } in
    let h = subst (λ (w : VerdictsNow). HasVerdicts names w rows) (sym c.self.view_is) rows_before in
    roomier names v c.reserve-reserved.new.self rows c.reserve-reserved.ensures.facts c.reserve-reserved.ensures.plain c.reserve-reserved.ensures.follow c.lawful.ensures h

pub returns-clause-same : goal.returns-clause-same
returns-clause-same c = record { statements = ap statements_in c.self.view_is; checks = ap checks_in c.self.view_is; known = ap known_in c.self.view_is }
