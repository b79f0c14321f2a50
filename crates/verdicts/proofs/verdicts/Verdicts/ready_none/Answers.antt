use Rattle.std.proofs.Common.{sym, subst}
use Rattle.verdicts.specs.Verdicts.{HasVerdicts, tickets_in, VerdictsNow}
use Rattle.verdicts.proofs.JudgeLemmas.{roomier}
use Rattle.verdicts.proofs.LeadLemmas.{ready_none}
use Rattle.verdicts.proofs.verdicts.Verdicts.ready_none.Goals as goal

pub reserve_ends-requires : goal.reserve_ends-requires
reserve_ends-requires c =
    let rows_before = c.requires in
    let h = subst (λ (w : VerdictsNow). HasVerdicts c.args.table.now w rows_before.0) (sym c.self.view_is) rows_before.2 in
    (rows_before.0, tickets_in c.self.inside.statements.rows, rows_before.1, h.facts)

pub returns-in_err-reserve_ends-clause-verdicts : goal.returns-in_err-reserve_ends-clause-verdicts
returns-in_err-reserve_ends-clause-verdicts c names rows rows_before =
    let v : VerdictsNow = record { facts = c.self.inside.facts; statements = c.self.inside.statements } in
    let h = subst (λ (w : VerdictsNow). HasVerdicts names w rows) (sym c.self.view_is) rows_before in
    let reserved = c.reserve_ends.ensures in
    roomier names v c.reserve_ends.new.facts rows reserved.facts reserved.plain reserved.follow reserved.sound h

pub returns-clause-verdicts : goal.returns-clause-verdicts
returns-clause-verdicts c names rows rows_before =
    let v : VerdictsNow = record { facts = c.self.inside.facts; statements = c.self.inside.statements } in
    let h = subst (λ (w : VerdictsNow). HasVerdicts names w rows) (sym c.self.view_is) rows_before in
    let reserved = c.reserve_ends.ensures in
    roomier names v c.reserve_ends.new.facts rows reserved.facts reserved.plain reserved.follow reserved.sound h

pub returns-clause-lead : goal.returns-clause-lead
returns-clause-lead c rows left n unled rows_before =
    let table = c.args.table.now in
    let h = subst (λ (w : VerdictsNow). HasVerdicts table w rows) (sym c.self.view_is) rows_before in
    let new : VerdictsNow = record { facts = c.reserve_ends.new.facts; statements = c.self.inside.statements } in
    let tickets = tickets_in c.self.inside.statements.rows in
    ready_none table new rows tickets left n _ unled (c.reserve_ends.ensures.facts table rows tickets h.facts) c.new.ensures.items c.new-2.ensures.items c.new-3.ensures.items c.new-4.ensures.items c.new-5.ensures.items c.in_ok-reserve_ends.ensures.room
