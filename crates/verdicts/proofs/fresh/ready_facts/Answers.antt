use Rattle.std.proofs.Common.{ℕ, List, subst, sym}
use Rattle.cpe_rows.specs.Lawful.{IsLawful}
use Rattle.cpe_rows.specs.Rows.{Rows}
use Rattle.name_index.specs.Table.{Names}
use Rattle.facts.specs.Facts.{HasFacts}
use Rattle.name_index.specs.declared.table.NameId.{NameId}
use Rattle.verdicts.specs.Addition.{HasAskedRoom}
use Rattle.verdicts.proofs.BesideLemmas.{beside_room, beside_users, is_there, made_ready}
use Rattle.verdicts.proofs.JudgeLemmas.{tables_same}
use Rattle.verdicts.proofs.fresh.ready_facts.Goals as goal

pub reserve_users-requires : goal.reserve_users-requires
reserve_users-requires c =
    is_there c.args.facts.now c.add_all_fresh.new.facts c.args.registry.now.table c.args.registry.now.entries c.args.mode c.args.ids.now c.args.fresh.now c.add_all_fresh.ensures.beside c.in_ok-add_all_fresh.ensures.added c.requires.whole

pub reserve_asked-requires : goal.reserve_asked-requires
reserve_asked-requires c =
    let s = c.requires.rows_before in
    let table = c.args.registry.now.table in
    let beside = beside_users c.args.facts.now c.add_all_fresh.new.facts c.reserve_users.new.self table c.args.mode c.args.ids.now c.args.fresh.now c.reserve_users.result c.add_all_fresh.ensures.beside c.reserve_users.ensures in
    subst (λ (n : Names). (rows : Rows) × (tickets : List ℕ) × IsLawful rows × HasFacts n c.reserve_users.new.self rows tickets) (sym c.table.ensures) (s.0, s.1, s.2, beside.facts s.0 s.1 s.3)

pub returns-in_err-reserve_users-clause-beside : goal.returns-in_err-reserve_users-clause-beside
returns-in_err-reserve_users-clause-beside c =
    beside_users c.args.facts.now c.add_all_fresh.new.facts c.reserve_users.new.self c.args.registry.now.table c.args.mode c.args.ids.now c.args.fresh.now c.reserve_users.result c.add_all_fresh.ensures.beside c.reserve_users.ensures

pub returns-in_err-reserve_asked-clause-beside : goal.returns-in_err-reserve_asked-clause-beside
returns-in_err-reserve_asked-clause-beside c =
    let table = c.args.registry.now.table in
    let room = c.reserve_users.new.self in
    let new = c.reserve_asked.new.facts in
    beside_room c.args.facts.now room new table c.args.mode c.args.fresh.now
    (beside_users c.args.facts.now c.add_all_fresh.new.facts room table c.args.mode c.args.ids.now c.args.fresh.now c.reserve_users.result c.add_all_fresh.ensures.beside c.reserve_users.ensures)
    c.reserve_asked.ensures.facts (tables_same room new c.reserve_asked.ensures.plain c.reserve_asked.ensures.follow)

pub returns-clause-beside : goal.returns-clause-beside
returns-clause-beside c =
    let table = c.args.registry.now.table in
    let room = c.reserve_users.new.self in
    let new = c.reserve_asked.new.facts in
    beside_room c.args.facts.now room new table c.args.mode c.args.fresh.now
    (beside_users c.args.facts.now c.add_all_fresh.new.facts room table c.args.mode c.args.ids.now c.args.fresh.now c.reserve_users.result c.add_all_fresh.ensures.beside c.reserve_users.ensures)
    c.reserve_asked.ensures.facts (tables_same room new c.reserve_asked.ensures.plain c.reserve_asked.ensures.follow)

pub returns-clause-ready : goal.returns-clause-ready
returns-clause-ready c =
    let room = c.reserve_users.new.self in
    let new = c.reserve_asked.new.facts in
    made_ready c.add_all_fresh.new.facts room new c.args.registry.now.table c.args.registry.now.entries c.args.mode c.args.ids.now c.args.fresh.now c.in_ok-asked.asked.items c.reserve_users.ensures.table.same c.in_ok-reserve_users.ensures.table.room
    c.in_ok-add_all_fresh.ensures.added c.in_ok-asked.ensures (tables_same room new c.reserve_asked.ensures.plain c.reserve_asked.ensures.follow c.args.mode)
    (subst (λ (n : Names). HasAskedRoom new n c.args.mode c.in_ok-asked.asked.items) c.table.ensures (subst (λ (ns : List NameId). HasAskedRoom new c.table.result.now c.args.mode ns) c.deref.ensures.value c.in_ok-reserve_asked.ensures.room))
