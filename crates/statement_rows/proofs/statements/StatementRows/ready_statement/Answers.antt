use Rattle.std.proofs.Common.{List, [], ◌∷◌, ◌++◌, length, map, refl, sym, ap, subst, ◌∙◌, vec_capacity}
use Rattle.std.specs.Prelude.{nat_lt}
use Rattle.std.specs.List.{list_any}
use Rattle.std.specs.HashMap.{spare}
use Rattle.check_results.specs.Kept.{IsCounted}
use Rattle.cpe_rows.specs.FactNames.{number_of_facts}
use Rattle.cpe_rows.specs.Limits.{most}
use Rattle.cpe_rows.specs.declared.fault.Which.TheVariants as which
use Rattle.cpe_rows.specs.declared.statement.Statement.{Statement}
use Rattle.statement_rows.specs.declared.row.NumberedStatement.{NumberedStatement}
use Rattle.statement_rows.specs.declared.row.JudgedRow.{JudgedRow}
use Rattle.statement_rows.specs.Room.{RowRoom}
use Rattle.statement_rows.specs.State.{State, StatementReady, has_statement_room, is_of, statements_of, view_of}
use Rattle.statement_rows.proofs.StateLemmas.{AreRows-same, ready_by}
use Rattle.statement_rows.proofs.statements.StatementRows.ready_statement.Goals as goal

pub invariant_of-self : goal.invariant_of-self
invariant_of-self c =
    let inside = c.self.inside in
    let after = c.ready_row-id.new in
    let same = c.ready_row-id.ensures in (
      AreRows-same inside.rows.items after.rows.items inside.changed after.changed inside.by_id.entries after.by_id.entries inside.askers.entries after.askers.entries inside.next c.self.invariant.0
          same.rows same.changed same.capacity same.ids same.ready.tickets,
      subst (λ (rs : List JudgedRow). IsCounted inside.facts (statements_of (map view_of rs))) (sym same.rows) c.self.invariant.1,
    )

pub returns : goal.returns
returns c =
    let inside = c.self.inside in
    let after = c.ready_row-id.new in
    let same = c.ready_row-id.ensures in
    let s = c.args.statement in
    let ids = c.args.ids.now in
    let numbered = c.in_ok-numbered.numbered in
    let old : State = record { rows = map view_of inside.rows.items; checks = inside.results.list; askers = inside.askers.entries; next = inside.next; ready = has_statement_room inside.rows.ready (length inside.rows.items) (vec_capacity inside.changed) (spare inside.by_id) inside.next; result_room = inside.results.ready } in
    let new : State = record { rows = map view_of after.rows.items; checks = inside.results.list; askers = after.askers.entries; next = inside.next; ready = has_statement_room after.rows.ready (length after.rows.items) (vec_capacity after.changed) (spare after.by_id) inside.next; result_room = inside.results.ready } in
    subst (λ (a : State). StatementReady a new s ids c.with_id.result) c.self.view_is
    (ready_by old new s ids numbered after.rows.ready (length after.rows.items) (vec_capacity after.changed) (spare after.by_id)
    (record { rows = ap (map view_of) same.rows; checks = refl; next = refl; askers = same.ready.tickets }) refl c.in_ok-numbered.ensures.statement c.in_ok-numbered.ensures.ids
    (ap (λ (a : State). list_any (is_of s.id) a.rows) c.self.view_is ∙ c.requires.new)
    (ap (λ (a : State). nat_lt (most which.Facts) (number_of_facts (statements_of a.rows ++ s ∷ []))) c.self.view_is ∙ c.requires.few)
    c.ready_row-id.result c.with_id.result c.with_id.ensures
    (subst (λ (u : Statement). RowRoom after.rows.ready (length after.rows.items) (vec_capacity after.changed) (spare after.by_id) inside.next u inside.askers.entries after.askers.entries c.ready_row-id.result)
    (ap (λ (u : NumberedStatement). u.statement) c.deref.ensures ∙ c.in_ok-numbered.ensures.statement) same.ready))
