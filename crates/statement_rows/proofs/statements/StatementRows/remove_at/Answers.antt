use Rattle.std.proofs.Common.{◌≡◌, ℕ, ◌+◌, ◌-◌, ◌^◌, List, ◌++◌, cond, drop, length, map, min, sym, ap, subst, ◌∙◌, take}
use Rattle.std.specs.Prelude.{slice_get, Some, None, option_map}
use Rattle.std.specs.Map.{lookup}
use Rattle.std.specs.Str.{bytes_eq}
use Rattle.cpe_rows.specs.FactNames.{fact_names}
use Rattle.cpe_rows.specs.declared.statement.Mode.{Mode}
use Rattle.name_index.specs.declared.table.NameId.{NameId}
use Rattle.check_results.specs.ticket_list.Rising.{IsRising}
use Rattle.check_results.proofs.ticket_list.RisingLemmas.{rising_passing}
use Rattle.statement_rows.specs.declared.row.NumberedStatement.{NumberedStatement}
use Rattle.statement_rows.specs.declared.row.JudgedRow.{JudgedRow}
use Rattle.statement_rows.specs.Askers.{AreAskers, askers_at}
use Rattle.statement_rows.specs.Readings.{check_keys, is_asked}
use Rattle.statement_rows.specs.Rows.{asks, is_changed, ticket_of}
use Rattle.statement_rows.specs.State.{State, StatementRow, statements_of, use_of, view_of}
use Rattle.statement_rows.specs.Tickets.{without_if}
use Rattle.statement_rows.proofs.CountLemmas.{counted_gone, few_gone}
use Rattle.statement_rows.proofs.RemovalLemmas.{AreRows-removed}
use Rattle.statement_rows.proofs.ReadLemmas.{get-map}
use Rattle.statement_rows.proofs.TakeLemmas.{map-removed}
use Rattle.statement_rows.proofs.statements.StatementRows.remove_at.Goals as goal

statement_at : (rows : List JudgedRow) (k : ℕ) (r : JudgedRow) → slice_get rows k ≡ Some r → slice_get (statements_of (map view_of rows)) k ≡ Some r.numbered.value.statement
statement_at rows k r at =
    get-map (λ (j : StatementRow). j.statement) (map view_of rows) k
    ∙ ap (option_map (λ (j : StatementRow). j.statement)) (get-map view_of rows k ∙ ap (option_map view_of) at)

pub overflow_sub-self : goal.overflow_sub-self
overflow_sub-self c =
    let inside = c.self.inside in
    let r : JudgedRow = c.in-Some.row in
    few_gone inside.facts c.with_facts_of.result c.args.place (statements_of (map view_of inside.rows.items)) r.numbered.value.statement (statement_at inside.rows.items c.args.place r (sym c.in-Some.ensures.row)) c.self.invariant.1
    (c.with_facts_of.ensures ∙ ap (λ (h : NumberedStatement). min (0 + length (fact_names h.statement.test)) (2 ^ 64 - 1)) c.deref.ensures)

pub remove_all-requires : goal.remove_all-requires
remove_all-requires c q =
    subst IsRising (sym (c.self.invariant.0.asked q)) (rising_passing ticket_of (asks q) c.self.inside.rows.items c.self.invariant.0.noted.rising)

pub remove_changed-requires : goal.remove_changed-requires
remove_changed-requires c =
    subst IsRising (sym c.self.invariant.0.noted.changed) (rising_passing ticket_of is_changed c.self.inside.rows.items c.self.invariant.0.noted.rising)

pub invariant_of-self : goal.invariant_of-self
invariant_of-self c =
    let inside = c.self.inside in
    let rows = inside.rows.items in
    let k = c.args.place in
    let r : JudgedRow = c.in-Some.row in
    let at = sym c.in-Some.ensures.row in
    let are = c.take_row.ensures.rows in (
      AreRows-removed rows c.take_row.new.rows.items inside.changed c.remove_changed.new.changed inside.by_id.entries c.remove_id.new.by_id.entries inside.askers.entries c.remove_all.new.askers.entries inside.next c.self.invariant.0
          k r at are
          (λ q. c.remove_id.ensures q ∙ ap (λ (h : NumberedStatement). cond (bytes_eq h.statement.id q) None (lookup (bytes_eq q) inside.by_id.entries)) c.deref-2.ensures)
          (λ key. c.remove_all.ensures.tickets key ∙ ap (λ (h : NumberedStatement). without_if (is_asked (check_keys h.statement.test) key) r.ticket (askers_at inside.askers.entries key)) c.deref-3.ensures)
          c.remove_changed.ensures.items c.remove_changed.ensures.capacity,
      counted_gone inside.facts c.with_facts_of.result k (statements_of (map view_of rows)) (statements_of (map view_of c.take_row.new.rows.items)) r.numbered.value.statement
          (ap (λ (rs : List JudgedRow). statements_of (map view_of rs)) are ∙ (ap statements_of (map-removed view_of k rows) ∙ map-removed (λ (j : StatementRow). j.statement) k (map view_of rows)))
          (statement_at rows k r at) c.self.invariant.1
          (c.with_facts_of.ensures ∙ ap (λ (h : NumberedStatement). min (0 + length (fact_names h.statement.test)) (2 ^ 64 - 1)) c.deref.ensures),
    )

pub returns-clause-row : goal.returns-clause-row
returns-clause-row c =
    let rows = c.self.inside.rows.items in
    let k = c.args.place in
    ap (λ (x : Mode × List NameId × ℕ). Some x) c.into_use.ensures
    ∙ (sym (ap (option_map use_of) (get-map view_of rows k ∙ ap (option_map view_of) (sym c.in-Some.ensures.row)))
    ∙ ap (λ (b : State). option_map use_of (slice_get b.rows k)) c.self.view_is)

pub returns-clause-rows : goal.returns-clause-rows
returns-clause-rows c =
    let k = c.args.place in
    ap (map view_of) c.take_row.ensures.rows
    ∙ (map-removed view_of k c.self.inside.rows.items ∙ ap (λ (b : State). take k b.rows ++ drop (k + 1) b.rows) c.self.view_is)

pub returns-clause-asked : goal.returns-clause-asked
returns-clause-asked c h = c.remove_all.ensures.lists (subst (λ (b : State). AreAskers b.askers) (sym c.self.view_is) h)
