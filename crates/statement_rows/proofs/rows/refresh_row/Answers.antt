use Rattle.std.proofs.Common.{length, refl, sym, ap, subst, ◌∙◌, vec_capacity}
use Rattle.statement_rows.specs.declared.row.JudgedRow.{JudgedRow}
use Rattle.check_results.specs.ticket_list.Rising.{IsRising}
use Rattle.statement_rows.specs.Rows.{after_move, is_changed, judge_row, ticket_of, statement_tickets}
use Rattle.check_results.proofs.ticket_list.RisingLemmas.{rising_passing}
use Rattle.statement_rows.proofs.RowLemmas.{changed_rows, fewer, found_row, moved_is, not_found, placed_row, room_for, same_at}
use Rattle.statement_rows.proofs.rows.refresh_row.Goals as goal

pub move_ticket-requires-clause-rising : goal.move_ticket-requires-clause-rising
move_ticket-requires-clause-rising g c = subst IsRising (sym c.requires.changed) (rising_passing ticket_of is_changed c.args.rows.now.items c.requires.rising)

pub move_ticket-requires-clause-room : goal.move_ticket-requires-clause-room
move_ticket-requires-clause-room g c e =
    let rows = c.args.rows.now.items in
    let r : JudgedRow = c.in-Some.row.now in
    let at = found_row c.args.ticket r rows (sym c.in-Some.ensures) in
    let short = fewer ticket_of is_changed at.0 r rows at.1 (sym c.differ-before.ensures ∙ e) in
    room_for c.args.changed.now.items (statement_tickets is_changed rows) (length rows) (vec_capacity c.args.changed.now) c.requires.changed short c.requires.room

pub returns-in-Some-clause-rows : goal.returns-in-Some-clause-rows
returns-in-Some-clause-rows g c =
    let rows = c.args.rows.now.items in
    let t = c.args.ticket in
    let r : JudgedRow = c.in-Some.row.now in
    let next = c.refresh_of-next in
    let f = λ (r : JudgedRow). record r { verdict = next.result.verdict; by_result = next.result.by_result } in
    let now = judge_row c.args.cause (g.T.FactTruth.fact_truth c.args.facts.now) c.args.results.now.list in
    let at = found_row t r rows (sym c.in-Some.ensures) in
    c.change.ensures.items
    ∙ (changed_rows f t rows
    ∙ (sym (placed_row f t at.0 r rows c.requires.rising at.1 at.2)
    ∙ (same_at f now at.0 r rows at.1 (λ i. record r { verdict = next.ensures.verdict i; by_result = next.ensures.by_result i })
    ∙ placed_row now t at.0 r rows c.requires.rising at.1 at.2)))

pub returns-in-Some-clause-changed : goal.returns-in-Some-clause-changed
returns-in-Some-clause-changed g c =
    let rows = c.args.rows.now.items in
    let t = c.args.ticket in
    let r : JudgedRow = c.in-Some.row.now in
    let next = c.refresh_of-next.result in
    let f = λ (r : JudgedRow). record r { verdict = next.verdict; by_result = next.by_result } in
    let at = found_row t r rows (sym c.in-Some.ensures) in
    c.move_ticket.ensures.items
    ∙ ((λ i. after_move (c.differ-before.ensures i) (c.differ-after.ensures i) (sym at.2 i) (c.requires.changed i))
    ∙ (moved_is ticket_of f (λ r. refl) is_changed at.0 r rows c.requires.rising at.1
    ∙ ap (statement_tickets is_changed) (placed_row f t at.0 r rows c.requires.rising at.1 at.2 ∙ (sym (changed_rows f t rows) ∙ sym c.change.ensures.items))))

pub returns-in_default-clause-rows : goal.returns-in_default-clause-rows
returns-in_default-clause-rows g c =
    not_found (judge_row c.args.cause (g.T.FactTruth.fact_truth c.args.facts.now) c.args.results.now.list) c.args.ticket c.args.rows.now.items (sym c.in_default.ensures)
