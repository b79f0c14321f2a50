use Rattle.std.proofs.Common.{ℕ, List, length, get_or, refl, sym, ap, subst, ◌∙◌, take_all, cond, vec_capacity}
use Rattle.std.specs.Prelude.{nat_eq}
use Rattle.statement_rows.specs.declared.row.JudgedRow.{JudgedRow}
use Rattle.check_results.specs.ticket_list.Rising.{IsRisingBy}
use Rattle.statement_rows.specs.Rows.{at_rows, judge_row, ticket_of}
use Rattle.statement_rows.proofs.ByResultLemmas.{again_once_more}
use Rattle.std.proofs.lemmas.List.{length-map}
use Rattle.statement_rows.proofs.RowLemmas.{at_more, no_tickets, rising-at, still_room}
use Rattle.statement_rows.proofs.rows.refresh_rows.Goals as goal

pub loop-ticket-init : goal.loop-ticket-init
loop-ticket-init g c = record {
  rows = sym (no_tickets (judge_row c.args.cause (g.T.FactTruth.fact_truth c.args.facts.now) c.args.results.now.list) (λ r. refl) c.args.rows.now.items);
  ready = refl;
  noted = c.requires;
  capacity = refl;
}

pub loop-ticket-preserved : goal.loop-ticket-preserved
loop-ticket-preserved g c =
    let ts = c.args.list.now in
    let i = c.loop-ticket.ticket-index in
    let f = judge_row c.args.cause (g.T.FactTruth.fact_truth c.args.facts.now) c.args.results.now.list in
    let again = again_once_more c.args.cause (g.T.FactTruth.fact_truth c.args.facts.now) c.args.results.now.list in
    let t = get_or ts i 0 in
    let as_long = ap length c.refresh_row.ensures.rows ∙ length-map c.loop-ticket.rows.items (λ (r : JudgedRow). cond (nat_eq t r.ticket) (f r) r) in
    record {
      rows = c.refresh_row.ensures.rows ∙ at_more f (λ r. refl) again ts i c.args.rows.now.items c.loop-ticket.rows.items c.loop-ticket-test.true c.loop-ticket.invariant.rows;
      ready = c.refresh_row.ensures.ready ∙ c.loop-ticket.invariant.ready;
      noted = record {
        rising = subst (IsRisingBy ticket_of) (sym c.refresh_row.ensures.rows) (rising-at f (λ r. refl) (get_or ts i 0) c.loop-ticket.rows.items c.loop-ticket.invariant.noted.rising);
        changed = c.refresh_row.ensures.changed;
        room = still_room (length c.refresh_row.new.rows.items) (length c.loop-ticket.rows.items) (vec_capacity c.loop-ticket.changed) (vec_capacity c.refresh_row.new.changed) as_long c.refresh_row.ensures.capacity c.loop-ticket.invariant.noted.room;
      };
      capacity = c.refresh_row.ensures.capacity ∙ c.loop-ticket.invariant.capacity;
    }

pub returns-clause-rows : goal.returns-clause-rows
returns-clause-rows g c =
    c.loop-ticket.invariant.rows
    ∙ ap (λ (ts : List ℕ). at_rows ts (judge_row c.args.cause (g.T.FactTruth.fact_truth c.args.facts.now) c.args.results.now.list) c.args.rows.now.items)
    (take_all c.loop-ticket.ticket-index c.args.list.now c.loop-ticket-test.false)
