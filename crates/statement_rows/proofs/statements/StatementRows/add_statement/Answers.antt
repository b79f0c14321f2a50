use Rattle.std.proofs.Common.{◌≡◌, ℕ, ◌+◌, ◌-◌, ◌^◌, List, [], ◌∷◌, ◌++◌, cond, length, map, min, refl, sym, ap, subst, ◌∙◌, vec_capacity}
use Rattle.std.specs.Prelude.{nat_lt, Some}
use Rattle.std.specs.List.{list_any}
use Rattle.std.specs.HashMap.{spare}
use Rattle.std.specs.Map.{lookup}
use Rattle.std.specs.Str.{bytes_eq}
use Rattle.cpe_rows.specs.FactNames.{fact_names, number_of_facts}
use Rattle.cpe_rows.specs.Limits.{most}
use Rattle.cpe_rows.specs.declared.fault.Which.TheVariants as which
use Rattle.cpe_rows.specs.declared.statement.Statement.{Statement}
use Rattle.statement_rows.specs.declared.row.NumberedStatement.{NumberedStatement}
use Rattle.statement_rows.specs.declared.row.JudgedRow.{JudgedRow}
use Rattle.statement_rows.specs.Askers.{askers_at}
use Rattle.statement_rows.specs.Invariant.{new_row}
use Rattle.statement_rows.specs.Readings.{check_keys, is_asked}
use Rattle.statement_rows.specs.Rows.{asks}
use Rattle.statement_rows.specs.State.{IsReadyRow, State, StatementStored, has_statement_room, is_of, new_statement_row, statements_of, view_of}
use Rattle.statement_rows.specs.Tickets.{IsBelow, with_last_if}
use Rattle.statement_rows.proofs.AskerLemmas.{with_last_new}
use Rattle.statement_rows.proofs.CountLemmas.{counted_last}
use Rattle.statement_rows.proofs.StateLemmas.{AreRows-put, below_next, judged_last, map-last, new_id, room_of, statements-last}
use Rattle.statement_rows.proofs.KeyLemmas.{asked_put}
use Rattle.statement_rows.proofs.statements.StatementRows.add_statement.Goals as goal

pub invariant_of-self : goal.invariant_of-self
invariant_of-self g c =
    let inside = c.self.inside in
    let inv = c.self.invariant in
    let truth = g.T.FactTruth.fact_truth c.args.facts.now in
    let ready = c.args.ready in
    let s = c.requires.0 in
    let h = c.requires.2 in
    let rows = inside.rows.items in
    let r : JudgedRow = new_row truth inside.results.list ready.ticket ready.numbered in
    let are : c.push.new.self.items ≡ rows ++ r ∷ [] = c.push.ensures ∙ ap (λ (r : JudgedRow). rows ++ r ∷ []) c.row_of-row.ensures in
    let ticket = h.ticket.0 ∙ sym (ap (λ (a : State). a.next) c.self.view_is) in
    let view = c.self.view_is in (
      AreRows-put rows c.push.new.self.items inside.changed inside.by_id.entries c.insert_id.new.by_id.entries inside.askers.entries c.add_all.new.askers.entries inside.next inv.0 r
          ticket refl refl are
          (new_id ready.numbered.value.statement.id rows
          (ap (λ (a : State). list_any (is_of ready.numbered.value.statement.id) a.rows) view ∙ (ap (λ (u : Statement). list_any (is_of u.id) c.args.self.now.rows) h.numbered.0 ∙ h.new)))
          (λ q. c.insert_id.ensures q ∙ ap (λ (id : List ℕ). cond (bytes_eq id q) (Some ready.ticket) (lookup (bytes_eq q) inside.by_id.entries)) (h.id ∙ sym (ap (λ (u : Statement). u.id) h.numbered.0)))
          (λ k. c.add_all.ensures.tickets k
          ∙ (ap (λ (u : NumberedStatement). with_last_if (is_asked (check_keys u.statement.test) k) ready.ticket (askers_at inside.askers.entries k)) c.deref-2.ensures
          ∙ with_last_new (asks k r) ready.ticket (askers_at inside.askers.entries k)
          (subst (λ (n : ℕ). IsBelow n (askers_at inside.askers.entries k)) (sym ticket) (below_next (asks k) inside.next rows (askers_at inside.askers.entries k) inv.0.noted.rising inv.0.below (inv.0.asked k)))))
          (room_of inside.rows.ready (length rows) (vec_capacity inside.changed) (spare inside.by_id) inside.next (ap (λ (a : State). a.ready) view ∙ h.ticket.1)),
      counted_last inside.facts c.with_facts_of-self-inside.result (statements_of (map view_of rows)) (statements_of (map view_of c.push.new.self.items)) ready.numbered.value.statement
          (ap (λ (rs : List JudgedRow). statements_of (map view_of rs)) are ∙ statements-last rows r) inv.1
          (c.with_facts_of-self-inside.ensures ∙ ap (λ (u : NumberedStatement). min (inside.facts + length (fact_names u.statement.test)) (2 ^ 64 - 1)) c.deref.ensures)
          (ap (λ (a : State). nat_lt (most which.Facts) (number_of_facts (statements_of a.rows ++ ready.numbered.value.statement ∷ []))) view
          ∙ (ap (λ (u : Statement). nat_lt (most which.Facts) (number_of_facts (statements_of c.args.self.now.rows ++ u ∷ []))) h.numbered.0 ∙ h.few)),
    )

pub returns : goal.returns
returns g c s ids is_ready =
    let inside = c.self.inside in
    let truth = g.T.FactTruth.fact_truth c.args.facts.now in
    let ready = c.args.ready in
    let rows = inside.rows.items in
    let r : JudgedRow = new_row truth inside.results.list ready.ticket ready.numbered in
    let are : c.push.new.self.items ≡ rows ++ r ∷ [] = c.push.ensures ∙ ap (λ (r : JudgedRow). rows ++ r ∷ []) c.row_of-row.ensures in
    let old : State = record { rows = map view_of rows; checks = inside.results.list; askers = inside.askers.entries; next = inside.next; ready = has_statement_room inside.rows.ready (length rows) (vec_capacity inside.changed) (spare inside.by_id) inside.next; result_room = inside.results.ready } in
    let new : State = record { rows = map view_of c.push.new.self.items; checks = inside.results.list; askers = c.add_all.new.askers.entries; next = inside.next + 1; ready = has_statement_room c.push.new.self.ready (length c.push.new.self.items) (vec_capacity inside.changed) (spare c.insert_id.new.by_id) (inside.next + 1); result_room = inside.results.ready } in
    subst (λ (a : State). IsReadyRow a s ids ready → StatementStored a new s ids truth) c.self.view_is
    (λ (h : IsReadyRow old s ids ready).
    let put : new.rows ≡ old.rows ++ new_statement_row truth old s ids ∷ [] =
    ap (map view_of) are ∙ (map-last view_of rows r ∙ (λ i. map view_of rows ++ new_statement_row truth (record old { next = h.ticket.0 i }) (h.numbered.0 i) (h.numbered.1 i) ∷ [])) in
    let numbered = ap (λ (u : NumberedStatement). u.statement) c.deref-2.ensures ∙ h.numbered.0 in
    record {
      rows = put;
      checks = refl;
      next = refl;
      asked = asked_put (check_keys s.test) old.askers new.askers ready.ticket
          (λ q. c.add_all.ensures.tickets q ∙ ap (λ (u : Statement). with_last_if (is_asked (check_keys u.test) q) ready.ticket (askers_at old.askers q)) numbered)
          (λ q e. c.add_all.ensures.others q (ap (λ (u : Statement). is_asked (check_keys u.test) q) numbered ∙ e));
      judged = judged_last truth old new s ids put refl;
    }) is_ready
