use Rattle.std.proofs.Common.{◌++◌, ℕ, List, take, refl, sym, ap, ◌∙◌}
use Rattle.std.specs.List.{flat_map}
use Rattle.std.proofs.lemmas.List.{take_all}
use Rattle.name_index.specs.declared.table.NameId.{NameId}
use Rattle.cpe_rows.specs.declared.test.CheckKey.{CheckKey}
use Rattle.cpe_rows.specs.declared.truth.Truth.{Truth}
use Rattle.facts.specs.fact_rows.Facts.{fact_name_id, users_of}
use Rattle.facts.specs.Facts.{table_of}
use Rattle.statement_rows.specs.State.{at_tickets, judge}
use Rattle.verdicts.specs.Verdicts.{truths_in}
use Rattle.verdicts.proofs.JudgeLemmas.{at_none, flat_next, room_again, room_none}
use Rattle.verdicts.proofs.refresh.refresh_mode.Goals as goal

pub loop-fact-init : goal.loop-fact-init
loop-fact-init c = record { rows = sym (at_none (judge (truths_in c.args.facts.now) c.args.statements.now.checks) c.args.statements.now.rows); checks = refl; room = room_none c.args.statements.now }

pub loop-fact-preserved : goal.loop-fact-preserved
loop-fact-preserved c =
    let f = c.args.facts.now in
    let mode = c.args.mode in
    let xs = c.changed-fact-items.result.now in
    let i = c.loop-fact.fact-index in
    let g : NameId → List ℕ = λ id. users_of (table_of f mode) id.0 in
    let first = c.args.statements.now in
    let by = judge (truths_in f) first.checks in
    let inv = c.loop-fact.invariant in
    let r = c.refresh.ensures in
    let so_far = flat_map g (take i xs) in
    let users = c.users.result.now in
    record {
      rows =
          r.rows
          ∙ ap (λ (cs : List (CheckKey × Truth)). at_tickets users (judge (truths_in f) cs) c.loop-fact.statements.rows) inv.checks
          ∙ ap (at_tickets users by) inv.rows
          ∙ c.refreshes_add_up.ensures (truths_in f) first.checks so_far users first.rows
          ∙ ap (λ (ts : List ℕ). at_tickets ts by first.rows) (ap (λ (us : List ℕ). so_far ++ us) c.users.ensures ∙ sym (flat_next g xs i (fact_name_id 0) c.loop-fact-test.true));
      checks = r.checks ∙ inv.checks;
      room = room_again first c.loop-fact.statements c.refresh.new.self inv.room r.room;
    }

pub returns-clause-rows : goal.returns-clause-rows
returns-clause-rows c =
    let f = c.args.facts.now in
    let mode = c.args.mode in
    let xs = c.changed-fact-items.result.now in
    let g : NameId → List ℕ = λ id. users_of (table_of f mode) id.0 in
    let first = c.args.statements.now in
    let by = judge (truths_in f) first.checks in
    c.loop-fact.invariant.rows ∙ ap (λ (ids : List NameId). at_tickets (flat_map g ids) by first.rows) (take_all c.loop-fact.fact-index xs c.loop-fact-test.false ∙ c.changed-fact-items.ensures.value)
