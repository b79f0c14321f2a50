use Rattle.std.proofs.Common.{List, length, map, sym, ap, subst, ◌∙◌, vec_capacity}
use Rattle.std.specs.HashMap.{spare}
use Rattle.check_results.specs.Kept.{IsCounted, kept_truth}
use Rattle.cpe_rows.specs.declared.test.CheckKey.{CheckKey}
use Rattle.cpe_rows.specs.declared.truth.Truth.{Truth}
use Rattle.statement_rows.specs.declared.row.Cause.TheVariants.{Check}
use Rattle.statement_rows.specs.declared.row.JudgedRow.{JudgedRow}
use Rattle.statement_rows.specs.State.{AreJudged, State, has_statement_room, statements_of, view_of, without_verdict}
use Rattle.statement_rows.proofs.CheckLemmas.{judged_check, kept_without, unjudged-check}
use Rattle.statement_rows.proofs.StateLemmas.{AreRows-judged, statements-judged}
use Rattle.statement_rows.proofs.statements.StatementRows.remove_result.Goals as goal

pub invariant_of-self : goal.invariant_of-self
invariant_of-self g c =
    let truth = g.T.FactTruth.fact_truth c.args.facts.now in
    let inside = c.self.inside in
    let ts = c.askers_of.result.now in
    let rows = inside.rows.items in
    let are = c.refresh_rows.ensures.rows in (
      AreRows-judged (Check c.truth-truth.result) truth c.remove-found.new.self.list ts rows c.refresh_rows.new.rows.items inside.changed c.refresh_rows.new.changed inside.by_id.entries inside.askers.entries inside.next c.self.invariant.0
          are c.refresh_rows.ensures.changed c.refresh_rows.ensures.capacity,
      subst (IsCounted inside.facts) (sym (ap (λ (rs : List JudgedRow). statements_of (map view_of rs)) are ∙ statements-judged (Check c.truth-truth.result) truth c.remove-found.new.self.list ts rows)) c.self.invariant.1,
    )

pub returns-clause-same : goal.returns-clause-same
returns-clause-same g c =
    let truth = g.T.FactTruth.fact_truth c.args.facts.now in
    ap (λ (rs : List JudgedRow). map without_verdict (map view_of rs)) c.refresh_rows.ensures.rows
    ∙ (unjudged-check truth c.remove-found.new.self.list c.truth-truth.result c.askers_of.result.now c.self.inside.rows.items ∙ ap (λ (a : State). map without_verdict a.rows) c.self.view_is)

pub returns-clause-judged : goal.returns-clause-judged
returns-clause-judged g c =
    let truth = g.T.FactTruth.fact_truth c.args.facts.now in
    let inside = c.self.inside in
    let key = c.args.key.now in
    let t = c.truth-truth.result in
    let set = sym c.remove-found.ensures.results in
    let new : State = record { rows = map view_of c.refresh_rows.new.rows.items; checks = c.remove-found.new.self.list; askers = inside.askers.entries; next = inside.next; ready = has_statement_room c.refresh_rows.new.rows.ready (length c.refresh_rows.new.rows.items) (vec_capacity c.refresh_rows.new.changed) (spare inside.by_id) inside.next; result_room = c.remove-found.new.self.ready } in
    subst (λ (a : State). AreJudged a truth → AreJudged new truth) c.self.view_is
    (judged_check truth inside.results.list c.remove-found.new.self.list key t c.truth-truth.ensures
    (λ k e. kept_without key k e inside.results.list ∙ ap (λ (cs : List (CheckKey × Truth)). kept_truth cs k) set)
    inside.rows.items c.refresh_rows.new.rows.items c.askers_of.result.now c.self.invariant.0.noted.rising (c.askers_of.ensures ∙ c.self.invariant.0.asked key) c.self.invariant.0.alone c.refresh_rows.ensures.rows)
