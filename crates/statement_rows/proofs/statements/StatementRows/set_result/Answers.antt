use Rattle.std.proofs.Common.{List, length, map, sym, ap, subst, ◌∙◌, vec_capacity}
use Rattle.std.specs.HashMap.{spare}
use Rattle.check_results.specs.Kept.{IsCounted, kept_truth}
use Rattle.cpe_rows.specs.After.{with_check}
use Rattle.cpe_rows.specs.declared.test.CheckKey.{CheckKey}
use Rattle.cpe_rows.specs.declared.truth.Truth.{Truth}
use Rattle.statement_rows.specs.declared.row.Cause.TheVariants.{Check}
use Rattle.statement_rows.specs.declared.row.JudgedRow.{JudgedRow}
use Rattle.statement_rows.specs.Rows.{asks, statement_tickets}
use Rattle.statement_rows.specs.State.{AreJudged, IsReadyTruth, State, has_statement_room, statements_of, view_of, without_verdict}
use Rattle.statement_rows.proofs.CheckLemmas.{judged_check, kept_here, kept_with, unjudged-check}
use Rattle.statement_rows.proofs.StateLemmas.{AreRows-judged, statements-judged}
use Rattle.statement_rows.proofs.statements.StatementRows.set_result.Goals as goal

pub set-requires : goal.set-requires
set-requires g c =
    let r = c.requires in
    (r.0, subst (λ (a : State). IsReadyTruth a r.0 c.args.ready) (sym c.self.view_is) r.1)

pub invariant_of-self : goal.invariant_of-self
invariant_of-self g c =
    let truth = g.T.FactTruth.fact_truth c.args.facts.now in
    let inside = c.self.inside in
    let ts = c.askers_of-list.result.now in
    let rows = inside.rows.items in
    let are = c.refresh_rows.ensures.rows in (
      AreRows-judged (Check c.args.truth) truth c.set.new.self.list ts rows c.refresh_rows.new.rows.items inside.changed c.refresh_rows.new.changed inside.by_id.entries inside.askers.entries inside.next c.self.invariant.0
          are c.refresh_rows.ensures.changed c.refresh_rows.ensures.capacity,
      subst (IsCounted inside.facts) (sym (ap (λ (rs : List JudgedRow). statements_of (map view_of rs)) are ∙ statements-judged (Check c.args.truth) truth c.set.new.self.list ts rows)) c.self.invariant.1,
    )

pub returns-clause-checks : goal.returns-clause-checks
returns-clause-checks g c k is =
    let t = c.args.truth in
    c.set.ensures k (subst (λ (a : State). IsReadyTruth a k c.args.ready) (sym c.self.view_is) is) ∙ ap (λ (a : State). with_check k t a.checks) c.self.view_is

pub returns-clause-same : goal.returns-clause-same
returns-clause-same g c =
    let truth = g.T.FactTruth.fact_truth c.args.facts.now in
    ap (λ (rs : List JudgedRow). map without_verdict (map view_of rs)) c.refresh_rows.ensures.rows
    ∙ (unjudged-check truth c.set.new.self.list c.args.truth c.askers_of-list.result.now c.self.inside.rows.items ∙ ap (λ (a : State). map without_verdict a.rows) c.self.view_is)

pub returns-clause-judged : goal.returns-clause-judged
returns-clause-judged g c =
    let truth = g.T.FactTruth.fact_truth c.args.facts.now in
    let inside = c.self.inside in
    let key = c.requires.0 in
    let is = subst (λ (a : State). IsReadyTruth a key c.args.ready) (sym c.self.view_is) c.requires.1 in
    let t = c.args.truth in
    let set = sym (c.set.ensures key is) in
    let asked = c.askers_of-list.ensures ∙ (c.self.invariant.0.asked c.key.result.now ∙ ap (λ (k : CheckKey). statement_tickets (asks k) inside.rows.items) (c.key.ensures ∙ is.key)) in
    let new : State = record { rows = map view_of c.refresh_rows.new.rows.items; checks = c.set.new.self.list; askers = inside.askers.entries; next = inside.next; ready = has_statement_room c.refresh_rows.new.rows.ready (length c.refresh_rows.new.rows.items) (vec_capacity c.refresh_rows.new.changed) (spare inside.by_id) inside.next; result_room = c.set.new.self.ready } in
    subst (λ (a : State). AreJudged a truth → AreJudged new truth) c.self.view_is
    (judged_check truth inside.results.list c.set.new.self.list key t (kept_here key t inside.results.list ∙ ap (λ (cs : List (CheckKey × Truth)). kept_truth cs key) set)
    (λ k e. kept_with key k e t inside.results.list ∙ ap (λ (cs : List (CheckKey × Truth)). kept_truth cs k) set)
    inside.rows.items c.refresh_rows.new.rows.items c.askers_of-list.result.now c.self.invariant.0.noted.rising asked c.self.invariant.0.alone c.refresh_rows.ensures.rows)
