use Rattle.std.proofs.Common.{List, sym, ap, subst, ◌∙◌}
use Rattle.cpe_rows.specs.cpe_name.Eleven.{Values}
use Rattle.name_index.specs.declared.table.NameId.{NameId}
use Rattle.cpe_rows.specs.After.{after}
use Rattle.cpe_rows.specs.Rows.{Rows}
use Rattle.facts.specs.LeadCalls.{AreReadyEnds, IsLead}
use Rattle.verdicts.specs.Leads.{HasLead, IsReadyLead}
use Rattle.verdicts.specs.Verdicts.{checks_in, HasVerdicts, known_in, statements_in, tickets_in, VerdictsNow}
use Rattle.verdicts.proofs.JudgeLemmas.{refreshed, same_statements, users_of_all}
use Rattle.verdicts.proofs.LeadLemmas.{lent_lists}
use Rattle.verdicts.proofs.verdicts.Verdicts.lead.Goals as goal

pub lead-requires : goal.lead-requires
lead-requires g c =
    let table = c.args.table.now in
    let lead = c.args.lead in
    let rows = c.requires.0 in
    let e = c.requires.1 in
    let n : Values = c.requires.2 in
    let facts = c.self.inside.facts in
    let h = subst (λ (w : VerdictsNow). HasVerdicts table w rows) (sym c.self.view_is) c.requires.5 in
    let r = subst (λ (w : VerdictsNow). IsReadyLead w table rows (after rows e).entries n lead) (sym c.self.view_is) c.requires.6 in
    record {
      ready = lent_lists (AreReadyEnds facts table) lead.items_from.items lead.items_to.items lead.facts_from.items lead.facts_to.items c.deref.result.now c.deref-2.result.now c.deref-3.result.now c.deref-4.result.now
          c.deref.ensures.value c.deref-2.ensures.value c.deref-3.ensures.value c.deref-4.ensures.value r.ready;
      rows_before = (
        rows,
        tickets_in c.self.inside.statements.rows,
        e,
        n,
        c.requires.3,
        c.requires.4,
        h.facts,
        lent_lists (λ (a b x y : List NameId). IsLead facts table rows (after rows e).entries n a b x y lead.facts.items) lead.items_from.items lead.items_to.items lead.facts_from.items lead.facts_to.items c.deref.result.now c.deref-2.result.now c.deref-3.result.now c.deref-4.result.now
            c.deref.ensures.value c.deref-2.ensures.value c.deref-3.ensures.value c.deref-4.ensures.value r.lists,
      );
    }

pub returns-clause-verdicts : goal.returns-clause-verdicts
returns-clause-verdicts g c rows e n touches rows_before led =
    let v : VerdictsNow = record { facts = c.self.inside.facts; statements = c.self.inside.statements } in
    let table = c.args.table.now in
    let lead = c.args.lead in
    let h = subst (λ (w : VerdictsNow). HasVerdicts table w rows) (sym c.self.view_is) rows_before in
    let next : Rows = after rows e in
    let l = lent_lists (λ (a b x y : List NameId). IsLead v.facts table rows next.entries n a b x y lead.facts.items) lead.items_from.items lead.items_to.items lead.facts_from.items lead.facts_to.items c.deref.result.now c.deref-2.result.now c.deref-3.result.now c.deref-4.result.now
    c.deref.ensures.value c.deref-2.ensures.value c.deref-3.ensures.value c.deref-4.ensures.value (subst (λ (w : VerdictsNow). HasLead w table rows next.entries n lead) (sym c.self.view_is) led) in
    let new = c.lead.new.self in
    let moved = c.lead.ensures in
    let tickets = tickets_in v.statements.rows in
    let touch = c.deprecations_touch.ensures in
    refreshed c.same_truths_judge_the_same.ensures c.refreshes_judge.ensures table v new c.refresh.new.statements rows next h (moved.facts rows tickets e n touches h.facts l) (moved.used h.needed.facts) c.lawful.ensures c.refresh.ensures.room.askers
    (touch.statements rows e n touches) (touch.checks rows e n touches) (moved.changed rows tickets e n touches h.facts l) c.refresh.ensures.rows c.refresh.ensures.checks

pub returns-clause-same : goal.returns-clause-same
returns-clause-same g c =
    let v : VerdictsNow = record { facts = c.self.inside.facts; statements = c.self.inside.statements } in
    let same = same_statements v c.lead.new.self c.refresh.new.statements (users_of_all c.lead.new.self) c.refresh.ensures.rows in
    record { statements = same.0 ∙ ap statements_in c.self.view_is; checks = c.refresh.ensures.checks ∙ ap checks_in c.self.view_is; known = same.1 ∙ ap known_in c.self.view_is }

pub returns-clause-steps : goal.returns-clause-steps
returns-clause-steps g c rows e n touches rows_before led =
    let table = c.args.table.now in
    let lead = c.args.lead in
    let h = subst (λ (w : VerdictsNow). HasVerdicts table w rows) (sym c.self.view_is) rows_before in
    let l = lent_lists (λ (a b x y : List NameId). IsLead c.self.inside.facts table rows (after rows e).entries n a b x y lead.facts.items) lead.items_from.items lead.items_to.items lead.facts_from.items lead.facts_to.items c.deref.result.now c.deref-2.result.now c.deref-3.result.now c.deref-4.result.now
    c.deref.ensures.value c.deref-2.ensures.value c.deref-3.ensures.value c.deref-4.ensures.value (subst (λ (w : VerdictsNow). HasLead w table rows (after rows e).entries n lead) (sym c.self.view_is) led) in
    c.lead.ensures.steps rows (tickets_in c.self.inside.statements.rows) e n touches h.facts l
