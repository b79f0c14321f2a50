use Rattle.std.proofs.Common.{ℕ, List, ap, sym, subst, ◌∙◌}
use Rattle.name_index.specs.declared.table.NameId.{NameId}
use Rattle.cpe_rows.specs.declared.statement.Mode.{Mode}
use Rattle.cpe_rows.specs.declared.statement.Statement.{Statement}
use Rattle.facts.specs.Calls.{StatementUsed as FactsAdded}
use Rattle.verdicts.specs.Addition.{IsAddition, StatementAdded}
use Rattle.verdicts.specs.Verdicts.{tickets_in, VerdictsNow}
use Rattle.verdicts.proofs.AdditionLemmas.{added_known, added_verdicts}
use Rattle.verdicts.proofs.verdicts.Verdicts.add_statement.Goals as goal

pub add_statement-requires-2 : goal.add_statement-requires-2
add_statement-requires-2 g c =
    let r = c.requires in
    (r.1, r.2, (subst (λ (w : VerdictsNow). IsAddition w c.args.table.now r.0.entries r.1 r.2 c.args.addition) (sym c.self.view_is) r.5).row)

pub returns : goal.returns
returns g c s ids entries is =
    let table = c.args.table.now in
    let a = c.args.addition in
    let before = c.args.steps.now in
    let now = c.add_statement.new.steps in
    let v : VerdictsNow = record { facts = c.self.inside.facts; statements = c.self.inside.statements } in
    let facts = c.add_statement.new.self in
    let new : VerdictsNow = record { facts = facts; statements = c.add_statement-2.new.self } in
    let i = subst (λ (w : VerdictsNow). IsAddition w table entries s ids a) (sym c.self.view_is) is in
    let by_mode = subst (λ (m : Mode). FactsAdded v.facts facts table m c.ids.result.now c.deref.result.now c.deref-2.result.now c.ticket.result before now) (c.mode.ensures ∙ ap (λ (t : Statement). t.mode) i.row.numbered.0) c.add_statement.ensures in
    let by_ids = subst (λ (ns : List NameId). FactsAdded v.facts facts table s.mode ns c.deref.result.now c.deref-2.result.now c.ticket.result before now) (c.ids.ensures ∙ i.row.numbered.1) by_mode in
    let by_fresh = subst (λ (ns : List NameId). FactsAdded v.facts facts table s.mode ids ns c.deref-2.result.now c.ticket.result before now) c.deref.ensures.value by_ids in
    let by_asked = subst (λ (ns : List NameId). FactsAdded v.facts facts table s.mode ids a.fresh.items ns c.ticket.result before now) c.deref-2.ensures.value by_fresh in
    let added = subst (λ (t : ℕ). FactsAdded v.facts facts table s.mode ids a.fresh.items a.asked.items t before now) c.ticket.ensures by_asked in
    let row = c.add_statement-2.ensures s ids i.row in
    let law = c.same_truths_judge_the_same.ensures in
    let core : StatementAdded v new table entries s a before now = record {
      verdicts = λ rows es h.
          let its = i.new rows es (sym h.statements) in
          added_verdicts law table v new rows s ids a h (added.facts rows (tickets_in v.statements.rows) s h.facts its) i.row.ticket.0 its.live its.named row (added.used h.needed.facts) c.lawful.ensures;
      known = λ rows es h.
          let its = i.new rows es (sym h.statements) in
          added_known law table v new rows s ids a h (added.facts rows (tickets_in v.statements.rows) s h.facts its) i.row.ticket.0 its.live its.named row (added.used h.needed.facts) c.lawful.ensures c.verdicts_are_truths.ensures;
      steps = λ rows es h. added.steps rows (tickets_in v.statements.rows) s h.facts (i.new rows es (sym h.statements));
    } in
    subst (λ (w : VerdictsNow). StatementAdded w new table entries s a before now) c.self.view_is core
