use Rattle.std.proofs.Common.{◌≡◌, ◌∷◌, [], length, rules, subst}
use Rattle.std.proofs.lemmas.List.{nil_from_length}
use Rattle.name_index.specs.Table.{kept_at}
use Rattle.cpe_rows.specs.Verdict.{fact_truth}
use Rattle.cpe_rows.specs.declared.statement.Mode.TheVariants.{Follow}
use Rattle.facts.specs.Leads.{AreLedBut}
use Rattle.facts.proofs.ChangeLemmas.{changes_again, changes_none, users_again, users_none}
use Rattle.facts.proofs.lead.lead_facts.Goals as goal

pub loop-led-init : goal.loop-led-init
loop-led-init c =
    let is : c.args.all.items ≡ c.into_iter-led-iterator.result.rest.items = search rules in
    record {
      facts = λ names next tickets passes are answers a. subst (AreLedBut names c.args.board.now c.args.facts.now next tickets passes) is a;
      same = users_none c.args.facts.now;
      changes = λ names next tickets passes are answers a. changes_none c.args.facts.now (λ q. fact_truth next Follow (kept_at names q).name);
    }

pub loop-led-preserved : goal.loop-led-preserved
loop-led-preserved c =
    let split : c.loop-led.led-iterator.rest.items ≡ c.in-Some.led ∷ c.next.new.self.rest.items = search rules in
    let i = c.loop-led.invariant in
    record {
      facts = λ names next tickets passes are answers a. c.lead_fact.ensures.facts names next tickets passes c.next.new.self.rest.items are answers
          (subst (AreLedBut names c.args.board.now c.loop-led.facts next tickets passes) split (i.facts names next tickets passes are answers a));
      same = users_again c.args.facts.now c.loop-led.facts c.lead_fact.new.facts i.same c.lead_fact.ensures.same;
      changes = λ names next tickets passes are answers a. changes_again c.args.facts.now c.loop-led.facts c.lead_fact.new.facts (λ q. fact_truth next Follow (kept_at names q).name) (i.changes names next tickets passes are answers a)
          (c.lead_fact.ensures.changes names next tickets passes c.next.new.self.rest.items are answers
          (subst (AreLedBut names c.args.board.now c.loop-led.facts next tickets passes) split (i.facts names next tickets passes are answers a))) c.lead_fact.ensures.same;
    }

pub returns-clause-facts : goal.returns-clause-facts
returns-clause-facts c names next tickets passes are answers a =
    let zero : length c.loop-led.led-iterator.rest.items ≡ 0 = search rules in
    let none : c.loop-led.led-iterator.rest.items ≡ [] = nil_from_length c.loop-led.led-iterator.rest.items zero in
    subst (AreLedBut names c.args.board.now c.loop-led.facts next tickets passes) none (c.loop-led.invariant.facts names next tickets passes are answers a)
