use Rattle.std.proofs.Common.{List, subst}
use Rattle.cpe_rows.specs.declared.statement.Mode.TheVariants.{Follow}
use Rattle.name_index.specs.declared.table.NameId.{NameId}
use Rattle.fact_rows.specs.Calls.{Refreshed}
use Rattle.fact_rows.specs.Facts.{has_end_of_fact}
use Rattle.facts.proofs.LeadLemmas.{led_changes, led_next, led_users}
use Rattle.facts.proofs.lead.lead_fact.Goals as goal

pub returns-clause-facts : goal.returns-clause-facts
returns-clause-facts c names next tickets passes rest are answers a =
    let l = c.set_ends.ensures in
    let mid = c.set_ends.new.self in
    let new = c.refresh_facts.new.self in
    led_next names are c.args.board.now answers next tickets passes c.args.led rest c.args.facts.now mid new a l.here l.stay l.links l.others l.linked
    (subst (λ (fs : List NameId). Refreshed mid new (has_end_of_fact fs) Follow c.args.board.now) c.from_ref.ensures.value c.refresh_facts.ensures)

pub returns-clause-same : goal.returns-clause-same
returns-clause-same c =
    let l = c.set_ends.ensures in
    led_users c.args.led c.args.facts.now c.set_ends.new.self c.refresh_facts.new.self l.here l.stay c.refresh_facts.ensures.same

pub returns-clause-changes : goal.returns-clause-changes
returns-clause-changes c names next tickets passes rest are answers a =
    let l = c.set_ends.ensures in
    let mid = c.set_ends.new.self in
    let new = c.refresh_facts.new.self in
    led_changes names are c.args.board.now answers next tickets passes c.args.led rest c.args.facts.now mid new a l.here l.stay l.links l.others l.linked
    (subst (λ (fs : List NameId). Refreshed mid new (has_end_of_fact fs) Follow c.args.board.now) c.from_ref.ensures.value c.refresh_facts.ensures) l.changed
