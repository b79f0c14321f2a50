use Rattle.std.proofs.Common.{◌+◌, ap, drop, get_or, map, subst, sym, ◌∙◌, ◌++◌, ◌∷◌, []}
use Rattle.std.specs.List.{AllByRecursion}
use Rattle.std.proofs.lemmas.List.{map-append, take_more}
use Rattle.name_index.specs.declared.table.NameId.{NameId}
use Rattle.name_index.specs.Index.{name_id}
use Rattle.fact_boards.proofs.Steps.{first_live, first_there}
use Rattle.facts.specs.declared.lead.Led.{Led}
use Rattle.verdicts.specs.Leads.{IsLinkedAhead}
use Rattle.verdicts.proofs.NumberLemmas.{all_both}
use Rattle.verdicts.proofs.LeadLemmas.{links_again, no_links, planned_still}
use Rattle.verdicts.proofs.ends.link_all.Goals as goal

pub loop-id-init : goal.loop-id-init
loop-id-init c = record { rest = c.requires.live; more = no_links c.args.facts.now; facts = ap (map (λ (y : Led). y.fact)) c.new-all.ensures.items; planned = subst (AllByRecursion (IsLinkedAhead c.args.registry.now.table c.args.registry.now.entries c.args.plan.now c.args.facts.now.follow)) (sym c.new-all.ensures.items) tt }

pub loop-id-preserved : goal.loop-id-preserved
loop-id-preserved c =
    let table = c.args.registry.now.table in
    let entries = c.args.registry.now.entries in
    let plan = c.args.plan.now in
    let ids = c.args.ids.now in
    let i = c.loop-id.id-index in
    let x : NameId = get_or ids i (name_id 0) in
    let all = c.loop-id.all.items in
    let led = c.in_ok-led.led in
    let is = c.in_ok-push.ensures.items in
    let new = c.link_one.new.facts in
    record {
      rest = (first_live table x (drop (i + 1) ids) (drop i ids) (first_there ids i (name_id 0) c.loop-id-test.true) c.loop-id.invariant.rest).1;
      more = links_again c.args.facts.now c.loop-id.facts new c.loop-id.invariant.more c.link_one.ensures.more;
      facts =
          ap (map (λ (y : Led). y.fact)) is
          ∙ map-append (λ (y : Led). y.fact) all (led ∷ [])
          ∙ (λ j. c.loop-id.invariant.facts j ++ c.in_ok-led.ensures.fact j ∷ [])
          ∙ sym (take_more ids i (name_id 0) c.loop-id-test.true);
      planned = subst (AllByRecursion (IsLinkedAhead table entries plan new.follow)) (sym is) (all_both (IsLinkedAhead table entries plan new.follow) all (led ∷ []) (planned_still table entries plan c.loop-id.facts new c.link_one.ensures.more all c.loop-id.invariant.planned) (c.in_ok-led.ensures.planned, tt));
    }
