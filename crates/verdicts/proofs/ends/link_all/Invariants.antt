use Rattle.std.proofs.Common.{◌≡◌, drop, map, take}
use Rattle.std.specs.List.{AllByRecursion}
use Rattle.fact_boards.specs.Kept.{AreFactNames}
use Rattle.verdicts.specs.Leads.{IsLinkedAhead, MoreLinks}
use Rattle.verdicts.proofs.ends.link_all.Given as goal

abbrev pub invariant-loop-id : goal.invariant-loop-id
invariant-loop-id l = record {
  rest : AreFactNames l.registry.table (drop l.id-index l.ids);
  more : MoreLinks l.fn.facts l.facts;
  facts : map (λ x. x.fact) l.all.items ≡ take l.id-index l.ids;
  planned : AllByRecursion (IsLinkedAhead l.registry.table l.registry.entries l.plan l.facts.follow) l.all.items;
}
