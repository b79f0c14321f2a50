use Rattle.std.proofs.Common.{◌≡◌, drop, take}
use Rattle.std.specs.List.{flat_map}
use Rattle.facts.specs.fact_laws.Shown.{names_at}
use Rattle.name_registry.specs.Registered.{items_leading}
use Rattle.fact_boards.specs.Kept.{AreFactNames}
use Rattle.verdicts.proofs.items.items_to_ends.Given as goal

abbrev pub invariant-loop-end : goal.invariant-loop-end
invariant-loop-end l = record {
  rest : AreFactNames l.registry.table (drop l.end-index l.ends);
  live : AreFactNames l.registry.table l.all.items;
  names : names_at l.registry.table l.all.items ≡ flat_map (items_leading l.registry.entries l.registry.items) (names_at l.registry.table (take l.end-index l.ends));
}
