use Rattle.std.proofs.Common.{◌≡◌, Some, drop, take}
use Rattle.std.specs.List.{flat_map}
use Rattle.cpe_dictionary.specs.Plans.{ends_by}
use Rattle.facts.specs.fact_laws.Shown.{names_at}
use Rattle.fact_boards.specs.Kept.{AreFactNames}
use Rattle.verdicts.proofs.ends.all_ends_after.Given as goal

abbrev pub invariant-loop-name : goal.invariant-loop-name
invariant-loop-name l = record {
  rest : AreFactNames l.registry.table (drop l.name-index l.names);
  live : AreFactNames l.registry.table l.all.items;
  names : names_at l.registry.table l.all.items ≡ flat_map (ends_by l.registry.entries (Some l.plan)) (names_at l.registry.table (take l.name-index l.names));
}
