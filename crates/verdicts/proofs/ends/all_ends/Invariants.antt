use Rattle.std.proofs.Common.{◌≡◌, drop, take}
use Rattle.std.specs.List.{flat_map}
use Rattle.cpe_rows.specs.Chains.{ends}
use Rattle.facts.specs.fact_laws.Shown.{names_at}
use Rattle.fact_boards.specs.Kept.{AreFactNames}
use Rattle.verdicts.proofs.ends.all_ends.Given as goal

abbrev pub invariant-loop-name : goal.invariant-loop-name
invariant-loop-name l = record {
  rest : AreFactNames l.registry.table (drop l.name-index l.names);
  live : AreFactNames l.registry.table l.all.items;
  names : names_at l.registry.table l.all.items ≡ flat_map (ends l.registry.entries) (names_at l.registry.table (take l.name-index l.names));
}
