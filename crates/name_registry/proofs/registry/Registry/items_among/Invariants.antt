use Rattle.std.proofs.Common.{◌≡◌, drop, filter, take}
use Rattle.std.specs.List.{list_any}
use Rattle.cpe_rows.specs.Names.{is_same}
use Rattle.fact_laws.specs.Shown.{names_at}
use Rattle.name_registry.specs.Registered.{AreRegistryNames}
use Rattle.name_registry.proofs.registry.Registry.items_among.Given as goal

abbrev pub invariant-loop-id : goal.invariant-loop-id
invariant-loop-id l = record {
  rest : AreRegistryNames l.self.table (drop l.id-index l.ids);
  live : AreRegistryNames l.self.table l.items.items;
  names : names_at l.self.table l.items.items ≡ filter (λ s. list_any (is_same s) l.self.items) (names_at l.self.table (take l.id-index l.ids));
}
