use Rattle.std.proofs.Common.{drop, map, take}
use Rattle.std.specs.Borrow.{Bor}
use Rattle.std.specs.List.{AllByRecursion}
use Rattle.cpe_rows.specs.cpe_name.Eleven.{Values}
use Rattle.cpe_rows.specs.cpe_name.Lower.{IsLower}
use Rattle.cpe_rows.specs.Rows.{Rows}
use Rattle.engine_edits.specs.fact_laws.Shown.{names_at}
use Rattle.verdicts.specs.name_registry.Registered.{AreRegistryNames}
use Rattle.verdicts.specs.Rows.{AreOfRows}
use Rattle.cpe_engine.specs.Shown.{AreShown}
use Rattle.cpe_engine.proofs.leading.all_shown.Given as goal

abbrev pub invariant-loop-name : goal.invariant-loop-name
invariant-loop-name l = record {
  rest : AllByRecursion IsLower (map (λ (n : Bor Values). n.now) (drop l.name-index l.names));
  live : AreRegistryNames l.registry.table l.all.items;
  items : (rows : Rows) → AreOfRows l.registry l.verdicts rows → AreShown rows l.mode l.relates (map (λ (n : Bor Values). n.now) (take l.name-index l.names)) (names_at l.registry.table l.all.items);
}
