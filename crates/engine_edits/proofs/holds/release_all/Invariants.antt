use Rattle.std.proofs.Common.{◌++◌, List, drop}
use Rattle.cpe_rows.specs.cpe_name.Eleven.{Values}
use Rattle.cpe_rows.specs.Rows.{Rows}
use Rattle.fact_laws.specs.Shown.{names_at}
use Rattle.verdicts.specs.name_registry.Registered.{AreRegistryNames}
use Rattle.verdicts.specs.Verdicts.{VerdictsNow}
use Rattle.engine_edits.specs.Parts.{AreOf}
use Rattle.engine_edits.proofs.holds.release_all.Given as goal

abbrev pub invariant-loop-id : goal.invariant-loop-id
invariant-loop-id l = record {
  live : AreRegistryNames l.registry.table (drop l.id-index l.ids);
  are : (v : VerdictsNow) (rows : Rows) (others : List Values) → AreOf l.fn.registry v rows (names_at l.fn.registry.table l.ids ++ others) → AreOf l.registry v rows (names_at l.registry.table (drop l.id-index l.ids) ++ others);
}
