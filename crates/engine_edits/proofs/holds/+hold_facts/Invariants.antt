use Rattle.std.proofs.Common.{◌≡◌, ◌+◌, ◌++◌, ℕ, length, take, drop}
use Rattle.std.specs.List.{flat_map}
use Rattle.cpe_rows.specs.FactNames.{fact_names}
use Rattle.cpe_rows.specs.Shape.{depth_of}
use Rattle.fact_laws.specs.Shown.{names_at}
use Rattle.engine_edits.specs.Holding.{AreFewNames, Grows}
use Rattle.engine_edits.proofs.holds.+hold_facts.Given as goal

abbrev pub decreases-hold_facts : goal.decreases-hold_facts
decreases-hold_facts l = depth_of l.test.now

abbrev pub invariant-loop-child : goal.invariant-loop-child
invariant-loop-child l = record {
  grows : Grows l.fn.registry l.registry l.fn.ids.items l.ids.items;
  names : names_at l.registry.table l.ids.items ≡ names_at l.fn.registry.table l.fn.ids.items ++ flat_map fact_names (take l.child-index l.child-items);
  few : (n : ℕ) → AreFewNames l.fn.registry.table (length (flat_map fact_names l.child-items) + n) → AreFewNames l.registry.table (length (flat_map fact_names (drop l.child-index l.child-items)) + n);
}
