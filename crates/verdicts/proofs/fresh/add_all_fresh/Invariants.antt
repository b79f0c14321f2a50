use Rattle.std.proofs.Common.{◌≡◌, ℕ, drop, false, take}
use Rattle.fact_boards.specs.Kept.{AreFactNames}
use Rattle.facts.specs.fact_rows.Facts.{fact_at, has_end_of_fact}
use Rattle.facts.specs.Facts.{table_of}
use Rattle.verdicts.specs.Addition.{AreAdded, FreshBeside}
use Rattle.verdicts.proofs.fresh.add_all_fresh.Given as goal

abbrev pub invariant-loop-fact : goal.invariant-loop-fact
invariant-loop-fact l = record {
  rest : AreFactNames l.registry.table (drop l.fact-index l.fresh);
  beside : FreshBeside l.initial.facts l.facts l.registry.table l.mode (take l.fact-index l.fresh);
  others : (q : ℕ) → has_end_of_fact (take l.fact-index l.fresh) q ≡ false → fact_at (table_of l.facts l.mode) q ≡ fact_at (table_of l.initial.facts l.mode) q;
  added : AreAdded l.facts l.registry.table l.registry.entries l.mode (take l.fact-index l.fresh);
}
