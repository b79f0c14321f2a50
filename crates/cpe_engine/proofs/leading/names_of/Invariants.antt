use Rattle.std.proofs.Common.{◌≡◌, map, take}
use Rattle.std.specs.Borrow.{Bor}
use Rattle.cpe_rows.specs.cpe_name.Eleven.{Values}
use Rattle.engine_edits.specs.fact_laws.Shown.{names_at}
use Rattle.cpe_engine.proofs.leading.names_of.Given as goal

abbrev pub invariant-loop-id : goal.invariant-loop-id
invariant-loop-id l = map (λ (n : Bor Values). n.now) l.names.items ≡ names_at l.registry.table (take l.id-index l.ids)
