use Rattle.std.proofs.Common.{map, refl, sym, ◌∙◌}
use Rattle.engine_snapshot.specs.Meant.{active_placed}
use Rattle.engine_snapshot.proofs.Taken.{entry_taken}
use Rattle.engine_snapshot.proofs.puts.put_entry.Goals as goal

pub returns-in-Err-clause-refused : goal.returns-in-Err-clause-refused
returns-in-Err-clause-refused g c =
    λ is more fine. c.in-Err.ensures.refused (sym c.discard.ensures ∙ is) (entry_taken c.args.engine.now (active_placed c.args.placed) (map active_placed more) refl fine)
