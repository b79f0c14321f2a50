use Rattle.std.proofs.Common.{◌≡◌, ◌++◌, None, replicate}
use Rattle.engine_snapshot.proofs.runs.push_none.Given as goal

abbrev pub invariant-loop : goal.invariant-loop
invariant-loop l = l.all ≡ l.fn.all ++ replicate l.counter None
