use Rattle.std.proofs.Common.{map, take}
use Rattle.engine_snapshot.specs.Meant.{AreMeantDeprecations, undeprecated}
use Rattle.engine_snapshot.proofs.meant.deprecations_of.Given as goal

abbrev pub invariant-loop-placed : goal.invariant-loop-placed
invariant-loop-placed l = AreMeantDeprecations (map undeprecated l.engine.entries) (take l.placed-index l.all) l.deprecations
