use Rattle.std.proofs.Common.{◌≡◌, drop}
use Rattle.cpe_rows.specs.cpe_name.Names.{attributes}
use Rattle.cover_lines.specs.Shapes.{widened_from}
use Rattle.cover_lines.proofs.shapes.widen.Given as goal

abbrev pub invariant-loop-which : goal.invariant-loop-which
invariant-loop-which l = widened_from l.shape l.wide (drop l.which-index attributes) ≡ widened_from l.shape l.name attributes
