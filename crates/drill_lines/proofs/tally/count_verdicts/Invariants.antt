use Rattle.std.proofs.Common.{◌≡◌, map, take}
use Rattle.cpe_rows.specs.Verdict.{verdict}
use Rattle.drill_lines.specs.Summary.{tally_of}
use Rattle.drill_lines.proofs.tally.count_verdicts.Given as goal

abbrev pub invariant-loop-place : goal.invariant-loop-place
invariant-loop-place l = l.so_far ≡ tally_of (map (verdict l.engine) (take l.place l.engine.statements))
