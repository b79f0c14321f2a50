use Rattle.std.proofs.Common.{◌≡◌, length}
use Rattle.name_grammar.specs.Scanners.{up_to}
use Rattle.cpe_values.specs.Scanning.{is_mark, marks_end}
use Rattle.cpe_values.proofs.scan.scan_marks.Given as goal

abbrev pub invariant-loop-rest : goal.invariant-loop-rest
invariant-loop-rest l = up_to l.more is_mark l.rest ≡ marks_end l.bytes

abbrev pub decreases-loop-rest : goal.decreases-loop-rest
decreases-loop-rest l = length l.rest
