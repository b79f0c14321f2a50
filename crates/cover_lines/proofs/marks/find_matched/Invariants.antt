use Rattle.std.proofs.Common.{take}
use Rattle.std.specs.List.{sum_by}
use Rattle.name_index.specs.step_count.Within.{StepsWithin}
use Rattle.cover_lines.specs.Marks.{AreCoverMarks}
use Rattle.cover_lines.specs.Names.{pattern_looks}
use Rattle.cover_lines.proofs.marks.find_matched.Given as goal

abbrev pub invariant-loop-place : goal.invariant-loop-place
invariant-loop-place g l = record {
  marks : AreCoverMarks (take l.place l.names) l.names l.marks.items;
  looked : StepsWithin l.fn.steps l.steps (sum_by (pattern_looks l.names) (take l.place l.names));
}
