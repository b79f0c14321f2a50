use Rattle.std.proofs.Common.{◌≡◌, not, take}
use Rattle.std.specs.List.{filter}
use Rattle.cover_lines.specs.Cover.{is_covered_by_some}
use Rattle.cover_lines.proofs.rows.find_uncovered.Given as goal

abbrev pub invariant-loop-place : goal.invariant-loop-place
invariant-loop-place l = l.rows.items ≡ filter (λ n. not (is_covered_by_some l.names n)) (take l.place l.names)
