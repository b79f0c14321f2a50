use Rattle.std.proofs.Common.{◌≡◌, length, reverse, nat_cmp}
use Rattle.std.specs.Cmp.Lexicographic.{slice_cmp}
use Rattle.name_index.proofs.keys.compare_from_back.Given as goal

abbrev pub invariant-loop-left : goal.invariant-loop-left
invariant-loop-left l = slice_cmp nat_cmp (reverse l.left) (reverse l.right) ≡ slice_cmp nat_cmp (reverse l.body) (reverse l.other)

abbrev pub decreases-loop-left : goal.decreases-loop-left
decreases-loop-left l = length l.left
