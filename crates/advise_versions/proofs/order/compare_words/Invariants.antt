use Rattle.std.proofs.Common.{◌≡◌, length}
use Rattle.std.specs.Ordering.{nat_cmp}
use Rattle.std.specs.Cmp.Lexicographic.{slice_cmp}
use Rattle.std.specs.Str.{str_to_ascii_lowercase}
use Rattle.advise_versions.proofs.order.compare_words.Given as goal

abbrev pub invariant-loop-left : goal.invariant-loop-left
invariant-loop-left l =
    slice_cmp nat_cmp (str_to_ascii_lowercase l.left) (str_to_ascii_lowercase l.right) ≡ slice_cmp nat_cmp (str_to_ascii_lowercase l.word) (str_to_ascii_lowercase l.other)

abbrev pub decreases-loop-left : goal.decreases-loop-left
decreases-loop-left l = length l.left
