use Rattle.std.proofs.Common.{◌≡◌, ℕ, ◌<◌, false, eqb, get_or}
use Rattle.deprecation_graph.proofs.fit.are_different.Given as goal

abbrev pub invariant-loop-place : goal.invariant-loop-place
invariant-loop-place l = (i j d : ℕ) → i < j → j < l.place → eqb (get_or l.next i d) (get_or l.next j d) ≡ false
