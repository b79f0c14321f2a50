use Rattle.std.proofs.Common.{◌≡◌, ◌+◌, ◌++◌, length}
use Rattle.name_index.specs.Places.{flat, AreFilled}
use Rattle.name_index.proofs.piece.BlockPieceIterator.next.Given as goal

abbrev pub invariant-loop-block : goal.invariant-loop-block
invariant-loop-block l = record {
  left : l.fn.self ≡ l.self-inside.here.now ++ (flat l.self-inside.whole.now ++ l.self-inside.last.now);
  filled : AreFilled l.self-inside.whole.now;
}

abbrev pub decreases-loop-block : goal.decreases-loop-block
decreases-loop-block l = length l.self-inside.whole.now + length l.self-inside.last.now
