use Rattle.std.proofs.Common.{◌≡◌, ◌-◌, ◌<◌, ◌^◌, length}
use Rattle.line_session.proofs.Hearing.{Hears}
use Rattle.line_session.proofs.whole.read_pieces.Given as goal

abbrev pub invariant-loop-input : goal.invariant-loop-input
invariant-loop-input g l = record {
  hears : Hears (g.S.Source.left l.fn.source) (g.S.Source.left l.source) l.most l.taken l.input;
  room : 0 < length l.piece;
  still : g.S.Source.faults l.source ≡ g.S.Source.faults l.fn.source;
}

abbrev pub decreases-loop-input : goal.decreases-loop-input
decreases-loop-input g l = 2 ^ 40 - l.taken
