use Rattle.std.proofs.Common.{◌∙◌, arith}
use Rattle.std.proofs.KnownBytes.{Consumes-trans}
use Rattle.line_session.proofs.Hearing.{Hears-piece, Reads-memory, taken_no_fault}
use Rattle.line_session.proofs.whole.read_pieces.Goals as goal

-- memory ran out while a piece was kept
pub returns-in-Err-clause-reads : goal.returns-in-Err-clause-reads
returns-in-Err-clause-reads g c =
    let hears = c.loop-input.invariant.hears in
    Reads-memory _ (Consumes-trans _ _ _ hears.bytes _ hears.took c.in_ok-count.ensures.took)

-- one more piece was taken and kept
pub loop-input-preserved : goal.loop-input-preserved
loop-input-preserved g c =
    let count = c.in_ok-count.count in
    let piece = c.read_piece.new.piece in
    record {
      hears = Hears-piece c.loop-input.invariant.hears piece count c.in-Ok.input c.in_ok-count.ensures.took c.in_ok-count.ensures.within c.in_ok-count.ensures.budget
          c.in-Ok.ensures;
      room = omega arith;
      still = c.in_ok-count.ensures.still (taken_no_fault count _) ∙ c.loop-input.invariant.still;
    }
