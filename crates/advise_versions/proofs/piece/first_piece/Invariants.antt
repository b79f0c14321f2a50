use Rattle.std.proofs.Common.{◌≡◌, ◌≤◌, length}
use Rattle.advise_versions.specs.Pieces.{version_pieces}
use Rattle.advise_versions.proofs.piece.first_piece.Given as goal

abbrev pub invariant-loop-rest : goal.invariant-loop-rest
invariant-loop-rest l = (version_pieces l.rest ≡ version_pieces l.text) × (length l.rest ≤ length l.text)

abbrev pub decreases-loop-rest : goal.decreases-loop-rest
decreases-loop-rest l = length l.rest
