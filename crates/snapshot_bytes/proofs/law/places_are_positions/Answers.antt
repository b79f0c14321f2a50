use Rattle.snapshot_bytes.proofs.StateLemmas.{places_are_positions}
use Rattle.snapshot_bytes.proofs.law.places_are_positions.Goals as goal

pub returns : goal.returns
returns c = places_are_positions
