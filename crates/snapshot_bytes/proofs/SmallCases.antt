-- Lemmas: the snapshots of the small examples, by computation.
use Rattle.std.proofs.Common.{◌≡◌, refl}
use Rattle.cpe_rows.specs.Names.{is_same}
use Rattle.snapshot_bytes.specs.States.{snapshot}
use Rattle.snapshot_bytes.specs.Cases.{three_rows, three_rows_bytes}

pub small_rows : snapshot three_rows ≡ three_rows_bytes
unfolding is_same
small_rows = refl
