-- The greatest length of a snapshot.
use Rattle.std.specs.Prelude.{◌≤◌, ℕ, List, length}
use Rattle.cpe_rows.specs.Lawful.{IsLawful}
use Rattle.cpe_rows.specs.Rows.{Rows}
use Rattle.snapshot_bytes.specs.States.{most_bytes, Snap}

-- no snapshot of lawful rows is longer, so a reader may refuse longer bytes at once
abbrev pub SnapsAreWithin : Type 0
SnapsAreWithin = (rows : Rows) (bytes : List ℕ) → IsLawful rows → Snap rows bytes → length bytes ≤ most_bytes
