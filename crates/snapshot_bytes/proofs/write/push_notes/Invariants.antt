use Rattle.std.proofs.Common.{◌≡◌, ◌++◌, length, take}
use Rattle.std.specs.List.{flat_map}
use Rattle.snapshot_bytes.specs.Parts.{number}
use Rattle.snapshot_bytes.specs.Snapshot.{note_row}
use Rattle.snapshot_bytes.proofs.write.push_notes.Given as goal

abbrev pub invariant-loop-note : goal.invariant-loop-note
invariant-loop-note l = l.out.items ≡ l.fn.bytes.items ++ (number (length l.notes) ++ flat_map note_row (take l.note-index l.notes))
