use Rattle.std.proofs.Common.{take}
use Rattle.std.specs.List.{AllByRecursion}
use Rattle.cpe_rows.specs.declared.entry.Note.{Note}
use Rattle.snapshot_bytes.specs.States.{IsString}
use Rattle.engine_snapshot.proofs.texts.are_comments.Given as goal

abbrev pub invariant-loop-note : goal.invariant-loop-note
invariant-loop-note l = AllByRecursion (λ (n : Note). IsString n.comment) (take l.note-index l.notes)
