use Rattle.std.proofs.Common.{take}
use Rattle.std.specs.Prelude.{All}
use Rattle.cpe_rows.specs.Formed.{IsDated}
use Rattle.cpe_rows.proofs.formed.are_dated.Given as goal

abbrev pub invariant-loop-note : goal.invariant-loop-note
invariant-loop-note l = All IsDated (take l.note-index l.notes)
