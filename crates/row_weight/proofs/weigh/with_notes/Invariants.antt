use Rattle.std.proofs.Common.{◌≡◌, ◌+◌, take, map}
use Rattle.cpe_rows.specs.Weight.{total_weight, note_weight}
use Rattle.row_weight.specs.Capped.{capped}
use Rattle.row_weight.proofs.weigh.with_notes.Given as goal

abbrev pub invariant-loop-note : goal.invariant-loop-note
invariant-loop-note l = l.sum ≡ capped (l.weight + total_weight (map note_weight (take l.note-index l.notes)))
