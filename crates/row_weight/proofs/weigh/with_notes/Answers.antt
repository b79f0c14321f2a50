use Rattle.cpe_rows.specs.Weight.{note_weight}
use Rattle.row_weight.proofs.Sums.{one_more}
use Rattle.row_weight.proofs.weigh.with_notes.Goals as goal

pub loop-note-preserved : goal.loop-note-preserved
loop-note-preserved c =
    one_more note_weight c.args.notes.now c.loop-note.note-index c.note-item.result c.loop-note-test.true c.note-item.is
    c.args.weight c.loop-note.invariant c.with_note-sum.ensures
