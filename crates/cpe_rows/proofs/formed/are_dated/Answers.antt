use Rattle.std.proofs.Common.{All, subst, take_all}
use Rattle.std.proofs.lemmas.List.Elements.{All-more}
use Rattle.cpe_rows.specs.Formed.{IsDated}
use Rattle.cpe_rows.proofs.formed.are_dated.Goals as goal

pub loop-note-preserved : goal.loop-note-preserved
loop-note-preserved c = All-more IsDated c.args.notes.now c.loop-note.note-index c.note-item.result c.loop-note-test.true c.loop-note.invariant (subst IsDated c.note-item.is c.lawful.ensures)

pub returns : goal.returns
returns c = subst (λ ns. All IsDated ns) (take_all c.loop-note.note-index c.args.notes.now c.loop-note-test.false) c.loop-note.invariant
