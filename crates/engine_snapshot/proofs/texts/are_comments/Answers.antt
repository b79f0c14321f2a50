use Rattle.std.proofs.Common.{List, subst, take_all}
use Rattle.std.specs.List.{AllByRecursion}
use Rattle.cpe_rows.specs.declared.entry.Note.{Note}
use Rattle.snapshot_bytes.specs.States.{IsString}
use Rattle.engine_snapshot.proofs.WriteLemmas.{holds_next}
use Rattle.engine_snapshot.proofs.texts.are_comments.Goals as goal

abbrev Said : Note → Type 0
Said n = IsString n.comment

pub loop-note-preserved : goal.loop-note-preserved
loop-note-preserved c =
    holds_next Said c.args.notes.now c.loop-note.note-index c.note-item.result c.loop-note-test.true c.loop-note.invariant (subst Said c.note-item.is c.is_text.ensures)

pub returns : goal.returns
returns c = subst (λ (ns : List Note). AllByRecursion Said ns) (take_all c.loop-note.note-index c.args.notes.now c.loop-note-test.false) c.loop-note.invariant
