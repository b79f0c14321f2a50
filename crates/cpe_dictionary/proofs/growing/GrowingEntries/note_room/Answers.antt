use Rattle.std.proofs.Common.{List, IfOk, ap, subst, ◌∙◌}
use Rattle.cpe_dictionary.specs.declared.kept.EntryDetails.{EntryDetails}
use Rattle.cpe_dictionary.specs.Listed.{EntryList}
use Rattle.cpe_dictionary.specs.EntryRoom.{HasNoteRoom}
use Rattle.cpe_dictionary.proofs.growing.GrowingEntries.note_room.Goals as goal

pub returns : goal.returns
returns c =
    subst (λ (ds : List EntryDetails). IfOk c.note_room_at.result (HasNoteRoom ds c.args.place)) (c.deref.ensures.value ∙ ap (λ (l : EntryList). l.details) c.self.view_is)
    c.note_room_at.ensures
