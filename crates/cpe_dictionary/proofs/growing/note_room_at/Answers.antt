use Rattle.std.proofs.Common.{◌≤◌, ◌+◌, length, subst, ◌∙◌}
use Rattle.std.proofs.lemmas.Option.{none-some, same_Some}
use Rattle.std.proofs.lemmas.Result.{IfOk-weaker}
use Rattle.cpe_dictionary.specs.declared.kept.EntryDetails.{EntryDetails}
use Rattle.cpe_dictionary.specs.EntryRoom.{HasNoteRoom}
use Rattle.cpe_dictionary.proofs.growing.note_room_at.Goals as goal

pub returns-in-Some : goal.returns-in-Some
returns-in-Some c =
    let all = c.args.all.now in
    let details = c.in-Some.details.now in
    IfOk-weaker c.new.result (λ r. length c.as_slice.result.now + 1 ≤ r) (HasNoteRoom all c.args.place)
    (λ r room x at. subst (λ (d : EntryDetails). length d.provenance.notes + 1 ≤ r) (same_Some details x (c.in-Some.ensures ∙ at)) (subst (λ ns. length ns + 1 ≤ r) c.as_slice.ensures room))
    c.new.ensures

pub returns-in-None : goal.returns-in-None
returns-in-None c = λ x at. absurd (none-some x (c.in-None.ensures ∙ at))
