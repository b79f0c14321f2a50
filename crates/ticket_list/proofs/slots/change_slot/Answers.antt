use Rattle.std.proofs.Common.{ap, ◌∙◌}
use Rattle.std.specs.Prelude.{set}
use Rattle.ticket_list.specs.declared.slots.Slot.TheVariants.{Element}
use Rattle.ticket_list.proofs.ChangeLemmas.{changed_read, kept_read}
use Rattle.ticket_list.proofs.slots.change_slot.Goals as goal

pub returns-in-Element : goal.returns-in-Element
returns-in-Element g c =
    let at = changed_read (g.C.Change.changed c.args.change.now) c.args.slot c.in-Element.element c.args.slots.now c.index-slots-slot.result c.requires c.in-Element.is in
    ap (λ x. set c.args.slots.now c.args.slot (Element x)) c.change.ensures ∙ at

pub returns-in-Mark : goal.returns-in-Mark
returns-in-Mark g c =
    ap (λ s. set c.args.slots.now c.args.slot s) c.in-Mark.is
    ∙ kept_read (g.C.Change.changed c.args.change.now) c.args.slot c.in-Mark.field-0 c.args.slots.now c.index-slots-slot.result c.requires c.in-Mark.is
