use Rattle.std.proofs.Common.{sym, ◌∙◌}
use Rattle.ticket_list.proofs.FoundLemmas.{occurs_once}
use Rattle.ticket_list.proofs.slots.slot_of.Goals as goal

pub returns-then-occurs_at-clause-slot : goal.returns-then-occurs_at-clause-slot
returns-then-occurs_at-clause-slot g c =
    occurs_once g.T.Ticketed.ticket_of c.args.ticket c.args.slots.now c.unbroken_slot-unbroken.result c.requires (sym c.occurs_at.ensures ∙ c.if-occurs_at.true)
