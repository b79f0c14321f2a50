use Rattle.std.proofs.Common.{sym, ap, ◌∙◌}
use Rattle.std.specs.Prelude.{not}
use Rattle.ticket_list.specs.Slots.{is_element}
use Rattle.ticket_list.proofs.SlotLemmas.{ends_is}
use Rattle.ticket_list.proofs.slots.ends_with_mark.Goals as goal

pub returns-in-len1-up : goal.returns-in-len1-up
returns-in-len1-up g c = ap not (c.is_element.ensures ∙ ap is_element c.last-item.is ∙ sym (ends_is c.last-item.result c.args.slots.now c.in-len1-up.len_at_least))
