use Rattle.std.proofs.Common.{◌∙◌, sym}
use Rattle.cpe_engine.proofs.SlotLemmas.{full_at}
use Rattle.cpe_engine.proofs.slots.item_of.Goals as goal

pub returns-then-len-count : goal.returns-then-len-count
returns-then-len-count c = c.at.ensures ∙ full_at c.args.slots.now c.args.k (sym c.len.ensures ∙ (c.if-len-count.true ∙ c.requires))
