use Rattle.std.proofs.Common.{sym, ◌∙◌}
use Rattle.name_index.proofs.PartedLists.{last_is}
use Rattle.name_index.proofs.search.last_passes.Goals as goal

pub returns-in-len1-up : goal.returns-in-len1-up
returns-in-len1-up g c = c.test.ensures ∙ sym (last_is (g.T.Test.passes c.args.test.now) c.args.block.now c.in-len1-up.len_at_least)
