use Rattle.std.proofs.Common.{ℕ, ap, ◌∙◌, Vec, Global}
use Rattle.name_index.proofs.BlockLemmas.{at_is}
use Rattle.name_index.proofs.search.block_of.Goals as goal

pub returns : goal.returns
returns c = c.deref.ensures.value ∙ ap (λ (v : Vec ℕ Global). v.items) c.index-blocks-block.is ∙ at_is c.args.blocks.now c.args.block c.index-blocks-block.result c.requires
