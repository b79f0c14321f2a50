use Rattle.std.proofs.Common.{List, length, ap, ◌∙◌, arith}
use Rattle.name_index.specs.Places.{Block, block_at}
use Rattle.name_index.proofs.BlockLemmas.{at_most}
use Rattle.name_index.proofs.put.make_space.Goals as goal

pub cut_block-requires-clause-full : goal.cut_block-requires-clause-full
cut_block-requires-clause-full c =
    omega (arith, c.if-has_space.ensures.full, at_most c.args.blocks.now.items c.args.place.block c.requires.blocks, ap length (c.block_of.ensures ∙ ap (λ (u : List Block). block_at u c.args.place.block) c.deref.ensures.value))

pub returns-clause-within : goal.returns-clause-within
returns-clause-within c =
    omega (arith, c.cut_block.ensures.second, c.requires.within, at_most c.args.blocks.now.items c.args.place.block c.requires.blocks)
