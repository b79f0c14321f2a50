use Rattle.std.proofs.Common.{◌≡◌, ◌<◌, List, ℕ, length, sym, ap, subst, ◌∙◌, arith}
use Rattle.std.specs.List.{remove}
use Rattle.name_index.specs.Places.{Block, flat, AreBlocks, block_at}
use Rattle.name_index.proofs.BlockLemmas.{lent, put_blocks}
use Rattle.name_index.proofs.Taken.{block_taken, blocks_left, number_taken, less}
use Rattle.name_index.proofs.take.take_at.Goals as goal

pub returns-then-block_of-eq1-clause-taken : goal.returns-then-block_of-eq1-clause-taken
returns-then-block_of-eq1-clause-taken c =
    let bs = c.args.blocks.now.items in
    let i = c.args.place.block in
    let one = ap length (sym (c.block_of.ensures ∙ ap (λ (u : List Block). block_at u i) c.deref.ensures.value)) ∙ c.if-block_of-eq1.true in
    ap flat c.take_block.ensures ∙ block_taken bs i c.args.place.at c.requires.inside c.requires.within one

pub returns-then-block_of-eq1-clause-blocks : goal.returns-then-block_of-eq1-clause-blocks
returns-then-block_of-eq1-clause-blocks c = subst AreBlocks (sym c.take_block.ensures) (blocks_left c.args.blocks.now.items c.args.place.block c.requires.blocks)

pub take_in_block-requires : goal.take_in_block-requires
take_in_block-requires c =
    let b = lent c.args.blocks.now.items c.args.place.block c.index_mut.result.now c.requires.blocks c.requires.inside c.index_mut.ensures.value in
    omega (arith, ap length b.items, c.requires.within)

pub returns-clause-blocks : goal.returns-clause-blocks
returns-clause-blocks c =
    let l = lent c.args.blocks.now.items c.args.place.block c.index_mut.result.now c.requires.blocks c.requires.inside c.index_mut.ensures.value in
    let here : length (block_at c.args.blocks.now.items c.args.place.block) ≡ length c.block_of.result.now = ap length (sym (c.block_of.ensures ∙ ap (λ (u : List Block). block_at u c.args.place.block) c.deref.ensures.value)) in
    let more : 1 < length c.index_mut.result.now.items = omega (arith, ap length l.items, here, c.requires.within, c.if-block_of-eq1.false) in
    put_blocks c.take_in_block.new.block c.args.blocks.now.items c.args.place.block c.requires.blocks
    (less c.index_mut.result.now c.take_in_block.new.block c.args.place.at l.block (omega (arith, ap length l.items, c.requires.within)) more c.take_in_block.ensures.items c.take_in_block.ensures.capacity)

pub returns-clause-taken : goal.returns-clause-taken
returns-clause-taken c =
    let b = lent c.args.blocks.now.items c.args.place.block c.index_mut.result.now c.requires.blocks c.requires.inside c.index_mut.ensures.value in
    number_taken c.take_in_block.new.block c.args.blocks.now.items c.args.place.block c.args.place.at c.requires.inside (c.take_in_block.ensures.items ∙ ap (λ (u : List ℕ). remove u c.args.place.at) b.items)
