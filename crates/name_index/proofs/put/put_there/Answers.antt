use Rattle.std.proofs.Common.{ℕ, List, length, ap, ◌∙◌, arith}
use Rattle.std.specs.List.{insert}
use Rattle.name_index.proofs.BlockLemmas.{lent, put_flat, put_blocks, put_block}
use Rattle.name_index.proofs.put.put_there.Goals as goal

pub put_in_block-requires-clause-at : goal.put_in_block-requires-clause-at
put_in_block-requires-clause-at c =
    let b = lent c.args.blocks.now.items c.args.place.block c.index_mut.result.now c.requires.blocks c.requires.inside c.index_mut.ensures.value in
    omega (arith, ap length b.items, c.requires.within)

pub put_in_block-requires-clause-room : goal.put_in_block-requires-clause-room
put_in_block-requires-clause-room c =
    let b = lent c.args.blocks.now.items c.args.place.block c.index_mut.result.now c.requires.blocks c.requires.inside c.index_mut.ensures.value in
    omega (arith, ap length b.items, c.requires.space, b.block.2)

pub returns-clause-blocks : goal.returns-clause-blocks
returns-clause-blocks c =
    let b = lent c.args.blocks.now.items c.args.place.block c.index_mut.result.now c.requires.blocks c.requires.inside c.index_mut.ensures.value in
    put_blocks c.put_in_block.new.block c.args.blocks.now.items c.args.place.block c.requires.blocks
    (put_block c.index_mut.result.now c.put_in_block.new.block c.args.place.at c.args.number b.block (omega (arith, ap length b.items, c.requires.space)) (omega (arith, ap length b.items, c.requires.within)) c.put_in_block.ensures.items c.put_in_block.ensures.capacity)

pub returns-clause-put : goal.returns-clause-put
returns-clause-put c =
    let b = lent c.args.blocks.now.items c.args.place.block c.index_mut.result.now c.requires.blocks c.requires.inside c.index_mut.ensures.value in
    put_flat c.put_in_block.new.block c.args.blocks.now.items c.args.place.block c.args.place.at c.args.number c.requires.inside
    (c.put_in_block.ensures.items ∙ ap (λ (u : List ℕ). insert u c.args.place.at c.args.number) b.items)
