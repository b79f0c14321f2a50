use Rattle.std.proofs.Common.{◌≡◌, ◌+◌, ◌++◌, ℕ, List, length, ap, ◌∙◌, arith, refl}
use Rattle.name_index.specs.Places.{Block, flat, block_at}
use Rattle.name_index.proofs.BlockLemmas.{put_blocks}
use Rattle.name_index.proofs.Taken.{blocks_joined, joining, longer}
use Rattle.name_index.proofs.take.join_next.Goals as goal

pub append-requires : goal.append-requires
append-requires c =
    let j = joining c.args.blocks.now.items c.remove-next.new.self.items c.args.first c.index_mut.result.now c.remove-next.result c.deref.result.now
    c.requires.blocks c.requires.inside c.remove-next.ensures.items c.index_mut.ensures.value c.remove-next.ensures.value c.deref.ensures.value in
    omega (arith, ap length j.first, ap length j.second, c.requires.few, j.block.2)

pub returns-clause-blocks : goal.returns-clause-blocks
returns-clause-blocks c =
    let j = joining c.args.blocks.now.items c.remove-next.new.self.items c.args.first c.index_mut.result.now c.remove-next.result c.deref.result.now
    c.requires.blocks c.requires.inside c.remove-next.ensures.items c.index_mut.ensures.value c.remove-next.ensures.value c.deref.ensures.value in
    put_blocks c.append.new.block c.remove-next.new.self.items c.args.first j.blocks
    (longer c.index_mut.result.now c.append.new.block c.deref.result.now j.block (omega (arith, ap length j.first, ap length j.second, c.requires.few)) c.append.ensures.items c.append.ensures.capacity)

pub returns-clause-same : goal.returns-clause-same
returns-clause-same c =
    let bs = c.args.blocks.now.items in
    let i = c.args.first in
    let v = c.append.new.block in
    let j = joining bs c.remove-next.new.self.items i c.index_mut.result.now c.remove-next.result c.deref.result.now
    c.requires.blocks c.requires.inside c.remove-next.ensures.items c.index_mut.ensures.value c.remove-next.ensures.value c.deref.ensures.value in
    let items : v.items ≡ block_at bs i ++ block_at bs (i + 1) = c.append.ensures.items ∙ ap (λ (u : List ℕ). u ++ c.deref.result.now) j.first ∙ ap (λ (u : List ℕ). block_at bs i ++ u) j.second in
    ap (λ (u : List Block). flat (lib.ListN.set u i v)) c.remove-next.ensures.items ∙ blocks_joined v bs i (i + 1) refl c.requires.inside items
