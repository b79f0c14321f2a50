use Rattle.std.proofs.Common.{◌≡◌, ◌+◌, ◌≤◌, length, take, drop, ap, ◌∙◌, rules, vec_capacity}
use Rattle.std.specs.List.{insert, slice_set}
use Rattle.name_index.proofs.BlockLemmas.{lent}
use Rattle.name_index.proofs.Halves.{is_halved, first_half, second_half}
use Rattle.name_index.proofs.put.cut_block.Goals as goal

pub move_half-requires-clause-full : goal.move_half-requires-clause-full
move_half-requires-clause-full c =
    let b = lent c.args.blocks.now.items c.args.block c.index_mut.result.now c.requires.blocks c.requires.inside c.index_mut.ensures.value in
    ap length b.items ∙ c.requires.full

pub returns : goal.returns
returns c =
    let bs = c.args.blocks.now.items in
    let i = c.args.block in
    let b = c.index_mut.result.now in
    let v = c.move_half.new.block in
    let w = c.move_half.new.half in
    let l = lent bs i b c.requires.blocks c.requires.inside c.index_mut.ensures.value in
    let full : length b.items ≡ 1024 = ap length l.items ∙ c.requires.full in
    let new_is : c.insert.new.self.items ≡ insert (slice_set bs i v) (i + 1) w = search rules in
    let room : 1024 ≤ vec_capacity w = search rules in
    is_halved v w bs c.insert.new.self.items i c.requires.inside c.requires.blocks c.requires.full (c.move_half.ensures.front ∙ ap (take 512) l.items) (c.move_half.ensures.back ∙ ap (drop 512) l.items)
    (first_half b v l.block full c.move_half.ensures.front c.move_half.ensures.capacity) (second_half b w full c.move_half.ensures.back room) new_is
