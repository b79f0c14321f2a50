use Rattle.std.proofs.Common.{◌≡◌, Some, None, ap, sym, ◌∙◌, arith}
use Rattle.std.specs.List.{position}
use Rattle.name_index.specs.Places.{block_at}
use Rattle.name_index.proofs.Taken.{is, found, found_behind, none_in, next_block, still}
use Rattle.name_index.proofs.take.place_of.Goals as goal

pub returns-in-Some-clause-is : goal.returns-in-Some-clause-is
returns-in-Some-clause-is c =
    let bs = c.args.blocks.now in
    let i = c.loop-block.block in
    let n = c.args.number in
    let at : position (is n) (block_at bs i) ≡ Some c.in-Some.at = ap (position (is n)) (sym c.block_of.ensures) ∙ sym c.place_in.ensures ∙ c.in-Some.is in
    found_behind bs i c.in-Some.at n c.loop-block-test.true (found n (block_at bs i) c.in-Some.at at)

pub loop-block-preserved : goal.loop-block-preserved
loop-block-preserved c =
    let bs = c.args.blocks.now in
    let i = c.loop-block.block in
    let n = c.args.number in
    let none : position (is n) (block_at bs i) ≡ None = ap (position (is n)) (sym c.block_of.ensures) ∙ sym c.place_in.ensures ∙ c.in_default.is in
    next_block (is n) bs i c.loop-block-test.true (none_in (is n) (block_at bs i) none) c.loop-block.invariant

pub unreachable-requires : goal.unreachable-requires
unreachable-requires c = omega (arith, still (is c.args.number) c.args.blocks.now c.loop-block.block c.loop-block.invariant, c.loop-block-test.false)
