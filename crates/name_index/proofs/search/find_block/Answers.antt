use Rattle.std.proofs.Common.{◌-◌, arith}
use Rattle.name_index.proofs.BlockLemmas.{passing_blocks, failing_blocks, none_behind}
use Rattle.name_index.proofs.search.find_block.Goals as goal

pub returns-then-block-blocks-clause-passing : goal.returns-then-block-blocks-clause-passing
returns-then-block-blocks-clause-passing g c =
    passing_blocks (g.T.Test.passes c.args.test.now) c.args.blocks.now (c.count_blocks-block.result - 1) c.requires.parted (λ k d low high. c.count_blocks-block.ensures.point.0 k d low (omega (arith, high))) (omega (arith, c.count_blocks-block.ensures.bound))

pub returns-then-block-blocks-clause-failing : goal.returns-then-block-blocks-clause-failing
returns-then-block-blocks-clause-failing g c =
    none_behind (g.T.Test.passes c.args.test.now) c.args.blocks.now (c.count_blocks-block.result - 1) (omega (arith, c.if-block-blocks.true, c.requires.some))

pub returns-else-block-blocks-clause-passing : goal.returns-else-block-blocks-clause-passing
returns-else-block-blocks-clause-passing g c =
    passing_blocks (g.T.Test.passes c.args.test.now) c.args.blocks.now c.count_blocks-block.result c.requires.parted c.count_blocks-block.ensures.point.0 c.count_blocks-block.ensures.bound

pub returns-else-block-blocks-clause-failing : goal.returns-else-block-blocks-clause-failing
returns-else-block-blocks-clause-failing g c =
    failing_blocks (g.T.Test.passes c.args.test.now) c.args.blocks.now c.count_blocks-block.result c.requires.filled c.requires.parted c.count_blocks-block.ensures.point.1
    (omega (arith, c.count_blocks-block.ensures.bound, c.if-block-blocks.false))
