use Rattle.std.proofs.Common.{ℕ, List, true, false, take, drop, sym, subst}
use Rattle.name_index.specs.Blocks.{AllAre, IsParted}
use Rattle.name_index.proofs.BlockLemmas.{block_parted, place_passing, place_failing}
use Rattle.name_index.proofs.search.find.Goals as goal

pub count_in-at-requires : goal.count_in-at-requires
count_in-at-requires g c =
    let p = g.T.Test.passes c.args.test.now in
    subst (IsParted p) (sym c.block_of.ensures) (block_parted p c.args.blocks.now c.find_block-block.result c.requires.parted)

pub returns-clause-passing : goal.returns-clause-passing
returns-clause-passing g c =
    let p = g.T.Test.passes c.args.test.now in
    place_passing p c.args.blocks.now c.find_block-block.result c.count_in-at.result c.find_block-block.ensures.passing
    (subst (λ (u : List ℕ). AllAre p true (take c.count_in-at.result u)) c.block_of.ensures c.count_in-at.ensures.passing)

pub returns-clause-failing : goal.returns-clause-failing
returns-clause-failing g c =
    let p = g.T.Test.passes c.args.test.now in
    place_failing p c.args.blocks.now c.find_block-block.result c.count_in-at.result c.find_block-block.ensures.failing
    (subst (λ (u : List ℕ). AllAre p false (drop c.count_in-at.result u)) c.block_of.ensures c.count_in-at.ensures.failing)
