use Rattle.std.proofs.Common.{rules}
use Rattle.std.proofs.lemmas.List.Sorted.{IsPartitionPoint-from_clause}
use Rattle.name_index.proofs.PartedLists.{parted_by}
use Rattle.name_index.proofs.BlockLemmas.{ends, blocks_parted}
use Rattle.name_index.proofs.search.count_blocks.Goals as goal

pub returns-clause-point : goal.returns-clause-point
returns-clause-point g c =
    let p = g.T.Test.passes c.args.test.now in
    IsPartitionPoint-from_clause (ends p) c.args.blocks.now c.partition_point.result c.partition_point.ensures.partitioned
    (parted_by (ends p) c.args.blocks.now (blocks_parted p c.args.blocks.now c.requires.filled c.requires.parted)) (λ a r f called. search rules)
