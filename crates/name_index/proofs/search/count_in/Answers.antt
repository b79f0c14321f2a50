use Rattle.std.proofs.Common.{rules}
use Rattle.std.proofs.lemmas.List.Sorted.{IsPartitionPoint-from_clause}
use Rattle.name_index.proofs.PartedLists.{parted_by, cut_passing, cut_failing}
use Rattle.name_index.proofs.search.count_in.Goals as goal

pub returns-clause-passing : goal.returns-clause-passing
returns-clause-passing g c =
    let p = g.T.Test.passes c.args.test.now in
    cut_passing p c.args.block.now c.partition_point.result
    (IsPartitionPoint-from_clause p c.args.block.now c.partition_point.result c.partition_point.ensures.partitioned (parted_by p c.args.block.now c.requires) (λ a r f called. search rules))

pub returns-clause-failing : goal.returns-clause-failing
returns-clause-failing g c =
    let p = g.T.Test.passes c.args.test.now in
    cut_failing p c.args.block.now c.partition_point.result
    (IsPartitionPoint-from_clause p c.args.block.now c.partition_point.result c.partition_point.ensures.partitioned (parted_by p c.args.block.now c.requires) (λ a r f called. search rules))
