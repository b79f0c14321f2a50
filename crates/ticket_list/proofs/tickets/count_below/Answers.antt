use Rattle.std.proofs.Common.{rules}
use Rattle.std.specs.Prelude.{nat_lt}
use Rattle.std.proofs.lemmas.List.Sorted.{IsPartitionPoint-from_clause}
use Rattle.ticket_list.proofs.RisingLemmas.{rising_partitioned, prefix_is}
use Rattle.ticket_list.proofs.tickets.count_below.Goals as goal

pub returns-clause-count : goal.returns-clause-count
returns-clause-count c =
    prefix_is (λ x. nat_lt x c.args.ticket) c.args.list.now c.partition_point.result c.partition_point.ensures.bound
    (IsPartitionPoint-from_clause (λ x. nat_lt x c.args.ticket) c.args.list.now c.partition_point.result c.partition_point.ensures.partitioned
    (rising_partitioned (λ x. x) c.args.ticket c.args.list.now c.requires) (λ a r f called. search rules))
