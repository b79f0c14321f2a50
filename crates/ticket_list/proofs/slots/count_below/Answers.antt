use Rattle.std.proofs.Common.{rules}
use Rattle.std.specs.Prelude.{nat_lt}
use Rattle.std.proofs.lemmas.List.Sorted.{IsPartitionPoint-from_clause}
use Rattle.ticket_list.specs.Slots.{slot_ticket}
use Rattle.ticket_list.proofs.RisingLemmas.{rising_partitioned, prefix_is}
use Rattle.ticket_list.proofs.slots.count_below.Goals as goal

pub returns-clause-count : goal.returns-clause-count
returns-clause-count g c =
    let ticket_of = g.T.Ticketed.ticket_of in
    prefix_is (λ s. nat_lt (slot_ticket ticket_of s) c.args.ticket) c.args.slots.now c.partition_point.result c.partition_point.ensures.bound
    (IsPartitionPoint-from_clause (λ s. nat_lt (slot_ticket ticket_of s) c.args.ticket) c.args.slots.now c.partition_point.result c.partition_point.ensures.partitioned
    (rising_partitioned (slot_ticket ticket_of) c.args.ticket c.args.slots.now c.requires) (λ a r f called. search rules))
