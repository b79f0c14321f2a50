use Rattle.std.proofs.Common.{arith, ap}
use Rattle.std.specs.Prelude.{length}
use Rattle.ticket_list.proofs.SlotLemmas.{counted}
use Rattle.ticket_list.proofs.list.count_elements.Goals as goal

pub overflow_sub-result : goal.overflow_sub-result
overflow_sub-result g c =
    let marks = ap length c.requires.marked in
    let total = counted 0 c.args.slots.now in
    omega (arith, marks, total)

pub returns-clause-count : goal.returns-clause-count
returns-clause-count g c =
    let marks = ap length c.requires.marked in
    let total = counted 0 c.args.slots.now in
    omega (arith, marks, total)
