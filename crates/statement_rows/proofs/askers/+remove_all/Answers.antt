use Rattle.std.proofs.Common.{rules, List, ◌<◌, sym, ap, subst, ◌∙◌, take, arith}
use Rattle.std.specs.List.{flat_map}
use Rattle.cpe_rows.specs.declared.test.CheckKey.{CheckKey}
use Rattle.cpe_rows.specs.Shape.{depth_of}
use Rattle.cpe_rows.specs.declared.test.Test.{Test, Logic}
use Rattle.check_results.specs.ticket_list.Rising.{IsRising}
use Rattle.statement_rows.specs.Askers.{askers_at}
use Rattle.statement_rows.specs.Readings.{check_keys, is_asked}
use Rattle.statement_rows.specs.Tickets.{without_if}
use Rattle.statement_rows.proofs.AskerLemmas.{all_keys, asked_still, depth_falls, without_if_twice, with_child}
use Rattle.statement_rows.proofs.ListLemmas.{rising-left}
use Rattle.statement_rows.proofs.askers.+remove_all.Goals as goal

pub remove_all-requires : goal.remove_all-requires
remove_all-requires t c =
    let of = c.as_slice-child-items.result.now in
    let i = c.loop-child.child-index in
    let rising : (q : CheckKey) → IsRising (askers_at c.loop-child.askers.entries q) = λ q.
    subst IsRising (sym (c.loop-child.invariant.0 q)) (rising-left (is_asked (flat_map check_keys (take i of)) q) c.args.ticket (askers_at c.args.askers.now.entries q) (c.requires q)) in
    let test = ap (λ (ts : List Test). Logic c.in-Logic.operator c.in-Logic.negate ts) c.as_slice-child-items.ensures ∙ sym c.in-Logic.is in
    let falls : depth_of c.child-item.result < depth_of c.args.test.now =
    omega (arith, ap depth_of c.child-item.is, depth_falls c.in-Logic.operator c.in-Logic.negate of i c.child-item.result c.loop-child-test.true, ap depth_of test) in
    search (rules, falls, rising)

pub loop-child-preserved : goal.loop-child-preserved
loop-child-preserved t c =
    let ticket = c.args.ticket in (
      λ q. with_child (λ b xs. without_if b ticket xs) (λ b e xs. without_if_twice b e ticket xs) c.as_slice-child-items.result.now c.loop-child.child-index c.child-item.result c.loop-child-test.true c.child-item.is q
          (askers_at c.args.askers.now.entries q) (askers_at c.loop-child.askers.entries q) (askers_at c.remove_all.new.askers.entries q) (c.loop-child.invariant.0 q) (c.remove_all.ensures.tickets q),
      λ asked. c.remove_all.ensures.lists (c.loop-child.invariant.1 asked),
    )

pub returns-after-loop-child-clause-tickets : goal.returns-after-loop-child-clause-tickets
returns-after-loop-child-clause-tickets t c q =
    c.loop-child.invariant.0 q
    ∙ ap (λ (ks : List CheckKey). without_if (is_asked ks q) c.args.ticket (askers_at c.args.askers.now.entries q))
    (all_keys c.in-Logic.operator c.in-Logic.negate c.in-Logic.of c.as_slice-child-items.result.now c.loop-child.child-index c.args.test.now c.as_slice-child-items.ensures c.loop-child-test.false c.in-Logic.is)

pub returns-in-Check-clause-lists : goal.returns-in-Check-clause-lists
returns-in-Check-clause-lists t c = asked_still c.args.askers.now.entries c.remove.new.askers.entries c.in-Check.key c.remove.ensures.others (λ asked. c.remove.ensures.list)
