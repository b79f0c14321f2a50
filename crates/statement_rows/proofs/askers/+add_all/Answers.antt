use Rattle.std.proofs.Common.{rules, refl, ◌≡◌, ◌<◌, true, List, sym, ap, ◌∙◌, take, arith}
use Rattle.std.specs.List.{flat_map}
use Rattle.cpe_rows.specs.declared.test.CheckKey.{CheckKey}
use Rattle.cpe_rows.specs.Shape.{depth_of}
use Rattle.cpe_rows.specs.declared.test.Test.{Test, Logic}
use Rattle.statement_rows.specs.Askers.{askers_at, asker_list_at, may_enter}
use Rattle.statement_rows.specs.Readings.{check_keys, is_asked}
use Rattle.statement_rows.specs.Tickets.{with_last_if}
use Rattle.statement_rows.proofs.AskerLemmas.{all_keys, asked_step, asked_within, depth_falls, with_last_twice, may_step, others_step, with_child}
use Rattle.statement_rows.proofs.ReadingLemmas.{keys-logic}
use Rattle.statement_rows.proofs.VerdictLemmas.{or_right}
use Rattle.statement_rows.proofs.askers.+add_all.Goals as goal

pub add_all-requires : goal.add_all-requires
add_all-requires t c =
    let of = c.as_slice-child-items.result.now in
    let i = c.loop-child.child-index in
    let child = c.child-item.result in
    let test = ap (λ (ts : List Test). Logic c.in-Logic.operator c.in-Logic.negate ts) c.as_slice-child-items.ensures ∙ sym c.in-Logic.is in
    let keys = ap check_keys c.in-Logic.is ∙ keys-logic c.in-Logic.operator c.in-Logic.negate c.in-Logic.of ∙ ap (flat_map check_keys) (sym c.as_slice-child-items.ensures) in
    let may : (q : CheckKey) → is_asked (check_keys child) q ≡ true → may_enter c.args.ticket (asker_list_at c.loop-child.askers.entries q) ≡ true = λ q h.
    let there = asked_within of i child q true c.loop-child-test.true (λ e. ap (λ (u : Test). is_asked (check_keys u) q) (sym c.child-item.is) ∙ h) (or_right (is_asked (flat_map check_keys (take i of)) q) true refl) in
    may_step c.args.ticket (is_asked (flat_map check_keys (take i of)) q) (asker_list_at c.args.askers.now.entries q) (asker_list_at c.loop-child.askers.entries q) (c.loop-child.invariant.0 q) (c.loop-child.invariant.1 q)
    (c.requires q (ap (λ (ks : List CheckKey). is_asked ks q) keys ∙ there)) in
    let falls : depth_of child < depth_of c.args.test.now =
    omega (arith, ap depth_of c.child-item.is, depth_falls c.in-Logic.operator c.in-Logic.negate of i child c.loop-child-test.true, ap depth_of test) in
    search (rules, falls, may)

pub loop-child-preserved : goal.loop-child-preserved
loop-child-preserved t c =
    let ticket = c.args.ticket in (
      (λ q. with_child (λ b xs. with_last_if b ticket xs) (λ b e xs. with_last_twice b e ticket xs) c.as_slice-child-items.result.now c.loop-child.child-index c.child-item.result c.loop-child-test.true c.child-item.is q
          (askers_at c.args.askers.now.entries q) (askers_at c.loop-child.askers.entries q) (askers_at c.add_all.new.askers.entries q) (c.loop-child.invariant.0 q) (c.add_all.ensures.tickets q)),
      (λ q h. others_step _ _ (asker_list_at c.args.askers.now.entries q) (asker_list_at c.loop-child.askers.entries q) (asker_list_at c.add_all.new.askers.entries q)
          (c.loop-child.invariant.1 q) (c.add_all.ensures.others q) (sym (asked_step c.as_slice-child-items.result.now c.loop-child.child-index c.child-item.result c.loop-child-test.true c.child-item.is q) ∙ h)),
    )

pub returns-after-loop-child : goal.returns-after-loop-child
returns-after-loop-child t c =
    let keys = (all_keys c.in-Logic.operator c.in-Logic.negate c.in-Logic.of c.as_slice-child-items.result.now c.loop-child.child-index c.args.test.now c.as_slice-child-items.ensures c.loop-child-test.false c.in-Logic.is) in
    record {
      tickets = λ q. c.loop-child.invariant.0 q ∙ ap (λ (ks : List CheckKey). with_last_if (is_asked ks q) c.args.ticket (askers_at c.args.askers.now.entries q)) keys;
      others = λ q h. c.loop-child.invariant.1 q (ap (λ (ks : List CheckKey). is_asked ks q) keys ∙ h);
    }
