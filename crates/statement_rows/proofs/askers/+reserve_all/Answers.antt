use Rattle.std.proofs.Common.{◌≡◌, ◌+◌, List, true, sym, ap, ◌∙◌, Vec, Global, ℕ}
use Rattle.std.specs.Prelude.{Option}
use Rattle.cpe_rows.specs.declared.test.CheckKey.{CheckKey}
use Rattle.statement_rows.specs.Askers.{has_place, asker_list_at}
use Rattle.statement_rows.specs.Readings.{check_keys, is_asked}
use Rattle.statement_rows.proofs.AskerLemmas.{all_keys, asked_step, none_prefix, others_step, place_step}
use Rattle.std.specs.List.{flat_map}
use Rattle.statement_rows.proofs.ReadingLemmas.{keys-logic}
use Rattle.statement_rows.proofs.askers.+reserve_all.Goals as goal

pub loop-child-preserved : goal.loop-child-preserved
loop-child-preserved t c =
    let after = c.in_ok-reserve_all-in-Logic.ensures in (
      (λ q h. place_step (λ (o : Option (Vec ℕ Global)). has_place o ≡ true) _ _ (asker_list_at c.loop-child.askers.entries q) (asker_list_at c.reserve_all.new.askers.entries q)
          (after.places q) (after.others q) (c.loop-child.invariant.0 q) (sym (asked_step c.as_slice-child-items.result.now c.loop-child.child-index c.child-item.result c.loop-child-test.true c.child-item.is q) ∙ h)),
      (λ q. after.tickets q ∙ c.loop-child.invariant.1 q),
      (λ q h. others_step _ _ (asker_list_at c.args.askers.now.entries q) (asker_list_at c.loop-child.askers.entries q) (asker_list_at c.reserve_all.new.askers.entries q)
          (c.loop-child.invariant.2 q) (after.others q) (sym (asked_step c.as_slice-child-items.result.now c.loop-child.child-index c.child-item.result c.loop-child-test.true c.child-item.is q) ∙ h)),
    )

pub returns-after-loop-child : goal.returns-after-loop-child
returns-after-loop-child t c =
    let keys = (all_keys c.in-Logic.operator c.in-Logic.negate c.in-Logic.of c.as_slice-child-items.result.now c.loop-child.child-index c.args.test.now c.as_slice-child-items.ensures c.loop-child-test.false c.in-Logic.is) in
    record {
      places = λ q h. c.loop-child.invariant.0 q (ap (λ (ks : List CheckKey). is_asked ks q) keys ∙ h);
      tickets = c.loop-child.invariant.1;
      others = λ q h. c.loop-child.invariant.2 q (ap (λ (ks : List CheckKey). is_asked ks q) keys ∙ h);
    }

pub returns-in_err-reserve_all-in-Logic-clause-others : goal.returns-in_err-reserve_all-in-Logic-clause-others
returns-in_err-reserve_all-in-Logic-clause-others t c q h =
    let of = c.as_slice-child-items.result.now in
    let keys = ap check_keys c.in-Logic.is ∙ keys-logic c.in-Logic.operator c.in-Logic.negate c.in-Logic.of ∙ ap (flat_map check_keys) (sym c.as_slice-child-items.ensures) in
    others_step _ _ (asker_list_at c.args.askers.now.entries q) (asker_list_at c.loop-child.askers.entries q) (asker_list_at c.reserve_all.new.askers.entries q)
    (c.loop-child.invariant.2 q) (c.in_err-reserve_all-in-Logic.ensures.others q)
    (sym (asked_step c.as_slice-child-items.result.now c.loop-child.child-index c.child-item.result c.loop-child-test.true c.child-item.is q) ∙ none_prefix of (c.loop-child.child-index + 1) q (sym (ap (λ (ks : List CheckKey). is_asked ks q) keys) ∙ h))
