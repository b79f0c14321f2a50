use Rattle.std.proofs.Common.{◌≡◌, false, sym, ap, subst, ◌∙◌, take_all, true}
use Rattle.std.specs.List.{flat_map, list_all}
use Rattle.cpe_rows.specs.Rows.{same_key}
use Rattle.cpe_rows.specs.declared.test.Test.{Test}
use Rattle.statement_rows.specs.Readings.{check_keys}
use Rattle.statement_rows.proofs.AskerLemmas.{all_fail, all_more}
use Rattle.statement_rows.proofs.ReadingLemmas.{keys-logic}
use Rattle.statement_rows.proofs.by_result.+asks_only.Goals as goal

pub returns-then-not-asks_only : goal.returns-then-not-asks_only
returns-then-not-asks_only t c =
    let child = c.child-item.result in
    let key = c.args.key.now in
    let test = ap check_keys c.in-Logic.is ∙ keys-logic c.in-Logic.operator c.in-Logic.negate c.in-Logic.of ∙ ap (flat_map check_keys) (sym c.as_slice-child-items.ensures) in
    let fails = sym c.asks_only.ensures ∙ c.if-not-asks_only.true in
    sym (ap (list_all (same_key key)) test
    ∙ all_fail (same_key key) c.as_slice-child-items.result.now c.loop-child.child-index child c.loop-child-test.true
    (subst (λ (u : Test). list_all (same_key key) (check_keys u) ≡ false) c.child-item.is fails))

pub loop-child-preserved : goal.loop-child-preserved
loop-child-preserved t c =
    let child = c.child-item.result in
    let key = c.args.key.now in
    let passes = sym c.asks_only.ensures ∙ c.if-not-asks_only.false in
    all_more (same_key key) c.as_slice-child-items.result.now c.loop-child.child-index child c.loop-child-test.true c.loop-child.invariant
    (subst (λ (u : Test). list_all (same_key key) (check_keys u) ≡ true) c.child-item.is passes)

pub returns-after-loop-child : goal.returns-after-loop-child
returns-after-loop-child t c =
    let all = take_all c.loop-child.child-index c.as_slice-child-items.result.now c.loop-child-test.false ∙ c.as_slice-child-items.ensures in
    let test = ap check_keys c.in-Logic.is ∙ keys-logic c.in-Logic.operator c.in-Logic.negate c.in-Logic.of in
    sym (ap (list_all (same_key c.args.key.now)) (test ∙ ap (flat_map check_keys) (sym all)) ∙ c.loop-child.invariant)
