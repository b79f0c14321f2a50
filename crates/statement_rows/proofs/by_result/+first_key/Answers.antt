use Rattle.std.proofs.Common.{◌≡◌, [], List, sym, ap, subst, ◌∙◌, take_all}
use Rattle.std.specs.Prelude.{slice_get, Some}
use Rattle.std.specs.List.{flat_map}
use Rattle.cpe_rows.specs.declared.test.CheckKey.{CheckKey}
use Rattle.cpe_rows.specs.declared.test.Test.{Test}
use Rattle.statement_rows.specs.Readings.{check_keys}
use Rattle.statement_rows.proofs.AskerLemmas.{first_next, none_first, none_more}
use Rattle.statement_rows.proofs.ReadingLemmas.{keys-logic}
use Rattle.statement_rows.proofs.by_result.+first_key.Goals as goal

pub returns-in-Some : goal.returns-in-Some
returns-in-Some t c =
    let child = c.child-item.result in
    let test = ap check_keys c.in-Logic.is ∙ keys-logic c.in-Logic.operator c.in-Logic.negate c.in-Logic.of ∙ ap (flat_map check_keys) (sym c.as_slice-child-items.ensures) in
    let here = subst (λ (u : Test). Some c.in-Some.key.now ≡ slice_get (check_keys u) 0) c.child-item.is c.in-Some.ensures in
    first_next c.as_slice-child-items.result.now c.loop-child.child-index child c.in-Some.key.now c.loop-child-test.true c.loop-child.invariant here
    ∙ ap (λ (ks : List CheckKey). slice_get ks 0) (sym test)

pub loop-child-preserved : goal.loop-child-preserved
loop-child-preserved t c =
    let child = c.child-item.result in
    let none = none_first (check_keys child) (sym c.in_default.ensures) in
    none_more c.as_slice-child-items.result.now c.loop-child.child-index child c.loop-child-test.true c.loop-child.invariant
    (subst (λ (u : Test). check_keys u ≡ []) c.child-item.is none)

pub returns-after-loop-child : goal.returns-after-loop-child
returns-after-loop-child t c =
    let all = take_all c.loop-child.child-index c.as_slice-child-items.result.now c.loop-child-test.false ∙ c.as_slice-child-items.ensures in
    let test = ap check_keys c.in-Logic.is ∙ keys-logic c.in-Logic.operator c.in-Logic.negate c.in-Logic.of in
    sym (ap (λ (ks : List CheckKey). slice_get ks 0) (test ∙ ap (flat_map check_keys) (sym all) ∙ c.loop-child.invariant))
