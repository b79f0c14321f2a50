use Rattle.std.proofs.Common.{List, ap, subst, sym, ◌∙◌, take_all}
use Rattle.std.specs.List.{AllByRecursion, flat_map}
use Rattle.cpe_rows.specs.declared.test.CheckKey.{CheckKey}
use Rattle.cpe_rows.specs.declared.test.Test.{Test}
use Rattle.snapshot_bytes.specs.States.{IsTextKey, keys_of}
use Rattle.snapshot_bytes.proofs.TextLemmas.{keys_check, keys_fact, keys_logic, keys_next}
use Rattle.engine_snapshot.proofs.texts.+are_test_texts.Goals as goal

abbrev Said : Test → Type 0
Said t = AllByRecursion IsTextKey (keys_of t)

pub loop-child-preserved : goal.loop-child-preserved
loop-child-preserved t c =
    keys_next c.as_slice-child-items.result.now c.loop-child.child-index c.child-item.result c.loop-child-test.true c.loop-child.invariant
    (subst Said c.child-item.is c.are_test_texts.ensures)

pub returns-after-loop-child : goal.returns-after-loop-child
returns-after-loop-child t c =
    let of = c.as_slice-child-items.result.now in
    let all = subst (λ (ts : List Test). AllByRecursion IsTextKey (flat_map keys_of ts)) (take_all c.loop-child.child-index of c.loop-child-test.false) c.loop-child.invariant in
    let keys = ap keys_of c.in-Logic.is ∙ (keys_logic c.in-Logic.operator c.in-Logic.negate c.in-Logic.of ∙ ap (flat_map keys_of) (sym c.as_slice-child-items.ensures)) in
    subst (λ (ks : List CheckKey). AllByRecursion IsTextKey ks) (sym keys) all

pub returns-in-Fact : goal.returns-in-Fact
returns-in-Fact t c = subst (AllByRecursion IsTextKey) (sym (ap keys_of c.in-Fact.is ∙ keys_fact _)) tt

pub returns-in-Check : goal.returns-in-Check
returns-in-Check t c = subst (AllByRecursion IsTextKey) (sym (ap keys_of c.in-Check.is ∙ keys_check c.in-Check.key)) (c.are_key_texts.ensures, tt)
