use Rattle.std.proofs.Common.{◌≡◌, ◌++◌, ◌∙◌, ap, sym, subst, take_all, IfOk}
use Rattle.std.specs.List.{flat_map}
use Rattle.snapshot_bytes.specs.Parts.{name}
use Rattle.snapshot_bytes.specs.Snapshot.{test_part}
use Rattle.snapshot_bytes.proofs.WriteLemmas.{logic_put, fact_put, check_put}
use Rattle.snapshot_bytes.proofs.write.+push_test.Goals as goal

pub returns-after-loop-child : goal.returns-after-loop-child
returns-after-loop-child t c =
    let of = c.in-Logic.of in
    let all = take_all c.loop-child.child-index c.as_slice-child-items.result.now c.loop-child-test.false in
    c.loop-child.invariant ∙ ap (λ ts. c.in_ok-out-in-Logic.out.items ++ flat_map test_part ts) (all ∙ c.as_slice-child-items.ensures)
    ∙ logic_put c.in-Logic.operator c.in-Logic.negate of c.args.bytes.items c.in_ok-out-in-Logic.out.items (rw (← c.len.ensures) c.in_ok-out-in-Logic.ensures)
    ∙ ap (λ u. c.args.bytes.items ++ test_part u) (sym c.in-Logic.is)

pub returns-in_ok-push_byte-in-Fact : goal.returns-in_ok-push_byte-in-Fact
returns-in_ok-push_byte-in-Fact t c =
    subst (λ s. IfOk c.push_name.result (λ b. b.items ≡ s))
    (ap (λ n. c.in_ok-push_byte-in-Fact.field-0.items ++ name n) c.as_name.ensures
    ∙ fact_put c.in-Fact.name c.args.bytes.items c.in_ok-push_byte-in-Fact.field-0.items c.in_ok-push_byte-in-Fact.ensures
    ∙ ap (λ u. c.args.bytes.items ++ test_part u) (sym c.in-Fact.is))
    c.push_name.ensures

pub returns-in_ok-push_byte-in-Check : goal.returns-in_ok-push_byte-in-Check
returns-in_ok-push_byte-in-Check t c =
    subst (λ s. IfOk c.push_key.result (λ b. b.items ≡ s))
    (check_put c.in-Check.key c.args.bytes.items c.in_ok-push_byte-in-Check.field-0.items c.in_ok-push_byte-in-Check.ensures
    ∙ ap (λ u. c.args.bytes.items ++ test_part u) (sym c.in-Check.is))
    c.push_key.ensures
