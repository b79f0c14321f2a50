use Rattle.std.proofs.Common.{◌+◌, false, true, refl, ap, sym, ◌∙◌}
use Rattle.std.specs.Option.{option_copied}
use Rattle.certificate_check.specs.Tested.{is_settled, test_passes}
use Rattle.certificate_check.proofs.Children.{all_said, as_many, at_children, not_as_many, one_said}
use Rattle.certificate_check.proofs.check.+passes.Goals as goal

pub returns-then-len : goal.returns-then-len
returns-then-len g t c =
    let rows = g.R.PlainRows.rows c.args.rows.now in
    let l = c.in-Logic in
    let w = c.in-Logic-why in
    at_children rows c.args.mode c.args.test.now c.args.why c.in-Some.why l.operator l.negate l.of l.of w.truth w.given false l.is c.in-Some.is w.is refl
    (not_as_many (test_passes rows c.args.mode) l.of w.given (λ e. c.if-len.true (c.len.ensures ∙ (e ∙ sym c.len-in-Logic.ensures))))

pub returns-then-not-branch : goal.returns-then-not-branch
returns-then-not-branch g t c =
    let l = c.in-Logic in
    let w = c.in-Logic-why in
    let so_far = c.loop-child in
    at_children (g.R.PlainRows.rows c.args.rows.now) c.args.mode c.args.test.now c.args.why c.in-Some.why l.operator l.negate l.of c.as_slice-child-items.result.now w.truth w.given false
    l.is c.in-Some.is w.is c.as_slice-child-items.ensures
    (one_said (test_passes (g.R.PlainRows.rows c.args.rows.now) c.args.mode) c.as_slice-child-items.result.now w.given so_far.child-index so_far.k so_far.invariant.place so_far.invariant.left
    (as_many w.given c.as_slice-child-items.ensures c.len.ensures c.if-len.false c.len-in-Logic.ensures) c.as_slice.result.now c.child-item.result (option_copied c.given_at.result) c.in_ok-passes-in-Logic.field-0 false
    c.loop-child-test.true c.child-item.is c.as_slice.ensures c.given_at.ensures c.in_ok-passes-in-Logic.ensures c.if-not-branch.true)

pub loop-child-preserved : goal.loop-child-preserved
loop-child-preserved g t c =
    let so_far = c.loop-child in
    let step = one_said (test_passes (g.R.PlainRows.rows c.args.rows.now) c.args.mode) c.as_slice-child-items.result.now c.in-Logic-why.given so_far.child-index so_far.k so_far.invariant.place so_far.invariant.left
    (as_many c.in-Logic-why.given c.as_slice-child-items.ensures c.len.ensures c.if-len.false c.len-in-Logic.ensures) c.as_slice.result.now c.child-item.result (option_copied c.given_at.result) c.in_ok-passes-in-Logic.field-0 true
    c.loop-child-test.true c.child-item.is c.as_slice.ensures c.given_at.ensures c.in_ok-passes-in-Logic.ensures c.if-not-branch.false in
    record { place = ap (λ n. n + 1) so_far.invariant.place; left = sym step }

pub returns-after-loop-child : goal.returns-after-loop-child
returns-after-loop-child g t c =
    let rows = g.R.PlainRows.rows c.args.rows.now in
    let l = c.in-Logic in
    let w = c.in-Logic-why in
    let children = c.as_slice-child-items in
    let so_far = c.loop-child in
    c.is_settled.ensures
    ∙ (ap (is_settled l.operator l.negate w.truth) c.as_slice-in-Logic.ensures
    ∙ at_children rows c.args.mode c.args.test.now c.args.why c.in-Some.why l.operator l.negate l.of children.result.now w.truth w.given true l.is c.in-Some.is w.is children.ensures
    (all_said (test_passes rows c.args.mode) children.result.now w.given so_far.child-index so_far.k so_far.invariant.place so_far.invariant.left
    (as_many w.given children.ensures c.len.ensures c.if-len.false c.len-in-Logic.ensures) c.loop-child-test.false))
