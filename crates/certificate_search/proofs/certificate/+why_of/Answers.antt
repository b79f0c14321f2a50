use Rattle.std.proofs.Common.{◌≡◌, ◌∷◌, ◌++◌, ◌-◌, List, Option, Some, None, map, replicate, ap, sym, ◌∙◌}
use Rattle.std.specs.List.{position_or_len}
use Rattle.cpe_rows.specs.Evaluation.{joined, negated, test_truth}
use Rattle.cpe_rows.specs.Truth.{same_truth}
use Rattle.cpe_rows.specs.Verdict.{check_truth, fact_truth}
use Rattle.cpe_rows.specs.declared.test.Test.{Test}
use Rattle.certificate_check.specs.Certificates.{given_truths}
use Rattle.certificate_check.specs.Good.{deciding}
use Rattle.certificate_check.specs.declared.certificate.Why.{Why}
use Rattle.certificate_search.specs.Choices.{why_of}
use Rattle.certificate_search.proofs.Chosen.{all_made, none_past}
use Rattle.certificate_search.proofs.MadeGood.{none_decides, one_decides}
use Rattle.certificate_search.proofs.certificate.+why_of.Goals as goal

pub returns-in_ok-alone-in-Some : goal.returns-in_ok-alone-in-Some
returns-in_ok-alone-in-Some g t c =
    let rows = g.R.PlainRows.rows c.args.asked.now.rows.now in
    let l = c.in-Logic in
    let p = λ (x : Test). same_truth (deciding l.operator) (test_truth (fact_truth rows c.args.asked.now.mode) (check_truth rows) x) in
    let place = c.in_ok-place-in-Logic.place in
    one_decides rows c.args.asked.now.mode l.operator l.negate l.of place (c.in_ok-place-in-Logic.ensures ∙ ap (position_or_len p) c.as_slice.ensures) c.negate_if.result
    c.in_ok-alone-in-Some.field-0 c.in-Some.child.now (sym c.in-Some.ensures) (c.negate_if.ensures ∙ ap (negated l.negate) c.deciding.ensures)
    (c.in_ok-alone-in-Some.ensures ∙ (λ i. replicate place None ++ (Some (c.in_ok-why-in-Some.ensures i) ∷ replicate (c.len.ensures i - place - 1) None)))
    ∙ sym (ap (why_of rows c.args.asked.now.mode) l.is)

pub returns-after-loop-child : goal.returns-after-loop-child
returns-after-loop-child g t c =
    let rows = g.R.PlainRows.rows c.args.asked.now.rows.now in
    let made = why_of rows c.args.asked.now.mode in
    let l = c.in-Logic in
    let children : List Test = c.as_slice-child-items.result.now in
    let all : c.loop-child.given ≡ map Some (map made l.of)
    = c.loop-child.invariant
    ∙ (all_made made children c.loop-child.child-index (none_past children c.loop-child.child-index c.loop-child-test.false)
    ∙ ap (λ (ts : List Test). map Some (map made ts)) c.as_slice-child-items.ensures) in
    none_decides rows c.args.asked.now.mode l.operator l.negate l.of c.in_ok-place-in-Logic.place
    (c.in_ok-place-in-Logic.ensures ∙ ap (position_or_len (λ (x : Test). same_truth (deciding l.operator) (test_truth (fact_truth rows c.args.asked.now.mode) (check_truth rows) x))) c.as_slice.ensures)
    c.negate_if-in-None.result c.loop-child.given (sym c.in-None.ensures)
    (c.negate_if-in-None.ensures ∙ ap (negated l.negate) (c.join_all.ensures ∙ ap (λ (ws : List (Option Why)). joined l.operator (given_truths ws)) c.as_slice-in-None.ensures)) all
    ∙ sym (ap made l.is)
