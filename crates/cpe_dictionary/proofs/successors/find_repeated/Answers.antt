use Rattle.std.proofs.Common.{◌≡◌, ◌+◌, ℕ, eqb, true, false, get_or, take, drop, sym, ap, subst, ◌∙◌}
use Rattle.cpe_rows.specs.Faults.{repeated_from}
use Rattle.std.specs.List.{list_any}
use Rattle.cpe_dictionary.proofs.SeenLemmas.{repeated_here, repeated_behind}
use Rattle.cpe_dictionary.proofs.successors.find_repeated.Goals as goal

pub returns-then-contains : goal.returns-then-contains
returns-then-contains c =
    let same = c.loop-number.invariant.place in
    let found = sym c.contains.ensures.value ∙ c.if-contains.true in
    sym (
    c.loop-number.invariant.rest
    ∙ ap (λ (p : ℕ). repeated_from eqb (take p c.args.numbers.now) (c.loop-number.place + 1) (drop c.loop-number.number-index c.args.numbers.now)) same
    ∙ repeated_here c.args.numbers.now c.loop-number.number-index 0 c.loop-number-test.true (c.loop-number.place + 1)
    (subst (λ (p : ℕ). list_any (λ y. eqb y (get_or c.args.numbers.now c.loop-number.number-index 0)) (take p c.args.numbers.now) ≡ true) same found))

pub loop-number-preserved : goal.loop-number-preserved
loop-number-preserved c =
    let xs = c.args.numbers.now in
    let i = c.loop-number.number-index in
    let same = c.loop-number.invariant.place in
    let absent = sym c.contains.ensures.value ∙ c.if-contains.false in
    let behind = repeated_behind xs i 0 c.loop-number-test.true (c.loop-number.place + 1) (subst (λ (p : ℕ). list_any (λ y. eqb y (get_or xs i 0)) (take p xs) ≡ false) same absent) in
    record {
      place = ap (λ (p : ℕ). p + 1) same;
      rest = c.loop-number.invariant.rest ∙ ap (λ (p : ℕ). repeated_from eqb (take p xs) (c.loop-number.place + 1) (drop i xs)) same ∙ behind ∙ ap (λ (p : ℕ). repeated_from eqb (take (p + 1) xs) (c.loop-number.place + 1 + 1) (drop (i + 1) xs)) (sym same);
    }
