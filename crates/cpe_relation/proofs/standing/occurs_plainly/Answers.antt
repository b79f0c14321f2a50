use Rattle.std.proofs.Common.{arith, refl}
use Rattle.cpe_relation.proofs.Ranges.{or_last}
use Rattle.cpe_relation.proofs.standing.occurs_plainly.Goals as goal

pub returns-then-occurs_at : goal.returns-then-occurs_at
returns-then-occurs_at c = (
  λ e. record { place = c.loop-place.place; above = omega (arith, c.loop-place.auto.place); below = omega (arith, c.loop-place-test.true); present = c.occurs_at.ensures.0 c.if-occurs_at.true },
  λ w. refl,
)

pub returns : goal.returns
returns c = (
  λ e. record { place = c.args.high; above = c.requires.order; below = omega arith; present = c.occurs_at-2.ensures.0 e },
  λ w. c.occurs_at-2.ensures.1 (or_last c.args.text.now c.args.body.now c.args.low c.args.high (λ k a b. c.loop-place.invariant k a (omega (arith, c.loop-place-test.false))) w),
)
