use Rattle.std.proofs.Common.{Option, map, subst, sym}
use Rattle.snapshot_bytes.specs.States.{IsMeantDeprecation}
use Rattle.snapshot_bytes.specs.declared.rows.PlacedDeprecation.{PlacedDeprecation}
use Rattle.engine_snapshot.specs.Meant.{undeprecated}
use Rattle.engine_snapshot.proofs.EditLemmas.{handed_on}
use Rattle.engine_snapshot.proofs.MeantLemmas.{next_meant, none_meant}
use Rattle.engine_snapshot.proofs.meant.deprecations_of.Goals as goal

pub returns-in_err-deprecation-clause-refused : goal.returns-in_err-deprecation-clause-refused
returns-in_err-deprecation-clause-refused c =
    let all = map undeprecated c.args.engine.now.entries in
    handed_on c.from_residual-in_err-deprecation.result c.in_err-deprecation.field-0.0 _ c.from_residual-in_err-deprecation.ensures.1
    (λ is ds are. none_meant all c.args.all.now c.loop-placed.placed-index c.placed-item.result ds c.loop-placed-test.true
    (λ d meant. c.in_err-deprecation.ensures.refused is d (subst (λ (o : Option PlacedDeprecation). IsMeantDeprecation all o d) (sym c.placed-item.is) meant)) are)

pub loop-placed-preserved : goal.loop-placed-preserved
loop-placed-preserved c =
    let all = map undeprecated c.args.engine.now.entries in
    let d = c.in_ok-deprecation.deprecation in
    rw c.in_ok-push.ensures.ok (next_meant all c.args.all.now c.loop-placed.placed-index c.placed-item.result c.loop-placed.deprecations d c.loop-placed-test.true c.loop-placed.invariant
    (subst (λ (o : Option PlacedDeprecation). IsMeantDeprecation all o d) c.placed-item.is c.in_ok-deprecation.ensures.meant))
