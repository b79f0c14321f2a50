use Rattle.std.proofs.Common.{ap}
use Rattle.cpe_rows.specs.Rows.{Rows}
use Rattle.cpe_rows.proofs.DeprecationChanges.{leaves, same_ends_after, same_facts}
use Rattle.cpe_rows.specs.declared.statement.Mode.TheVariants.{Plain}
use Rattle.std.proofs.Common.{refl}
use Rattle.cpe_rows.proofs.touching.deprecations_touch.Goals as goal

pub returns-clause-ends : goal.returns-clause-ends
returns-clause-ends c = same_ends_after

pub returns-clause-items : goal.returns-clause-items
returns-clause-items c rows e n h = ap (λ (r : Rows). r.items) (leaves rows e n h).left

pub returns-clause-checks : goal.returns-clause-checks
returns-clause-checks c rows e n h = ap (λ (r : Rows). r.checks) (leaves rows e n h).left

pub returns-clause-statements : goal.returns-clause-statements
returns-clause-statements c rows e n h = ap (λ (r : Rows). r.statements) (leaves rows e n h).left

pub returns-clause-plain : goal.returns-clause-plain
returns-clause-plain c rows e n fact h = same_facts rows e n fact Plain h refl

pub returns-clause-facts : goal.returns-clause-facts
returns-clause-facts c rows e n fact mode h = same_facts rows e n fact mode h
