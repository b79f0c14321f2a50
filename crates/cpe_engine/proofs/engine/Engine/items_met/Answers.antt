use Rattle.std.proofs.Common.{ℕ, refl, subst}
use Rattle.name_index.specs.step_count.Within.{StepsWithin}
use Rattle.name_index.specs.declared.products.Side.TheVariants as side
use Rattle.cpe_rows.specs.Rows.{Rows}
use Rattle.engine_edits.specs.Parts.{rows_in}
use Rattle.engine_edits.specs.fact_laws.Shown.{near_names}
use Rattle.cpe_engine.proofs.engine.Engine.items_met.Goals as goal

pub returns-in-Ok-clause-steps : goal.returns-in-Ok-clause-steps
returns-in-Ok-clause-steps g c =
    let p = c.self.inside.parts in
    subst (λ (rows : Rows). StepsWithin c.args.steps.now c.items_met.new.steps (near_names side.Source c.args.name.product rows.items)) c.self.view_is
    (c.items_met.ensures.steps (rows_in p) (record { lawful = c.self.invariant.lawful; verdicts = c.self.invariant.are.verdicts; entries = refl; items = refl }))

pub returns-in-Err-clause-steps : goal.returns-in-Err-clause-steps
returns-in-Err-clause-steps g c =
    let p = c.self.inside.parts in
    subst (λ (rows : Rows). StepsWithin c.args.steps.now c.items_met.new.steps (near_names side.Source c.args.name.product rows.items)) c.self.view_is
    (c.items_met.ensures.steps (rows_in p) (record { lawful = c.self.invariant.lawful; verdicts = c.self.invariant.are.verdicts; entries = refl; items = refl }))
