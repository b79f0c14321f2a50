use Rattle.std.proofs.Common.{◌≡◌, sym, ap, subst, ◌∙◌, ℕ}
use Rattle.std.specs.Prelude.{Ok, Result}
use Rattle.cpe_rows.specs.After.{after}
use Rattle.cpe_rows.specs.Changes.{changes}
use Rattle.cpe_rows.specs.Rows.{Rows}
use Rattle.cpe_rows.specs.Step.{step}
use Rattle.cpe_rows.specs.declared.edit.Edit.{Edit}
use Rattle.cpe_rows.specs.declared.fault.EditFault.{EditFault}
use Rattle.name_index.specs.step_count.Within.{StepsWithin}
use Rattle.engine_edits.specs.Looks.{made_looks, unless_refused}
use Rattle.engine_edits.specs.Parts.{rows_in}
use Rattle.engine_edits.proofs.parts.EngineParts.apply.Given.{Over}
use Rattle.engine_edits.proofs.parts.EngineParts.apply.Goals as goal
use Rattle.engine_edits.proofs.parts.EngineParts.apply.Goals.{After-make}

pub make-requires : goal.make-requires
make-requires g c = (c.args.edit, c.in-Ok.ensures.ready)

-- the step is accepted in the rows before both stages
stepped : (g : Over) (c : After-make g) → step (rows_in c.args.self.now) c.args.edit ≡ Ok (after (rows_in c.ready.new.self) c.args.edit)
stepped g c =
    let mid = rows_in c.ready.new.self in
    let is = c.in-Ok.ensures.ready in
    ap (λ (x : Rows). step x c.args.edit) (sym c.in-Ok.ensures.rows) ∙ subst (λ (d : Edit). step mid d ≡ Ok (after mid d)) is.is is.ready.accepted.accepted

pub returns-in-Ok-clause-applied : goal.returns-in-Ok-clause-applied
returns-in-Ok-clause-applied g c = stepped g (goal.at.returns-in-Ok-clause-applied g c).After-make ∙ ap Ok (sym (c.make.ensures.rows c.args.edit c.in-Ok.ensures.ready))

pub returns-in-Ok-clause-changes : goal.returns-in-Ok-clause-changes
returns-in-Ok-clause-changes g c = c.make.ensures.changes c.args.edit c.in-Ok.ensures.ready ∙ ap (λ (x : Rows). changes x c.args.edit) c.in-Ok.ensures.rows

pub returns-in-Ok-clause-steps : goal.returns-in-Ok-clause-steps
returns-in-Ok-clause-steps g c =
    let rows = rows_in c.args.self.now in
    let e = c.args.edit in
    let looks = ap (λ (x : Rows). made_looks x e) c.in-Ok.ensures.rows ∙ ap (λ (o : Result Rows EditFault). unless_refused o (made_looks rows e)) (sym (stepped g (goal.at.returns-in-Ok-clause-steps g c).After-make)) in
    subst (λ (n : ℕ). StepsWithin c.args.steps.now c.make.new.steps n) looks (c.make.ensures.steps e c.in-Ok.ensures.ready)
