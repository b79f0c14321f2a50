use Rattle.std.proofs.Common.{◌≡◌, IfSome, subst}
use Rattle.cpe_rows.specs.Rows.{Rows}
use Rattle.cpe_rows.specs.Verdict.{fact_truth}
use Rattle.engine_edits.specs.Parts.{rows_in}
use Rattle.cpe_engine.proofs.engine.Engine.stored_truth.Goals as goal

pub returns : goal.returns
returns c =
    let p = c.self.inside.parts in
    subst (λ (rows : Rows). IfSome c.kept_truth.result (λ truth. truth ≡ fact_truth rows c.args.mode c.args.name.now)) c.self.view_is
    (c.kept_truth.ensures (rows_in p) c.self.invariant.are.verdicts)
