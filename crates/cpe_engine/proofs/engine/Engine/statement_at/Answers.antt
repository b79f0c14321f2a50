use Rattle.std.proofs.Common.{ap, ◌∙◌}
use Rattle.std.specs.Prelude.{slice_get}
use Rattle.std.specs.Option.{option_map}
use Rattle.cpe_rows.specs.Rows.{Rows}
use Rattle.cpe_rows.specs.Verdict.{verdict}
use Rattle.engine_edits.specs.Parts.{rows_in}
use Rattle.cpe_engine.proofs.engine.Engine.statement_at.Goals as goal

pub returns-clause-verdict : goal.returns-clause-verdict
returns-clause-verdict c =
    let p = c.self.inside.parts in
    c.at.ensures.verdict p.registry.table (rows_in p) c.self.invariant.are.verdicts ∙ ap (λ (rows : Rows). option_map (verdict rows) (slice_get rows.statements c.args.k)) c.self.view_is
