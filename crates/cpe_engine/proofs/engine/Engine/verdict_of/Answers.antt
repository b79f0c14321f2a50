use Rattle.std.proofs.Common.{ap, ◌∙◌}
use Rattle.std.specs.Prelude.{find, Option}
use Rattle.std.specs.Option.{option_map}
use Rattle.cpe_rows.specs.Rows.{has_id, Rows}
use Rattle.cpe_rows.specs.Verdict.{verdict}
use Rattle.cpe_rows.specs.declared.reply.Reply.TheVariants as reply
use Rattle.cpe_rows.specs.declared.truth.Truth.{Truth}
use Rattle.engine_edits.specs.Parts.{rows_in}
use Rattle.cpe_engine.proofs.engine.Engine.verdict_of.Goals as goal

pub returns : goal.returns
returns c =
    let p = c.self.inside.parts in
    let truth = c.verdict-truth.ensures p.registry.table (rows_in p) c.self.invariant.are.verdicts ∙ ap (λ (rows : Rows). option_map (verdict rows) (find (has_id c.args.id) rows.statements)) c.self.view_is in
    ap (λ (t : Option Truth). reply.Verdict c.args.id t) truth
