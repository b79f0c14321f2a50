use Rattle.std.proofs.Common.{ap, ◌∙◌}
use Rattle.std.specs.Prelude.{is_some}
use Rattle.cpe_rows.specs.Rows.{has_id}
use Rattle.engine_edits.specs.Parts.{rows_in}
use Rattle.engine_edits.proofs.PartsLemmas.{some_copied, some_found}
use Rattle.engine_edits.proofs.parts.EngineParts.has_statement.Goals as goal

pub returns : goal.returns
returns c = c.is_some.ensures ∙ some_copied c.find.result ∙ ap is_some c.find.ensures ∙ some_found (has_id c.args.id.now) (rows_in c.args.self.now).statements
