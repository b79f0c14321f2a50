use Rattle.std.proofs.Common.{ap, ◌∙◌}
use Rattle.std.specs.Option.{is_some}
use Rattle.cpe_rows.specs.cpe_name.Equal.{same_name}
use Rattle.cpe_rows.proofs.Lists.{has_place}
use Rattle.cover_lines.proofs.shapes.has.Goals as goal

pub returns : goal.returns
returns c = c.is_some-is_there.ensures ∙ ap is_some c.find.ensures ∙ has_place (same_name c.args.name) c.args.names.now
