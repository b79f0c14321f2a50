use Rattle.std.proofs.Common.{List, position, ap, ◌∙◌}
use Rattle.std.specs.Option.{is_some}
use Rattle.cpe_rows.specs.cpe_name.Eleven.{Values}
use Rattle.cpe_rows.specs.cpe_name.Equal.{same_name}
use Rattle.cpe_rows.proofs.Lists.{has_place}
use Rattle.cover_lines.proofs.names.has.Goals as goal

pub returns : goal.returns
returns c =
    let name = c.args.name.now in
    c.is_some.ensures ∙ ap is_some c.find.ensures ∙ ap (λ (ns : List Values). is_some (position (same_name name) ns)) c.all.ensures ∙ has_place (same_name name) c.args.names.now
