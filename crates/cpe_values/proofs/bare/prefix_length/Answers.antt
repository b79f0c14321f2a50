use Rattle.std.proofs.Common.{take, leb, ap, ◌∙◌}
use Rattle.std.specs.List.{prefix_len}
use Rattle.cpe_values.proofs.LaneLemmas.{prefix_len-lanes_where}
use Rattle.cpe_values.proofs.bare.prefix_length.Goals as goal

pub returns : goal.returns
returns g c = c.first_unset.ensures ∙ ap (prefix_len (leb 128)) c.lanes.ensures ∙ prefix_len-lanes_where g.C.Class.contains (take 16 c.args.bytes.now)
