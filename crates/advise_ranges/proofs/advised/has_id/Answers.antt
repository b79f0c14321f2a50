use Rattle.std.proofs.Common.{◌∙◌}
use Rattle.advise_ranges.proofs.KeptLemmas.{there_by_id}
use Rattle.advise_ranges.proofs.advised.has_id.Goals as goal

pub returns : goal.returns
returns c = c.contains_key.ensures ∙ there_by_id c.args.id.now c.args.by_id.now.entries
