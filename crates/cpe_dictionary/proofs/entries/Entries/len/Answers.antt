use Rattle.std.proofs.Common.{length, ap, ◌∙◌}
use Rattle.cpe_dictionary.proofs.EntryLemmas.{count_is}
use Rattle.cpe_dictionary.proofs.entries.Entries.len.Goals as goal

pub returns : goal.returns
returns c = c.len.ensures ∙ count_is c.self.inside.names c.self.inside.details.now c.self.invariant ∙ ap length c.self.view_is
