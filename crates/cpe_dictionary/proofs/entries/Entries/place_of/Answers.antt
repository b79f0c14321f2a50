use Rattle.std.proofs.Common.{position, ap, ◌∙◌}
use Rattle.cpe_rows.specs.Rows.{is_named}
use Rattle.cpe_dictionary.proofs.EntryLemmas.{place_by_name}
use Rattle.cpe_dictionary.proofs.entries.Entries.place_of.Goals as goal

pub returns : goal.returns
returns c = c.find.ensures ∙ place_by_name c.args.name.now c.self.inside.names c.self.inside.details.now c.self.invariant ∙ ap (position (is_named c.args.name.now)) c.self.view_is
