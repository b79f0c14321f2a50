use Rattle.std.proofs.Common.{is_some, ap, ◌∙◌}
use Rattle.std.specs.List.{list_any}
use Rattle.cpe_rows.specs.Rows.{is_named}
use Rattle.cpe_dictionary.specs.Listed.{entries_of}
use Rattle.cpe_dictionary.proofs.EntryLemmas.{place_by_name, there_by_name}
use Rattle.cpe_dictionary.proofs.entries.Entries.has.Goals as goal

pub returns : goal.returns
returns c =
    let n = c.args.name.now in
    let i = c.self.inside in
    c.is_some.ensures
    ∙ ap is_some (c.find.ensures ∙ place_by_name n i.names i.details.now c.self.invariant)
    ∙ there_by_name n (entries_of i.names i.details.now)
    ∙ ap (list_any (is_named n)) c.self.view_is
