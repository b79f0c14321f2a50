use Rattle.std.proofs.Common.{find, option_map, sym, ap, ◌∙◌}
use Rattle.cpe_rows.specs.Rows.{is_named}
use Rattle.cpe_dictionary.proofs.EntryLemmas.{behind_reference, none_named, one_named, with_name}
use Rattle.cpe_dictionary.proofs.entries.Entries.find.Goals as goal

pub returns-in-Some : goal.returns-in-Some
returns-in-Some c =
    let n = c.args.name.now in
    let i = c.self.inside in
    behind_reference (λ d. d.now) n c.details_at.result
    ∙ ap (option_map (with_name n)) c.details_at.ensures
    ∙ one_named n i.names i.details.now c.in-Some.place c.self.invariant (sym c.in-Some.ensures)
    ∙ ap (find (is_named n)) c.self.view_is

pub returns-in-None : goal.returns-in-None
returns-in-None c =
    let n = c.args.name.now in
    let i = c.self.inside in
    sym (none_named n i.names i.details.now c.self.invariant (sym c.in-None.ensures)) ∙ ap (find (is_named n)) c.self.view_is
