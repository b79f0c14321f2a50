use Rattle.std.proofs.Common.{List, option_map, slice_get, sym, ap, ◌∙◌}
use Rattle.cpe_rows.specs.declared.entry.Entry.{Entry}
use Rattle.cpe_dictionary.proofs.EntryLemmas.{behind_reference, beside_place, none_there, with_name}
use Rattle.cpe_dictionary.proofs.entries.Entries.get_index.Goals as goal

pub returns-in-Some : goal.returns-in-Some
returns-in-Some c =
    let n = c.in-Some.name.now in
    let i = c.self.inside in
    let k = c.args.place in
    record {
      entry =
          c.beside.ensures
          ∙ behind_reference (λ d. d.now) n c.details_at.result
          ∙ ap (option_map (with_name n)) c.details_at.ensures
          ∙ beside_place i.names i.details.now k n (sym c.in-Some.ensures)
          ∙ ap (λ (es : List Entry). slice_get es k) c.self.view_is;
    }

pub returns-in-None : goal.returns-in-None
returns-in-None c =
    let i = c.self.inside in
    let k = c.args.place in
    record { entry = sym (none_there i.names i.details.now k (sym c.in-None.ensures)) ∙ ap (λ (es : List Entry). slice_get es k) c.self.view_is }
