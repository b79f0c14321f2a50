use Rattle.std.proofs.Common.{◌≡◌, ◌∙◌, length, position, sym, ap, subst}
use Rattle.std.proofs.lemmas.List.{length-map}
use Rattle.cpe_rows.specs.Rows.{is_named}
use Rattle.name_index.specs.declared.table.NameId.{NameId}
use Rattle.name_index.specs.Table.{kept_at}
use Rattle.names_in_order.specs.InOrder.{names_numbered}
use Rattle.cpe_dictionary.specs.Listed.{entries_listed, EntryList}
use Rattle.cpe_dictionary.proofs.EntryLemmas.{place_by_name}
use Rattle.cpe_dictionary.proofs.growing.GrowingEntries.place_of.Goals as goal

pub returns : goal.returns
returns c =
    let table = c.args.table.now in
    let n = (kept_at table c.args.id.0).name in
    let i = c.self.inside in
    let even = length-map i.names.numbers (λ (x : NameId). (kept_at table x.0).name) ∙ subst (λ (l : EntryList). length l.names.numbers ≡ length l.details) (sym c.self.view_is) c.requires.listed.even in
    c.place_of.ensures ∙ place_by_name n (names_numbered table i.names.numbers) i.details.items even ∙ ap (λ (l : EntryList). position (is_named n) (entries_listed table l)) c.self.view_is
