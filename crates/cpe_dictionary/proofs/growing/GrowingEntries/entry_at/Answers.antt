use Rattle.std.proofs.Common.{◌≡◌, ◌∙◌, List, Some, None, option_map, slice_get, sym, ap, subst}
use Rattle.std.proofs.lemmas.Option.{slice_get-map}
use Rattle.name_index.specs.declared.table.NameId.{NameId}
use Rattle.name_index.specs.Table.{kept_at}
use Rattle.names_in_order.specs.InOrder.{names_numbered}
use Rattle.cpe_dictionary.specs.Listed.{entries_listed, EntryList}
use Rattle.cpe_dictionary.specs.declared.kept.EntryDetails.{EntryDetails}
use Rattle.cpe_dictionary.proofs.EntryLemmas.{behind_reference, beside_place, none_there, with_name}
use Rattle.cpe_dictionary.proofs.growing.GrowingEntries.entry_at.Goals as goal

pub name-requires : goal.name-requires
name-requires c =
    let at = sym c.in-Some.ensures in
    c.requires.order.live c.args.k c.in-Some.id (subst (λ (l : EntryList). slice_get l.names.numbers c.args.k ≡ Some c.in-Some.id) c.self.view_is at)

pub returns-in-Some : goal.returns-in-Some
returns-in-Some c =
    let table = c.args.table.now in
    let i = c.self.inside in
    let k = c.args.k in
    let id = c.in-Some.id in
    let name = λ (x : NameId). (kept_at table x.0).name in
    let at : slice_get (names_numbered table i.names.numbers) k ≡ Some (name id) = slice_get-map name i.names.numbers k ∙ ap (option_map name) (sym c.in-Some.ensures) in
    let present = c.details_at.ensures ∙ ap (λ (ds : List EntryDetails). slice_get ds k) c.deref.ensures.value in
    c.lent.ensures
    ∙ behind_reference (λ d. d.now) c.name.result.now c.details_at.result
    ∙ (λ j. option_map (with_name (c.name.ensures j)) (present j))
    ∙ beside_place (names_numbered table i.names.numbers) i.details.items k (name id) at
    ∙ ap (λ (l : EntryList). slice_get (entries_listed table l) k) c.self.view_is

pub returns-in-None : goal.returns-in-None
returns-in-None c =
    let table = c.args.table.now in
    let i = c.self.inside in
    let k = c.args.k in
    let name = λ (x : NameId). (kept_at table x.0).name in
    let at : slice_get (names_numbered table i.names.numbers) k ≡ None = slice_get-map name i.names.numbers k ∙ ap (option_map name) (sym c.in-None.ensures) in
    sym (none_there (names_numbered table i.names.numbers) i.details.items k at) ∙ ap (λ (l : EntryList). slice_get (entries_listed table l) k) c.self.view_is
