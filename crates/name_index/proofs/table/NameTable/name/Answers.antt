use Rattle.std.proofs.Common.{◌≡◌, Option, Some, sym, ap, subst, ◌∙◌}
use Rattle.std.specs.List.{slice_get}
use Rattle.std.specs.Option.{option_copied}
use Rattle.std.proofs.lemmas.Option.{none-some, same_Some, slice_get-get_or}
use Rattle.cpe_name.specs.Names.{any_values}
use Rattle.name_index.specs.declared.table.NameRow.{NameRow}
use Rattle.name_index.specs.Table.{Names, Kept, kept_or, kept_at, IsLive}
use Rattle.name_index.specs.Rows.{product_row_at, name_in_place}
use Rattle.name_index.proofs.Names.{place_inside}
use Rattle.name_index.proofs.Freed.{live_there}
use Rattle.name_index.proofs.table.NameTable.name.Goals as goal

pub unreachable-requires : goal.unreachable-requires
unreachable-requires c =
    let i = c.self.inside in
    let l = live_there i.names.keys i.rows.items c.args.id.0 (subst (λ (names : Names). IsLive names c.args.id.0) (sym c.self.view_is) c.requires) in
    let p = (product_row_at i.rows.items c.args.id.0).place in
    let inside = place_inside i.names.keys i.rows.items i.numbers.items i.products c.self.invariant.0 c.args.id.0 l.known l.held in
    let there : slice_get i.names.keys c.row_of-row.result.place ≡ Some (name_in_place i.names.keys p) = ap (λ (r : NameRow). slice_get i.names.keys r.place) c.row_of-row.ensures ∙ slice_get-get_or i.names.keys p any_values inside in
    none-some (name_in_place i.names.keys p) (sym (ap option_copied c.in-None.is) ∙ c.get_index.ensures.key ∙ there)

pub returns : goal.returns
returns c =
    let i = c.self.inside in
    let l = live_there i.names.keys i.rows.items c.args.id.0 (subst (λ (names : Names). IsLive names c.args.id.0) (sym c.self.view_is) c.requires) in
    let p = (product_row_at i.rows.items c.args.id.0).place in
    let inside = place_inside i.names.keys i.rows.items i.numbers.items i.products c.self.invariant.0 c.args.id.0 l.known l.held in
    let there : slice_get i.names.keys c.row_of-row.result.place ≡ Some (name_in_place i.names.keys p) = ap (λ (r : NameRow). slice_get i.names.keys r.place) c.row_of-row.ensures ∙ slice_get-get_or i.names.keys p any_values inside in
    same_Some c.in-Some.name.now (name_in_place i.names.keys p) (sym (ap option_copied c.in-Some.is) ∙ c.get_index.ensures.key ∙ there)
    ∙ sym (ap (λ (o : Option Kept). (kept_or o).name) l.is) ∙ ap (λ (names : Names). (kept_at names c.args.id.0).name) c.self.view_is
