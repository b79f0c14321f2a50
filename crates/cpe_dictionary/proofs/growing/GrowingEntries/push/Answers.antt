use Rattle.std.proofs.Common.{◌≡◌, ◌≤◌, ◌-◌, arith, false, length, sym, subst, ◌∙◌}
use Rattle.std.specs.Prelude.{vec_capacity}
use Rattle.std.proofs.lemmas.List.{length-map}
use Rattle.std.specs.List.{list_any}
use Rattle.name_index.specs.declared.table.NameId.{NameId}
use Rattle.name_index.specs.Table.{kept_at}
use Rattle.cpe_rows.specs.Rows.{is_named}
use Rattle.names_in_order.specs.InOrder.{names_numbered}
use Rattle.names_in_order.specs.Room.{MayPush}
use Rattle.cpe_dictionary.specs.Listed.{entries_listed, EntryList}
use Rattle.cpe_dictionary.proofs.EntryLemmas.{fresh_name}
use Rattle.cpe_dictionary.proofs.growing.GrowingEntries.push.Goals as goal

pub append_entry-requires-clause-fresh : goal.append_entry-requires-clause-fresh
append_entry-requires-clause-fresh c =
    let table = c.args.table.now in
    let name = (kept_at table c.args.id.0).name in
    let i = c.self.inside in
    let fits = subst (λ (l : EntryList). length l.names.numbers ≡ length l.details) (sym c.self.view_is) c.requires.listed.even in
    fresh_name name (names_numbered table i.names.numbers) i.details.items (length-map i.names.numbers (λ (x : NameId). (kept_at table x.0).name) ∙ fits)
    (subst (λ (l : EntryList). list_any (is_named name) (entries_listed table l) ≡ false) (sym c.self.view_is) c.requires.absent)

pub append_entry-requires-clause-room : goal.append_entry-requires-clause-room
append_entry-requires-clause-room c = subst (λ (l : EntryList). MayPush c.args.table.now l.names c.args.id.0) (sym c.self.view_is) c.requires.room.names

pub append_entry-requires-clause-spare : goal.append_entry-requires-clause-spare
append_entry-requires-clause-spare c =
    let all = c.self.inside.details in
    let spare : 1 ≤ vec_capacity all - length all.items = subst (λ (l : EntryList). 1 ≤ l.spare) (sym c.self.view_is) c.requires.room.spare in
    omega (arith, spare)
