use Rattle.std.proofs.Common.{◌<◌, ℕ, List, length, refl, sym, ap, subst, ◌∙◌, arith}
use Rattle.std.specs.Prelude.{Option, IsSome}
use Rattle.std.proofs.lemmas.Bool.{both_ways}
use Rattle.cpe_name.specs.Eleven.{Values}
use Rattle.cpe_name.specs.Lower.{IsLower}
use Rattle.name_index.specs.Listed.{ProductList, product_at}
use Rattle.name_index.specs.Table.{Names, Kept, kept_at, kept_or, IsLive, HasName, HoldsName}
use Rattle.name_index.specs.Rows.{table_of_rows, HasProductNumber}
use Rattle.name_index.proofs.Names.{has_name, name_found}
use Rattle.name_index.proofs.Inserted.{as_before, is_found, is_put_last, on_err}
use Rattle.name_index.proofs.Counts.{held_more, few_counts, one_more_name, given_more, same_counts}
use Rattle.name_index.proofs.TableChanges.{same_rows, same_view, held_rows, held_names}
use Rattle.name_index.proofs.table.NameTable.hold_moved.Goals as goal

pub returns-in_err-place-clause-new : goal.returns-in_err-place-clause-new
returns-in_err-place-clause-new c =
    let i = c.self.inside in
    on_err c.from_residual.result
    (λ (id : ℕ) (has : HasName c.args.self.now id c.args.name). both_ways _ c.in_err-place.ensures.absent (name_found i.names.keys i.rows.items i.numbers.items i.products c.self.invariant.0 id c.args.name (subst (λ (names : Names). HasName names id c.args.name) (sym c.self.view_is) has)))

pub number_of-requires : goal.number_of-requires
number_of-requires c =
    let i = c.self.inside in
    let f = is_found i.names.keys c.args.name c.insert_name.new.names.keys c.in_ok-place.place c.in_ok-place.is_new c.in_ok-place.ensures.new c.in_ok-place.ensures.keys c.in_ok-place.ensures.place c.if-not-is_new.true in
    omega (arith, f.at.inside, c.self.invariant.0.within, c.self.invariant.0.paired)

pub hold_again-requires-clause-live : goal.hold_again-requires-clause-live
hold_again-requires-clause-live c =
    let i = c.self.inside in
    let n = c.number_of.result in
    let f = is_found i.names.keys c.args.name c.insert_name.new.names.keys c.in_ok-place.place c.in_ok-place.is_new c.in_ok-place.ensures.new c.in_ok-place.ensures.keys c.in_ok-place.ensures.place c.if-not-is_new.true in
    let has = subst (λ (k : ℕ). HasName (table_of_rows i.names.keys i.rows.items) k c.args.name) (sym c.number_of.ensures) (has_name i.names.keys i.rows.items i.numbers.items i.products c.self.invariant.0 c.args.name c.in_ok-place.place f.at) in
    subst (λ (names : List Values). IsLive (table_of_rows names i.rows.items) n) (sym f.keys) (subst IsSome (sym has.1) refl)

pub hold_again-requires-clause-few : goal.hold_again-requires-clause-few
hold_again-requires-clause-few c =
    let i = c.self.inside in
    let n = c.number_of.result in
    let f = is_found i.names.keys c.args.name c.insert_name.new.names.keys c.in_ok-place.place c.in_ok-place.is_new c.in_ok-place.ensures.new c.in_ok-place.ensures.keys c.in_ok-place.ensures.place c.if-not-is_new.true in
    let has = subst (λ (k : ℕ). HasName (table_of_rows i.names.keys i.rows.items) k c.args.name) (sym c.number_of.ensures) (has_name i.names.keys i.rows.items i.numbers.items i.products c.self.invariant.0 c.args.name c.in_ok-place.place f.at) in
    let few = c.requires.few n (subst (λ (names : Names). HasName names n c.args.name) c.self.view_is has) in
    subst (λ (names : List Values). (kept_at (table_of_rows names i.rows.items) n).holds < 4294967295) (sym f.keys) (subst (λ (names : Names). (kept_at names n).holds < 4294967295) (sym c.self.view_is) few)

pub returns-then-not-is_new-clause-held : goal.returns-then-not-is_new-clause-held
returns-then-not-is_new-clause-held c =
    let i = c.self.inside in
    let n = c.number_of.result in
    let f = is_found i.names.keys c.args.name c.insert_name.new.names.keys c.in_ok-place.place c.in_ok-place.is_new c.in_ok-place.ensures.new c.in_ok-place.ensures.keys c.in_ok-place.ensures.place c.if-not-is_new.true in
    let has = subst (λ (k : ℕ). HasName (table_of_rows i.names.keys i.rows.items) k c.args.name) (sym c.number_of.ensures) (has_name i.names.keys i.rows.items i.numbers.items i.products c.self.invariant.0 c.args.name c.in_ok-place.place f.at) in
    let held = subst (λ (names : List Values). HoldsName (table_of_rows names i.rows.items) c.hold_again.new.self n (kept_at (table_of_rows names i.rows.items) n).name) f.keys c.hold_again.ensures in
    let its_name = ap (λ (o : Option Kept). (kept_or o).name) has.1 ∙ has.2 in
    subst (λ (old : Names). HoldsName old c.hold_again.new.self n c.args.name) c.self.view_is (subst (λ (name : Values). HoldsName (table_of_rows i.names.keys i.rows.items) c.hold_again.new.self n name) its_name held)

pub make_room-given-requires-clause-place : goal.make_room-given-requires-clause-place
make_room-given-requires-clause-place c =
    (is_put_last c.self.inside.names.keys c.args.name c.insert_name.new.names.keys c.in_ok-place.place c.in_ok-place.is_new c.in_ok-place.ensures.new c.in_ok-place.ensures.keys c.in_ok-place.ensures.place c.if-not-is_new.false).inside

pub make_room-given-requires-clause-lower : goal.make_room-given-requires-clause-lower
make_room-given-requires-clause-lower c =
    let put = is_put_last c.self.inside.names.keys c.args.name c.insert_name.new.names.keys c.in_ok-place.place c.in_ok-place.is_new c.in_ok-place.ensures.new c.in_ok-place.ensures.keys c.in_ok-place.ensures.place c.if-not-is_new.false in
    subst IsLower (sym put.its_name) c.requires.lower

pub invariant_of-self-in-Err : goal.invariant_of-self-in-Err
invariant_of-self-in-Err c =
    let i = c.self.inside in
    let m = c.make_room-given.new in
    let put = is_put_last i.names.keys c.args.name c.insert_name.new.names.keys c.in_ok-place.place c.in_ok-place.is_new c.in_ok-place.ensures.new c.in_ok-place.ensures.keys c.in_ok-place.ensures.place c.if-not-is_new.false in
    let names = as_before i.names.keys c.args.name c.insert_name.new.names.keys c.truncate.new.self.keys c.in_ok-place.place put c.truncate.ensures.keys in
    let room = c.make_room-given.ensures in (
      same_rows i.names.keys c.truncate.new.self.keys i.rows.items m.rows.items i.numbers.items m.numbers.items i.products m.products names room.rows room.numbers
          (λ n v h. ap (λ (ps : ProductList). product_at ps n) c.in-Err.ensures.err ∙ h) c.self.invariant.0,
      same_counts i.rows.items m.rows.items i.products m.products i.counts.items m.counts.items room.rows c.in-Err.ensures.err room.same c.self.invariant.1,
    )

pub returns-in-Err-clause-new : goal.returns-in-Err-clause-new
returns-in-Err-clause-new c id has =
    let i = c.self.inside in
    let put = is_put_last i.names.keys c.args.name c.insert_name.new.names.keys c.in_ok-place.place c.in_ok-place.is_new c.in_ok-place.ensures.new c.in_ok-place.ensures.keys c.in_ok-place.ensures.place c.if-not-is_new.false in
    both_ways _ put.fresh (name_found i.names.keys i.rows.items i.numbers.items i.products c.self.invariant.0 id c.args.name (subst (λ (names : Names). HasName names id c.args.name) (sym c.self.view_is) has))

pub returns-in-Err-clause-err : goal.returns-in-Err-clause-err
returns-in-Err-clause-err c =
    let i = c.self.inside in
    let put = is_put_last i.names.keys c.args.name c.insert_name.new.names.keys c.in_ok-place.place c.in_ok-place.is_new c.in_ok-place.ensures.new c.in_ok-place.ensures.keys c.in_ok-place.ensures.place c.if-not-is_new.false in
    same_view i.names.keys c.truncate.new.self.keys i.rows.items c.make_room-given.new.rows.items c.args.self.now
    (as_before i.names.keys c.args.name c.insert_name.new.names.keys c.truncate.new.self.keys c.in_ok-place.place put c.truncate.ensures.keys) c.make_room-given.ensures.rows c.self.view_is

pub free_number-number-requires-clause-within : goal.free_number-number-requires-clause-within
free_number-number-requires-clause-within c =
    let i = c.self.inside in
    let put = is_put_last i.names.keys c.args.name c.insert_name.new.names.keys c.in_ok-place.place c.in_ok-place.is_new c.in_ok-place.ensures.new c.in_ok-place.ensures.keys c.in_ok-place.ensures.place c.if-not-is_new.false in
    omega (arith, put.at, c.self.invariant.0.within, ap length c.make_room-given.ensures.rows)

pub raise_count-requires-clause-few : goal.raise_count-requires-clause-few
raise_count-requires-clause-few c =
    let i = c.self.inside in
    let m = c.make_room-given.new in
    let room = c.make_room-given.ensures in
    let put = is_put_last i.names.keys c.args.name c.insert_name.new.names.keys c.in_ok-place.place c.in_ok-place.is_new c.in_ok-place.ensures.new c.in_ok-place.ensures.keys c.in_ok-place.ensures.place c.if-not-is_new.false in
    let g = subst (λ (w : Values). HasProductNumber i.products m.products c.in-Ok.product w.product) put.its_name c.in-Ok.ensures.product in
    let a = same_rows i.names.keys i.names.keys i.rows.items m.rows.items i.numbers.items m.numbers.items i.products m.products refl room.rows room.numbers (given_more i.products m.products c.in-Ok.product c.args.name.product g) c.self.invariant.0 in
    let rows_are = held_rows i.names.keys m.rows.items c.free_number-number.new.rows.items m.numbers.items c.free_number-number.new.numbers.items m.products c.args.name c.in_ok-place.place c.free_number-number.result c.in-Ok.product c.requires.lower
    put.at a c.free_number-number.ensures.grown c.free_number-number.ensures.number g.has c.insert_name.new.names.keys put.keys c.set_row.new.rows.items c.set_row.ensures c.insert_name.ensures.unique in
    let more = held_more i.names.keys m.rows.items c.free_number-number.new.rows.items m.numbers.items c.free_number-number.new.numbers.items m.products c.in_ok-place.place c.free_number-number.result c.in-Ok.product put.at a
    c.free_number-number.ensures.grown c.free_number-number.ensures.number c.set_row.new.rows.items c.set_row.ensures in
    let counted = rw (← room.rows) at c.self.invariant.1.counted in
    few_counts c.insert_name.new.names.keys c.set_row.new.rows.items c.free_number-number.new.numbers.items m.products m.rows.items i.counts.items m.counts.items c.in-Ok.product rows_are counted room.same more

pub invariant_of-self-2 : goal.invariant_of-self-2
invariant_of-self-2 c =
    let i = c.self.inside in
    let m = c.make_room-given.new in
    let room = c.make_room-given.ensures in
    let put = is_put_last i.names.keys c.args.name c.insert_name.new.names.keys c.in_ok-place.place c.in_ok-place.is_new c.in_ok-place.ensures.new c.in_ok-place.ensures.keys c.in_ok-place.ensures.place c.if-not-is_new.false in
    let g = subst (λ (w : Values). HasProductNumber i.products m.products c.in-Ok.product w.product) put.its_name c.in-Ok.ensures.product in
    let a = same_rows i.names.keys i.names.keys i.rows.items m.rows.items i.numbers.items m.numbers.items i.products m.products refl room.rows room.numbers (given_more i.products m.products c.in-Ok.product c.args.name.product g) c.self.invariant.0 in
    let more = held_more i.names.keys m.rows.items c.free_number-number.new.rows.items m.numbers.items c.free_number-number.new.numbers.items m.products c.in_ok-place.place c.free_number-number.result c.in-Ok.product put.at a
    c.free_number-number.ensures.grown c.free_number-number.ensures.number c.set_row.new.rows.items c.set_row.ensures in
    let counted = rw (← room.rows) at c.self.invariant.1 in (
      held_rows i.names.keys m.rows.items c.free_number-number.new.rows.items m.numbers.items c.free_number-number.new.numbers.items m.products c.args.name c.in_ok-place.place c.free_number-number.result c.in-Ok.product c.requires.lower
          put.at a c.free_number-number.ensures.grown c.free_number-number.ensures.number g.has c.insert_name.new.names.keys put.keys c.set_row.new.rows.items c.set_row.ensures c.insert_name.ensures.unique,
      one_more_name m.rows.items c.set_row.new.rows.items i.products m.products i.counts.items m.counts.items c.raise_count.new.counts.items c.in-Ok.product c.args.name.product counted more g room.same c.in-Ok.ensures.room c.raise_count.ensures,
    )

pub returns-clause-held : goal.returns-clause-held
returns-clause-held c =
    let i = c.self.inside in
    let m = c.make_room-given.new in
    let room = c.make_room-given.ensures in
    let put = is_put_last i.names.keys c.args.name c.insert_name.new.names.keys c.in_ok-place.place c.in_ok-place.is_new c.in_ok-place.ensures.new c.in_ok-place.ensures.keys c.in_ok-place.ensures.place c.if-not-is_new.false in
    let g = subst (λ (w : Values). HasProductNumber i.products m.products c.in-Ok.product w.product) put.its_name c.in-Ok.ensures.product in
    let a = same_rows i.names.keys i.names.keys i.rows.items m.rows.items i.numbers.items m.numbers.items i.products m.products refl room.rows room.numbers (given_more i.products m.products c.in-Ok.product c.args.name.product g) c.self.invariant.0 in
    let view = same_view i.names.keys i.names.keys i.rows.items m.rows.items c.args.self.now refl room.rows c.self.view_is in
    let none = λ (id : ℕ) (has : HasName (table_of_rows i.names.keys m.rows.items) id c.args.name). both_ways _ put.fresh (name_found i.names.keys m.rows.items m.numbers.items m.products a id c.args.name has) in
    subst (λ (old : Names). HoldsName old (table_of_rows c.insert_name.new.names.keys c.set_row.new.rows.items) c.free_number-number.result c.args.name) view
    (held_names i.names.keys m.rows.items c.free_number-number.new.rows.items m.numbers.items c.free_number-number.new.numbers.items m.products c.args.name c.in_ok-place.place c.free_number-number.result c.in-Ok.product c.requires.lower
    put.at a c.free_number-number.ensures.grown c.free_number-number.ensures.number g.has c.insert_name.new.names.keys put.keys c.set_row.new.rows.items c.set_row.ensures none)
