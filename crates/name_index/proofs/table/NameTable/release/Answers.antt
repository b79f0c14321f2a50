use Rattle.std.proofs.Common.{◌≡◌, ◌+◌, ◌<◌, ◌≤◌, set, ◌-◌, List, length, sym, ap, subst, ◌∙◌, arith}
use Rattle.std.specs.List.{swap_remove}
use Rattle.std.proofs.lemmas.Bool.{lt-ltb}
use Rattle.cpe_name.specs.Eleven.{Values}
use Rattle.name_index.specs.declared.table.NameRow.{NameRow}
use Rattle.name_index.specs.Table.{Names, IsLive, Releases}
use Rattle.name_index.specs.Rows.{product_row_with, product_row_at, name_in_place, table_of_rows, AreProductRows, AreProductCounts, product_count_at}
use Rattle.std.specs.Prelude.{IsSome}
use Rattle.name_index.specs.Listed.{product_at}
use Rattle.name_index.proofs.Counts.{other_holds, same_names, its_count, its_product, count_known, discards}
use Rattle.name_index.proofs.TableChanges.{with_holds}
use Rattle.name_index.proofs.Freed.{live_there, lowered, lived, gone}
use Rattle.name_index.proofs.table.NameTable.release.Goals as goal

left : (names new_names : List Values) (one other : NameRow) → one ≡ other → new_names ≡ swap_remove names one.place (name_in_place names one.place) → new_names ≡ swap_remove names other.place (name_in_place names other.place)
left names new_names one other is h = h ∙ ap (λ (r : NameRow). swap_remove names r.place (name_in_place names r.place)) is

pub invariant_of-self : goal.invariant_of-self
invariant_of-self c =
    let i = c.self.inside in
    let id = c.args.id.0 in
    let l = live_there i.names.keys i.rows.items c.args.id.0 (subst (λ (names : Names). IsLive names c.args.id.0) (sym c.self.view_is) c.requires) in
    let written = c.set_row.ensures ∙ ap (λ (r : NameRow). set i.rows.items id (product_row_with r.place (r.holds - 1) r.product)) c.row_of-row.ensures in
    let many = subst (λ (r : NameRow). 1 < r.holds) c.row_of-row.ensures c.if-row-gt1.true in
    let h = (product_row_at i.rows.items id).holds in (
      subst (λ (rows : List NameRow). AreProductRows i.names.keys rows i.numbers.items i.products) (sym written)
          (with_holds i.names.keys i.rows.items i.numbers.items i.products id (h - 1) c.self.invariant.0 l.known (lt-ltb 0 (h - 1) (omega (arith, many)) ∙ sym l.held) (omega (arith, c.self.invariant.0.small id))),
      subst (λ (rows : List NameRow). AreProductCounts rows i.products i.counts.items) (sym written)
          (same_names i.rows.items (set i.rows.items id (product_row_with (product_row_at i.rows.items id).place (h - 1) (product_row_at i.rows.items id).product)) i.products i.counts.items
          (other_holds i.rows.items id (h - 1) (product_row_at i.rows.items id).place l.known l.held (lt-ltb 0 (h - 1) (omega (arith, many)))) c.self.invariant.1),
    )

pub returns-then-row-gt1 : goal.returns-then-row-gt1
returns-then-row-gt1 c =
    let i = c.self.inside in
    let id = c.args.id.0 in
    let l = live_there i.names.keys i.rows.items c.args.id.0 (subst (λ (names : Names). IsLive names c.args.id.0) (sym c.self.view_is) c.requires) in
    let written = c.set_row.ensures ∙ ap (λ (r : NameRow). set i.rows.items id (product_row_with r.place (r.holds - 1) r.product)) c.row_of-row.ensures in
    let many = subst (λ (r : NameRow). 1 < r.holds) c.row_of-row.ensures c.if-row-gt1.true in
    subst (λ (old : Names). Releases old (table_of_rows i.names.keys c.set_row.new.rows.items) id) c.self.view_is
    (subst (λ (rows : List NameRow). Releases (table_of_rows i.names.keys i.rows.items) (table_of_rows i.names.keys rows) id) (sym written) (lowered i.names.keys i.rows.items id l.known many))

pub overflow_sub-last : goal.overflow_sub-last
overflow_sub-last c =
    let i = c.self.inside in
    let l = lived i.names.keys i.rows.items i.numbers.items i.products c.args.id.0 c.self.invariant.0 (subst (λ (names : Names). IsLive names c.args.id.0) (sym c.self.view_is) c.requires) in
    omega (arith, c.len-last.ensures.len, l.inside)

pub take_name-requires : goal.take_name-requires
take_name-requires c =
    let i = c.self.inside in
    let l = lived i.names.keys i.rows.items i.numbers.items i.products c.args.id.0 c.self.invariant.0 (subst (λ (names : Names). IsLive names c.args.id.0) (sym c.self.view_is) c.requires) in
    subst (λ (r : NameRow). r.place < length i.names.keys) (sym c.row_of-row.ensures) l.inside

pub free_row-requires-clause-place : goal.free_row-requires-clause-place
free_row-requires-clause-place c =
    let i = c.self.inside in
    let l = lived i.names.keys i.rows.items i.numbers.items i.products c.args.id.0 c.self.invariant.0 (subst (λ (names : Names). IsLive names c.args.id.0) (sym c.self.view_is) c.requires) in
    omega (arith, l.inside, c.self.invariant.0.within, c.self.invariant.0.paired)

pub lower_count-requires-clause-some : goal.lower_count-requires-clause-some
lower_count-requires-clause-some c =
    let i = c.self.inside in
    let l = lived i.names.keys i.rows.items i.numbers.items i.products c.args.id.0 c.self.invariant.0 (subst (λ (names : Names). IsLive names c.args.id.0) (sym c.self.view_is) c.requires) in
    subst (λ (r : NameRow). 0 < product_count_at i.counts.items r.product) (sym c.row_of-row.ensures) (its_count i.names.keys i.rows.items i.numbers.items i.products i.counts.items c.args.id.0 c.self.invariant.0 c.self.invariant.1 l)

pub lower_count-requires-clause-inside : goal.lower_count-requires-clause-inside
lower_count-requires-clause-inside c =
    let i = c.self.inside in
    let l = lived i.names.keys i.rows.items i.numbers.items i.products c.args.id.0 c.self.invariant.0 (subst (λ (names : Names). IsLive names c.args.id.0) (sym c.self.view_is) c.requires) in
    count_known i.counts.items c.row_of-row.result.product
    (subst (λ (r : NameRow). 0 < product_count_at i.counts.items r.product) (sym c.row_of-row.ensures) (its_count i.names.keys i.rows.items i.numbers.items i.products i.counts.items c.args.id.0 c.self.invariant.0 c.self.invariant.1 l))

pub discard-requires-clause-there : goal.discard-requires-clause-there
discard-requires-clause-there c =
    let i = c.self.inside in
    let l = lived i.names.keys i.rows.items i.numbers.items i.products c.args.id.0 c.self.invariant.0 (subst (λ (names : Names). IsLive names c.args.id.0) (sym c.self.view_is) c.requires) in
    subst (λ (r : NameRow). IsSome (product_at i.products r.product)) (sym c.row_of-row.ensures) (its_product i.names.keys i.rows.items i.numbers.items i.products i.counts.items c.args.id.0 c.self.invariant.0 c.self.invariant.1 l)

pub invariant_of-self-2 : goal.invariant_of-self-2
invariant_of-self-2 c =
    let i = c.self.inside in
    let l = lived i.names.keys i.rows.items i.numbers.items i.products c.args.id.0 c.self.invariant.0 (subst (λ (names : Names). IsLive names c.args.id.0) (sym c.self.view_is) c.requires) in
    let last = c.len-last.result - 1 in
    let is_last : last + 1 ≡ length i.names.keys = omega (arith, c.len-last.ensures.len, l.inside) in
    let g = gone i.names.keys i.rows.items i.numbers.items i.products c.args.id.0 last c.self.invariant.0 l is_last (subst (λ (r : NameRow). r.holds ≤ 1) c.row_of-row.ensures c.if-row-gt1.false)
    c.take_name.new.names.keys c.free_row.new.rows.items c.free_row.new.numbers.items (left c.self.inside.names.keys c.take_name.new.names.keys c.row_of-row.result _ c.row_of-row.ensures c.take_name.ensures.keys) c.take_name.ensures.unique c.free_row.ensures.rows c.free_row.ensures.numbers in
    discards i.names.keys i.rows.items i.numbers.items i.products i.counts.items c.args.id.0 c.self.invariant.0 c.self.invariant.1 l c.take_name.new.names.keys c.free_row.new.rows.items c.free_row.new.numbers.items c.discard.new.products c.lower_count.new.counts.items
    c.row_of-row.result.product last (ap (λ (r : NameRow). r.product) c.row_of-row.ensures) is_last g.rows_are c.free_row.ensures.rows c.lower_count.ensures c.discard.ensures.stays c.discard.ensures.rest_goes

pub returns : goal.returns
returns c =
    let i = c.self.inside in
    let l = lived i.names.keys i.rows.items i.numbers.items i.products c.args.id.0 c.self.invariant.0 (subst (λ (names : Names). IsLive names c.args.id.0) (sym c.self.view_is) c.requires) in
    let g = gone i.names.keys i.rows.items i.numbers.items i.products c.args.id.0 (c.len-last.result - 1) c.self.invariant.0 l (omega (arith, c.len-last.ensures.len, l.inside)) (subst (λ (r : NameRow). r.holds ≤ 1) c.row_of-row.ensures c.if-row-gt1.false)
    c.take_name.new.names.keys c.free_row.new.rows.items c.free_row.new.numbers.items (left c.self.inside.names.keys c.take_name.new.names.keys c.row_of-row.result _ c.row_of-row.ensures c.take_name.ensures.keys) c.take_name.ensures.unique c.free_row.ensures.rows c.free_row.ensures.numbers in
    subst (λ (old : Names). Releases old (table_of_rows c.take_name.new.names.keys c.free_row.new.rows.items) c.args.id.0) c.self.view_is g.names_are
