use Rattle.std.proofs.Common.{arith, ◌+◌, ◌<◌, set, List, sym, subst, ap, ◌∙◌}
use Rattle.std.proofs.lemmas.Bool.{lt-ltb}
use Rattle.name_index.specs.declared.table.NameRow.{NameRow}
use Rattle.name_index.specs.Table.{Names, Kept, IsLive, HoldsName, kept_at, kept_or}
use Rattle.name_index.specs.Rows.{product_row_with, product_row_at, table_of_rows, AreProductRows, AreProductCounts}
use Rattle.name_index.proofs.TableChanges.{with_holds, raised_live}
use Rattle.name_index.proofs.Freed.{live_there}
use Rattle.name_index.proofs.Counts.{other_holds, same_names}
use Rattle.name_index.proofs.table.NameTable.hold_again.Goals as goal

pub raise-requires-clause-known : goal.raise-requires-clause-known
raise-requires-clause-known c =
    let i = c.self.inside in
    (live_there i.names.keys i.rows.items c.args.id.0 (subst (λ (names : Names). IsLive names c.args.id.0) (sym c.self.view_is) c.requires.live)).known

pub raise-requires-clause-few : goal.raise-requires-clause-few
raise-requires-clause-few c =
    let i = c.self.inside in
    let l = live_there i.names.keys i.rows.items c.args.id.0 (subst (λ (names : Names). IsLive names c.args.id.0) (sym c.self.view_is) c.requires.live) in
    subst (λ (k : Kept). k.holds < 4294967295) (ap (λ (names : Names). kept_at names c.args.id.0) (sym c.self.view_is) ∙ ap kept_or l.is) c.requires.few

pub invariant_of-self : goal.invariant_of-self
invariant_of-self c =
    let i = c.self.inside in
    let n = c.args.id.0 in
    let l = live_there i.names.keys i.rows.items n (subst (λ (names : Names). IsLive names n) (sym c.self.view_is) c.requires.live) in
    let few = subst (λ (k : Kept). k.holds < 4294967295) (ap (λ (names : Names). kept_at names n) (sym c.self.view_is) ∙ ap kept_or l.is) c.requires.few in
    let h = (product_row_at i.rows.items n).holds in
    let more = lt-ltb 0 (h + 1) (omega arith) in (
      subst (λ (rows : List NameRow). AreProductRows i.names.keys rows i.numbers.items i.products) (sym c.raise.ensures)
          (with_holds i.names.keys i.rows.items i.numbers.items i.products n (h + 1) c.self.invariant.0 l.known (more ∙ sym l.held) (omega (arith, few))),
      subst (λ (rows : List NameRow). AreProductCounts rows i.products i.counts.items) (sym c.raise.ensures)
          (same_names i.rows.items (set i.rows.items n (product_row_with (product_row_at i.rows.items n).place (h + 1) (product_row_at i.rows.items n).product)) i.products i.counts.items
          (other_holds i.rows.items n (h + 1) (product_row_at i.rows.items n).place l.known l.held more) c.self.invariant.1),
    )

pub returns : goal.returns
returns c =
    let i = c.self.inside in
    let n = c.args.id.0 in
    let l = live_there i.names.keys i.rows.items n (subst (λ (names : Names). IsLive names n) (sym c.self.view_is) c.requires.live) in
    let h = raised_live i.names.keys i.rows.items i.numbers.items i.products n c.self.invariant.0 l.known l.held in
    subst (λ (old : Names). HoldsName old (table_of_rows i.names.keys c.raise.new.rows.items) n (kept_at old n).name) c.self.view_is
    (subst (λ (rows : List NameRow). HoldsName (table_of_rows i.names.keys i.rows.items) (table_of_rows i.names.keys rows) n (kept_at (table_of_rows i.names.keys i.rows.items) n).name) (sym c.raise.ensures) h)
