use Rattle.std.proofs.Common.{Option, sym, ap, subst, ◌∙◌}
use Rattle.name_index.specs.declared.table.NameRow.{NameRow}
use Rattle.name_index.specs.Table.{Names, Kept, kept_or, kept_at, IsLive}
use Rattle.name_index.proofs.Freed.{live_there}
use Rattle.name_index.proofs.table.NameTable.product.Goals as goal

pub returns : goal.returns
returns c =
    let i = c.self.inside in
    let l = live_there i.names.keys i.rows.items c.args.id.0 (subst (λ (names : Names). IsLive names c.args.id.0) (sym c.self.view_is) c.requires) in
    ap (λ (r : NameRow). r.product) c.row_of-row.ensures ∙ sym (ap (λ (o : Option Kept). (kept_or o).product) l.is) ∙ ap (λ (names : Names). (kept_at names c.args.id.0).product) c.self.view_is
