use Rattle.std.proofs.Common.{◌≡◌, ◌++◌, ◌∷◌, [], Bool, cond, List, refl, sym, ap, ◌∙◌}
use Rattle.name_index.specs.declared.table.NameId.{NameId}
use Rattle.fact_rows.proofs.RefreshLemmas.{changes_one, refreshed_one}
use Rattle.fact_rows.proofs.refresh.refresh_fact.Goals as goal

pub returns-then-refresh_row : goal.returns-then-refresh_row
returns-then-refresh_row c =
    let before : List NameId = c.args.changed.now.items in
    let fact = c.args.fact in
    let r = c.refresh_row.ensures in
    let is : c.push_reserved.new.self.items ≡ cond c.refresh_row.result (before ++ fact ∷ []) before = c.push_reserved.ensures.items ∙ ap (λ (b : Bool). cond b (before ++ fact ∷ []) before) (sym c.if-refresh_row.true) in
    record {
      changes = changes_one c.args.mode c.args.board.now c.args.rows.now.entries c.refresh_row.new.rows.entries before fact c.refresh_row.result r.here r.others r.news c.requires.marks c.args.changed.now c.push_reserved.new.self refl c.requires.room r.many is c.push_reserved.ensures.capacity;
      rows = refreshed_one c.args.mode c.args.board.now c.args.rows.now.entries c.refresh_row.new.rows.entries before fact c.refresh_row.result r.here r.others r.news c.requires.marks c.push_reserved.new.self.items is;
    }

pub returns-else-refresh_row : goal.returns-else-refresh_row
returns-else-refresh_row c =
    let before : List NameId = c.args.changed.now.items in
    let fact = c.args.fact in
    let r = c.refresh_row.ensures in
    let is : before ≡ cond c.refresh_row.result (before ++ fact ∷ []) before = ap (λ (b : Bool). cond b (before ++ fact ∷ []) before) (sym c.if-refresh_row.false) in
    record {
      changes = changes_one c.args.mode c.args.board.now c.args.rows.now.entries c.refresh_row.new.rows.entries before fact c.refresh_row.result r.here r.others r.news c.requires.marks c.args.changed.now c.args.changed.now refl c.requires.room r.many is refl;
      rows = refreshed_one c.args.mode c.args.board.now c.args.rows.now.entries c.refresh_row.new.rows.entries before fact c.refresh_row.result r.here r.others r.news c.requires.marks before is;
    }
