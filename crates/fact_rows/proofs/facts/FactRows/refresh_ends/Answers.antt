use Rattle.cpe_rows.specs.declared.statement.Mode.TheVariants.{Follow}
use Rattle.std.proofs.Common.{subst}
use Rattle.std.specs.List.{list_any}
use Rattle.name_index.specs.declared.table.NameId.{NameId}
use Rattle.fact_rows.specs.Facts.{FactTable, has_end_of_fact, facts_of_end, is_under_one}
use Rattle.fact_rows.specs.Calls.{Refreshed}
use Rattle.fact_rows.proofs.RefreshLemmas.{refreshed_table}
use Rattle.fact_rows.proofs.facts.FactRows.refresh_ends.Goals as goal

pub returns : goal.returns
returns c =
    let by_end = c.self.inside.by_end.entries in
    let rows = c.self.inside.rows.entries in
    let before = c.self.inside.changed.items in
    let next = c.refresh_ends.new.rows.entries in
    let after = c.refresh_ends.new.changed.items in
    let ends = c.args.ends.now in
    let board = c.args.board.now in
    let new : FactTable = record { rows = next; by_end = by_end; changed = after } in
    subst (λ (t : FactTable). Refreshed t new (is_under_one t ends) Follow board) c.self.view_is
    (refreshed_table Follow board rows next by_end before after (λ q. list_any (λ (id : NameId). has_end_of_fact (facts_of_end by_end id.0) q) ends) c.refresh_ends.ensures.rows)
