-- How many looks at names the answer to a query may take (`edit_looks` bounds the looks of an edit). The verdict of a statement is kept,
-- so a query for it takes no look.
use Rattle.std.specs.Prelude.{ℕ, count_by, map}
use Rattle.cpe_rows.specs.cpe_relation.Maybe.{values_meet}
use Rattle.verdicts.specs.names_in_order.Places.{near_count}
use Rattle.cpe_rows.specs.Rows.{Rows}
use Rattle.cpe_rows.specs.declared.entry.Entry.{Entry}
use Rattle.cpe_rows.specs.declared.edit.Query.{Query}
use Rattle.cpe_rows.specs.declared.edit.Query.TheVariants.{Search, Items}
pub use Rattle.engine_edits.specs.Looks.{edit_looks}

-- For a search: the number of entries to whose product the product of the asked name is near. For items: the number of items whose
-- product the product of the asked name meets. For each other query: none.
abbrev pub query_looks : Rows → Query → ℕ
query_looks rows (Search asked active_only) = near_count asked (map (λ (e : Entry). e.name) rows.entries)
query_looks rows (Items asked) = count_by (λ n. values_meet asked.product n.product) rows.items
query_looks rows query = 0
