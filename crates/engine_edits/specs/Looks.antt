-- The most looks at names that an edit may take. An edit looks for the names of items and facts, and for the ends of these names. Each
-- such name is one look. So is each name on the other side (of facts for an item, of items for a fact) whose product meets its own.
use Rattle.std.specs.Prelude.{ℕ, Result, Ok, Err}
use Rattle.cpe_rows.specs.After.{after}
use Rattle.cpe_rows.specs.Rows.{Rows}
use Rattle.cpe_rows.specs.Step.{step}
use Rattle.cpe_rows.specs.declared.edit.Edit.{Edit}
use Rattle.cpe_rows.specs.declared.edit.Edit.TheVariants as edit
use Rattle.cpe_rows.specs.declared.fault.EditFault.{EditFault}
use Rattle.verdicts.specs.facts.Looks.{item_looks, lead_looks, statement_looks}

-- An edit that is made. For an item: the looks for it and its ends. For a statement: the looks for its facts. For a change of a
-- deprecation: the looks for the ends of the items that lead to the entry, before and after the change, and the looks for the ends, after
-- the change, of the facts that lead there. For each other edit: none.
abbrev pub made_looks : Rows → Edit → ℕ
made_looks rows (edit.Item n) = item_looks rows n
made_looks rows (edit.DropItem n) = item_looks rows n
made_looks rows (edit.PutStatement s) = statement_looks rows s
made_looks rows (edit.Deprecate n d date comment) = lead_looks rows (after rows (edit.Deprecate n d date comment)) n
made_looks rows (edit.Amend n d date comment) = lead_looks rows (after rows (edit.Amend n d date comment)) n
made_looks rows (edit.Restore n date comment) = lead_looks rows (after rows (edit.Restore n date comment)) n
made_looks rows e = 0

abbrev pub unless_refused : Result Rows EditFault → ℕ → ℕ
unless_refused (Ok next) count = count
unless_refused (Err fault) count = 0

-- an edit that is refused takes no look
abbrev pub edit_looks : Rows → Edit → ℕ
edit_looks rows e = unless_refused (step rows e) (made_looks rows e)
