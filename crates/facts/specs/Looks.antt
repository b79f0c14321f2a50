-- The bound on looks at names of an edit of the facts. A name that is added, removed or asked for is looked at once, and so is
-- each different name on the other side whose product meets its own.
use Rattle.std.specs.Prelude.{ℕ, ◌+◌, ◌∷◌, []}
use Rattle.std.specs.List.{flat_map}
use Rattle.cpe_rows.specs.cpe_name.Eleven.{Values}
use Rattle.name_index.specs.declared.products.Side.TheVariants as side
use Rattle.cpe_rows.specs.Chains.{ends}
use Rattle.cpe_rows.specs.Rows.{Rows}
use Rattle.cpe_rows.specs.declared.statement.Mode.TheVariants.{Plain, Follow}
use Rattle.cpe_rows.specs.declared.statement.Statement.{Statement}
use Rattle.fact_laws.specs.Asked.{asked, statement_facts, leads, references_of, target_names}
use Rattle.fact_boards.specs.Kept.{ends_of_led, looks_by}

-- an item that is added or removed: it by the names asked in mode plain, and its ends by those in mode follow
abbrev pub item_looks : Rows → Values → ℕ
item_looks rows n = looks_by side.Target (asked rows Plain) (n ∷ []) + looks_by side.Target (asked rows Follow) (ends rows.entries n)

-- the looks for a statement that is added: at the names to which its facts lead, and at the targets whose products are
-- near theirs
abbrev pub statement_looks : Rows → Statement → ℕ
statement_looks rows s = looks_by side.Source (target_names rows s.mode) (flat_map (leads rows.entries s.mode) (references_of s.mode s))

-- a change of the deprecation of an entry: the ends, before and after it, of the items that lead there, and those after it of the facts
abbrev pub lead_looks : Rows → Rows → Values → ℕ
lead_looks rows next n =
    looks_by side.Target (asked rows Follow) (ends_of_led rows.entries next.entries n rows.items)
    + looks_by side.Target (asked rows Follow) (ends_of_led rows.entries rows.entries n rows.items)
    + looks_by side.Source (target_names next Follow) (ends_of_led rows.entries next.entries n (statement_facts Follow rows.statements))
