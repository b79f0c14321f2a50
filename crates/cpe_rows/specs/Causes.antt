-- Causes to refuse an edit of rows within their limits: the faults, without limits that the edit cannot exceed. The
-- weight of the rows is separate (`heavy`). If an edit changes only one list, its causes are computed from this list.
use Rattle.std.specs.Prelude.{◌≡◌, ◌+◌, ◌++◌, List, [], ◌∷◌, ⊤, length, nat_lt, not, Option, Some}
use Rattle.std.specs.List.{list_any}
use Rattle.cpe_name.specs.Eleven.{Values}
use Rattle.cpe_rows.specs.Names.{is_same, is_identifier, has_wildcards}
use Rattle.cpe_rows.specs.Rows.{Rows, is_named, has_id, is_entry, is_item, is_statement, is_checked}
use Rattle.cpe_rows.specs.FactNames.{number_of_facts}
use Rattle.cpe_rows.specs.Limits.{most, exceeds}
use Rattle.cpe_rows.specs.After.{after, with_check}
use Rattle.cpe_rows.specs.Faults.{when, successor_faults, is_deprecated, too_wide}
use Rattle.cpe_rows.specs.declared.entry.Entry.{Entry}
use Rattle.cpe_rows.specs.declared.statement.Statement.{Statement}
use Rattle.cpe_rows.specs.declared.test.CheckKey.{CheckKey}
use Rattle.cpe_rows.specs.declared.truth.Truth.{Truth}
use Rattle.cpe_rows.specs.declared.edit.Edit.{Edit}
use Rattle.cpe_rows.specs.declared.edit.Edit.TheVariants as edit
use Rattle.cpe_rows.specs.declared.fault.EditFault.{EditFault}
use Rattle.cpe_rows.specs.declared.fault.EditFault.TheVariants as fault
use Rattle.cpe_rows.specs.declared.fault.Which.TheVariants as limit

-- The fault is the one that was found, unless memory ran out.
abbrev pub IsCause : EditFault → Option EditFault → Type 0
IsCause fault.Memory found = ⊤
IsCause f found = found ≡ Some f

-- causes to refuse an entry
abbrev pub entry_causes : List Entry → Entry → List (Option EditFault)
entry_causes entries e =
    when (not (is_identifier e.name)) fault.NotIdentifier ∷ when (has_wildcards e.name) fault.Wildcards
    ∷ when (list_any (is_named e.name) entries) fault.Exists
    ∷ when (nat_lt (most limit.Entries) (length entries + 1)) (fault.Full limit.Entries) ∷ []

-- causes to refuse an item
abbrev pub item_causes : List Values → Values → List (Option EditFault)
item_causes items n =
    when (list_any (is_same n) items) fault.Exists ∷ when (nat_lt (most limit.Items) (length items + 1)) (fault.Full limit.Items) ∷ []

-- causes to refuse a statement
abbrev pub statement_causes : List Statement → Statement → List (Option EditFault)
statement_causes statements s =
    when (list_any (has_id s.id) statements) fault.Exists
    ∷ when (nat_lt (most limit.Statements) (length statements + 1)) (fault.Full limit.Statements)
    ∷ when (nat_lt (most limit.Facts) (number_of_facts (statements ++ s ∷ []))) (fault.Full limit.Facts) ∷ []

-- causes to refuse a check result
abbrev pub check_causes : List (CheckKey × Truth) → CheckKey → Truth → List (Option EditFault)
check_causes checks k t = when (nat_lt (most limit.Checks) (length (with_check k t checks))) (fault.Full limit.Checks) ∷ []

-- causes to refuse an edit, without the weight
abbrev pub causes : Rows → Edit → List (Option EditFault)
causes rows (edit.Entry e) = entry_causes rows.entries e
causes rows (edit.Item n) = item_causes rows.items n
causes rows (edit.DropItem n) = when (not (is_item rows n)) fault.Unknown ∷ []
causes rows (edit.Deprecate n d date comment) =
    when (not (is_entry rows n)) fault.Unknown ∷ when (is_deprecated rows n) fault.AlreadyDeprecated
    ∷ successor_faults rows n d ++ too_wide (after rows (edit.Deprecate n d date comment)) ∷ []
causes rows (edit.Amend n d date comment) =
    when (not (is_entry rows n)) fault.Unknown ∷ when (not (is_deprecated rows n)) fault.NotDeprecated
    ∷ successor_faults rows n d ++ too_wide (after rows (edit.Amend n d date comment)) ∷ []
causes rows (edit.Restore n date comment) =
    when (not (is_entry rows n)) fault.Unknown ∷ when (not (is_deprecated rows n)) fault.NotDeprecated
    ∷ too_wide (after rows (edit.Restore n date comment)) ∷ []
causes rows (edit.PutStatement s) = statement_causes rows.statements s
causes rows (edit.DropStatement id) = when (not (is_statement rows id)) fault.Unknown ∷ []
causes rows (edit.SetCheck k t) = check_causes rows.checks k t
causes rows (edit.DropCheck k) = when (not (is_checked rows k)) fault.Unknown ∷ []

-- the fault of rows that weigh too much
abbrev pub heavy : Rows → Option EditFault
heavy next = when (exceeds next limit.Weight) (fault.Full limit.Weight)
