-- Rows that are added to an engine one after another.
use Rattle.std.specs.Prelude.{◌≡◌, ◌++◌, List, true, Ok}
use Rattle.cpe_rows.specs.cpe_name.Eleven.{Values}
use Rattle.std.specs.List.{list_all}
use Rattle.cpe_rows.specs.After.{after}
use Rattle.cpe_rows.specs.Lawful.{are_different, is_entry_name}
use Rattle.cpe_rows.specs.Limits.{AreWithin}
use Rattle.cpe_rows.specs.Rows.{Rows, no_rows, is_named}
use Rattle.cpe_rows.specs.Step.{step}
use Rattle.cpe_rows.specs.Valid.{is_valid_edit}
use Rattle.cpe_rows.specs.declared.edit.Edit.{Edit}
use Rattle.cpe_rows.specs.declared.entry.Entry.{Entry}
use Rattle.cpe_rows.specs.declared.fault.EditFault.{EditFault}
use Rattle.cpe_rows.specs.declared.fault.EditFault.TheVariants as edit
use Rattle.cpe_rows.specs.declared.statement.Statement.{Statement}
use Rattle.cpe_rows.specs.declared.test.CheckKey.{CheckKey}
use Rattle.cpe_rows.specs.declared.truth.Truth.{Truth}
use Rattle.cpe_engine.specs.declared.adopting.AdoptFault.{AdoptFault}
use Rattle.cpe_engine.specs.declared.adopting.AdoptFault.TheVariants.{Unlawful, Memory}

-- ---- rows with further rows at the end

abbrev pub rows_with_entries : Rows → List Entry → Rows
rows_with_entries rows es = record rows { entries = rows.entries ++ es }

abbrev pub with_items : Rows → List Values → Rows
with_items rows ns = record rows { items = rows.items ++ ns }

abbrev pub with_statements : Rows → List Statement → Rows
with_statements rows ss = record rows { statements = rows.statements ++ ss }

abbrev pub with_checks : Rows → List (CheckKey × Truth) → Rows
with_checks rows cs = record rows { checks = rows.checks ++ cs }

-- the rows are these entries and nothing else
abbrev pub entries_alone : List Entry → Rows
entries_alone es = record no_rows { entries = es }

-- ---- entries that may be added one after another

-- The entries of the rows may be added as active ones: their names are names of entries, the names differ, and the rows are within their
-- limits.
pub record AreFine (rows : Rows) : Type 0 where
  pub names : list_all (λ e. is_entry_name e.name) rows.entries ≡ true
  pub names_differ : are_different (λ e. is_named e.name) rows.entries ≡ true
  pub within : AreWithin rows

-- ---- an edit that adds one row

-- The edit is valid and has no fault.
pub record IsLawfulEdit (rows : Rows) (e : Edit) : Type 0 where
  pub valid : is_valid_edit e ≡ true
  pub taken : step rows e ≡ Ok (after rows e)

-- the fault if a row can't be added: memory ran out, or else the rows aren't lawful
abbrev pub adopt_fault : EditFault → AdoptFault
adopt_fault edit.Memory = Memory
adopt_fault f = Unlawful
