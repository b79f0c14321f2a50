-- The rows of an engine's parts: between edits, and while an edit is prepared.
use Rattle.std.specs.Prelude.{◌≡◌, ◌++◌, List, [], true}
use Rattle.cpe_rows.specs.cpe_name.Eleven.{Values}
use Rattle.cpe_rows.specs.Formed.{IsFormed}
use Rattle.cpe_rows.specs.Lawful.{IsLawful}
use Rattle.cpe_rows.specs.Rows.{Rows}
use Rattle.cpe_rows.specs.Valid.{is_valid_edit}
use Rattle.cpe_rows.specs.Weight.{weight}
use Rattle.cpe_rows.specs.declared.edit.Edit.{Edit}
use Rattle.fact_laws.specs.Shown.{holds_in, Shows}
use Rattle.fact_laws.specs.Asked.{names_of_rows}
use Rattle.verdicts.specs.name_registry.Registered.{Registered}
use Rattle.verdicts.specs.Verdicts.{checks_in, HasVerdicts, statements_in, VerdictsNow}
use Rattle.engine_edits.specs.Numbered.{edit_of, IsFound, names_coming}
use Rattle.engine_edits.specs.declared.numbered.NumberedEdit.{NumberedEdit}
use Rattle.engine_edits.specs.declared.parts.EngineParts.{EngineParts}

abbrev pub rows_in : EngineParts → Rows
rows_in p = record { entries = p.registry.entries; items = p.registry.items; statements = statements_in p.verdicts; checks = checks_in p.verdicts }

-- Registry and verdicts belong to these rows. The table holds the names of the entries, items and facts of the rows, and these other
-- names. It holds each name as often as these lists have it, and no other name. Each kept verdict is the verdict of the rows.
pub record AreOf (r : Registered) (v : VerdictsNow) (rows : Rows) (others : List Values) : Type 0 where
  pub entries : r.entries ≡ rows.entries
  pub items : r.items ≡ rows.items
  pub held : Shows r.table (holds_in r.table) (others ++ names_of_rows rows)
  pub verdicts : HasVerdicts r.table v rows

-- The rows are lawful, the weight is their weight, and the table holds only their names.
pub record AreLawfulParts (p : EngineParts) : Type 0 where
  pub lawful : IsLawful (rows_in p)
  pub weight : p.weight ≡ weight (rows_in p)
  pub are : AreOf p.registry p.verdicts (rows_in p) []

-- the edit with the names of the table in place of the numbers
abbrev pub edit_in : EngineParts → NumberedEdit → Edit
edit_in p n = edit_of p.registry.table n

-- A valid edit that isn't made yet, with its numbers. The rows are lawful, and the weight is their weight. The table holds the names of
-- the rows and the new names of the edit.
pub record AreBeside (p : EngineParts) (n : NumberedEdit) : Type 0 where
  pub lawful : IsLawful (rows_in p)
  pub weight : p.weight ≡ weight (rows_in p)
  pub are : AreOf p.registry p.verdicts (rows_in p) (names_coming p.registry.table n)
  pub found : IsFound p.registry.table n
  pub valid : is_valid_edit (edit_in p n) ≡ true
  pub formed : IsFormed (edit_in p n)
