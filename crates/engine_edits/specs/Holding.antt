-- The names of a statement's facts, which the table holds for the statement.
use Rattle.std.specs.Prelude.{◌≡◌, ◌+◌, ◌≤◌, ◌++◌, ℕ, List, length}
use Rattle.cpe_rows.specs.cpe_name.Eleven.{Values}
use Rattle.cpe_rows.specs.Rows.{Rows}
use Rattle.name_index.specs.declared.table.NameId.{NameId}
use Rattle.name_index.specs.Table.{Names}
use Rattle.fact_laws.specs.Shown.{holds_in, names_at, Shows}
use Rattle.verdicts.specs.name_registry.Registered.{AreRegistryNames, Registered}
use Rattle.verdicts.specs.Verdicts.{VerdictsNow}
use Rattle.engine_edits.specs.Parts.{AreOf}

-- the table can hold this number of further names: in all it then holds at most 4,294,967,295, and a name counts as often as it is held
abbrev pub AreFewNames : Names → ℕ → Type 0
AreFewNames table n = (list : List Values) × Shows table (holds_in table) list × (length list + n ≤ 4294967295)

-- More names are held, and their numbers are live. Entries and items are unchanged. Suppose that the old registry shows some rows,
-- and holds the names of the old numbers and some other names. Then the new registry shows the same rows, and holds the names of the
-- new numbers and the same other names.
pub record Grows (old new : Registered) (before now : List NameId) : Type 0 where
  pub entries : new.entries ≡ old.entries
  pub items : new.items ≡ old.items
  pub live : AreRegistryNames new.table now
  pub are : (v : VerdictsNow) (rows : Rows) (others : List Values) → AreOf old v rows (names_at old.table before ++ others) → AreOf new v rows (names_at new.table now ++ others)
