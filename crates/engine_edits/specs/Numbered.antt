-- Edits with numbers in place of names: the numbers of the names in the engine's table.
use Rattle.std.specs.Prelude.{◌≡◌, ◌∷◌, ⊤, Bool, true, false, List, [], ℕ, Option, Some, None}
use Rattle.cpe_rows.specs.cpe_name.Eleven.{Values}
use Rattle.name_index.specs.declared.table.NameId.{NameId}
use Rattle.name_index.specs.Table.{Names, IsLive}
use Rattle.cpe_rows.specs.FactNames.{fact_names}
use Rattle.cpe_rows.specs.declared.edit.Edit.{Edit}
use Rattle.cpe_rows.specs.declared.edit.Edit.TheVariants as edit
use Rattle.cpe_rows.specs.declared.entry.Deprecation.{Deprecation}
use Rattle.cpe_rows.specs.declared.entry.Note.{Note}
use Rattle.cpe_rows.specs.declared.entry.NoteKind.{NoteKind}
use Rattle.cpe_rows.specs.declared.entry.NoteKind.TheVariants as kind
use Rattle.cpe_rows.specs.declared.statement.Statement.{Statement}
use Rattle.fact_laws.specs.Shown.{names_at}
use Rattle.cpe_dictionary.specs.Kept.{new_entry}
use Rattle.verdicts.specs.name_registry.Registered.{AreRegistryNames, name_in}
use Rattle.engine_edits.specs.declared.numbered.Coming.{Coming}
use Rattle.engine_edits.specs.declared.numbered.Coming.TheVariants as arriving
use Rattle.engine_edits.specs.declared.numbered.Turn.{Turn}
use Rattle.engine_edits.specs.declared.numbered.Turn.TheVariants.{Give, Replace, TakeAway}
use Rattle.engine_edits.specs.declared.numbered.NumberedEdit.{NumberedEdit}
use Rattle.engine_edits.specs.declared.numbered.NumberedEdit.TheVariants as numbered

-- ---- changes of a deprecation

-- the deprecation of the entry after the change, if it has one
abbrev pub given : Turn → Option Deprecation
given (Give d) = Some d
given (Replace d) = Some d
given TakeAway = None

-- the change needs an active entry
abbrev pub is_first : Turn → Bool
is_first (Give d) = true
is_first (Replace d) = false
is_first TakeAway = false

abbrev pub note_kind : Turn → NoteKind
note_kind (Give d) = kind.Deprecation
note_kind (Replace d) = kind.DeprecationModification
note_kind TakeAway = kind.DeprecationModification

abbrev pub note_of : Turn → (date comment : List ℕ) → Note
note_of t date comment = record { kind = note_kind t; date = date; comment = comment }

-- the edit that makes this change to the entry of this name
abbrev pub turned_entry : Values → Turn → (date comment : List ℕ) → Edit
turned_entry n (Give d) date comment = edit.Deprecate n d date comment
turned_entry n (Replace d) date comment = edit.Amend n d date comment
turned_entry n TakeAway date comment = edit.Restore n date comment

-- ---- edits

-- the edit with the names of the table in place of the numbers
abbrev pub edit_of : Names → NumberedEdit → Edit
edit_of table (numbered.Entry id title provenance) = edit.Entry (new_entry (name_in table id) title provenance)
edit_of table (numbered.Item id) = edit.Item (name_in table id)
edit_of table (numbered.DropItem id) = edit.DropItem (name_in table id)
edit_of table (numbered.Change c) = turned_entry (name_in table c.id) c.turn c.date c.comment
edit_of table (numbered.PutStatement s ids) = edit.PutStatement s
edit_of table (numbered.DropStatement id) = edit.DropStatement id
edit_of table (numbered.SetCheck k t) = edit.SetCheck k t
edit_of table (numbered.DropCheck k) = edit.DropCheck k

-- The numbers are live, and their names are the names of the statement's facts, in the order of its test.
pub record AreFactNumbers (table : Names) (s : Statement) (ids : List NameId) : Type 0 where
  pub live : AreRegistryNames table ids
  pub names : names_at table ids ≡ fact_names s.test

-- the numbers of the edit are live, and those of a new statement are the numbers of its facts
abbrev pub IsFound : Names → NumberedEdit → Type 0
IsFound table (numbered.Entry id title provenance) = IsLive table id.0
IsFound table (numbered.Item id) = IsLive table id.0
IsFound table (numbered.DropItem id) = IsLive table id.0
IsFound table (numbered.Change c) = IsLive table c.id.0
IsFound table (numbered.PutStatement s ids) = AreFactNumbers table s ids.items
IsFound table e = ⊤

-- the numbers of the new names of the edit; the table holds these names for the edit until it is made
abbrev pub coming : NumberedEdit → List NameId
coming (numbered.Entry id title provenance) = id ∷ []
coming (numbered.Item id) = id ∷ []
coming (numbered.PutStatement s ids) = ids.items
coming e = []

abbrev pub numbers_held : Coming → List NameId
numbers_held arriving.Nothing = []
numbers_held (arriving.One id) = id ∷ []
numbers_held (arriving.Many ids) = ids.items

-- the new names of the edit, which the table holds besides the names of the rows
abbrev pub names_coming : Names → NumberedEdit → List Values
names_coming table e = names_at table (coming e)
