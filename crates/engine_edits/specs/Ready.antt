-- An edit for which all memory is taken, with places for the verdicts that it changes.
use Rattle.std.specs.Prelude.{◌≡◌, ◌≤◌, ◌∷◌, ◌++◌, [], ℕ, List, None, length, map}
use Rattle.cpe_rows.specs.Accepted.{IsAccepted}
use Rattle.cpe_rows.specs.After.{after}
use Rattle.cpe_rows.specs.Causes.{causes}
use Rattle.cpe_rows.specs.Filling.{Filling}
use Rattle.cpe_rows.specs.Lawful.{IsLawful}
use Rattle.cpe_rows.specs.Rows.{Rows}
use Rattle.cpe_rows.specs.Step.{first_some}
use Rattle.cpe_rows.specs.Verdict.{verdict}
use Rattle.cpe_rows.specs.Weight.{weight}
use Rattle.cpe_rows.specs.declared.edit.Edit.{Edit}
use Rattle.cpe_rows.specs.declared.edit.Edit.TheVariants as edit
use Rattle.cpe_rows.specs.declared.reply.Changed.{Changed}
use Rattle.cpe_rows.specs.declared.statement.Mode.TheVariants.{Follow}
use Rattle.cpe_rows.specs.declared.statement.Statement.{Statement}
use Rattle.cpe_dictionary.specs.Kept.{new_entry}
use Rattle.cpe_dictionary.specs.Plans.{IsPlan}
use Rattle.fact_laws.specs.Asked.{names_of_rows}
use Rattle.fact_laws.specs.Shown.{holds_in, names_at, Shows}
use Rattle.name_index.specs.declared.table.NameId.{NameId}
use Rattle.name_index.specs.Table.{IsLive, Names}
use Rattle.verdicts.specs.Addition.{HasVerdictsBeside, IsAddition}
use Rattle.verdicts.specs.Items.{HasRoomForItem}
use Rattle.verdicts.specs.Leads.{IsReadyLead}
use Rattle.verdicts.specs.Removal.{IsRemoval}
use Rattle.verdicts.specs.Verdicts.{known_in}
use Rattle.verdicts.specs.statement_rows.State.{IsReadyTruth}
use Rattle.verdicts.specs.name_registry.Registered.{HasChangeRoom, HasEntryRoom, HasItemRoom, name_in}
use Rattle.verdicts.specs.declared.addition.Addition.{Addition}
use Rattle.verdicts.specs.declared.removal.Removal.{Removal}
use Rattle.verdicts.specs.facts.Facts.{LeadsTo}
use Rattle.verdicts.specs.name_registry.check_results.declared.ready_result.ReadyResult.{ReadyResult}
use Rattle.engine_edits.specs.Numbered.{AreFactNumbers, given, turned_entry}
use Rattle.engine_edits.specs.Parts.{AreOf, rows_in}
use Rattle.engine_edits.specs.declared.parts.EngineParts.{EngineParts}
use Rattle.engine_edits.specs.declared.ready.Ready.{Ready}
use Rattle.engine_edits.specs.declared.ready.Ready.TheVariants as ready
use Rattle.engine_edits.specs.declared.ready.ReadyChange.{ReadyChange}
use Rattle.engine_edits.specs.declared.ready.ReadyEdit.{ReadyEdit}

-- the statement that is added
abbrev pub added : Addition → Statement
added a = a.statement.numbered.value.statement

-- the edit with the names of the table in place of the numbers
abbrev pub edit_ready : Names → Ready → Edit
edit_ready table (ready.Entry id title provenance) = edit.Entry (new_entry (name_in table id) title provenance)
edit_ready table (ready.Item id ends) = edit.Item (name_in table id)
edit_ready table (ready.DropItem id ends) = edit.DropItem (name_in table id)
edit_ready table (ready.Change c) = turned_entry (name_in table c.change.id) c.change.turn c.change.date c.change.comment
edit_ready table (ready.PutStatement addition ids) = edit.PutStatement (added addition)
edit_ready table (ready.DropStatement id removal) = edit.DropStatement id
edit_ready table (ready.SetCheck result truth) = edit.SetCheck result.key truth
edit_ready table (ready.DropCheck key) = edit.DropCheck key

-- The table holds the name of a new entry, and there is room for the entry.
pub record IsReadyEntry (p : EngineParts) (id : NameId) : Type 0 where
  pub are : AreOf p.registry p.verdicts (rows_in p) (name_in p.registry.table id ∷ [])
  pub live : IsLive p.registry.table id.0
  pub room : HasEntryRoom p.registry id

-- The table holds the name of a new item. The name leads to these ends, and there is room for the item.
pub record IsReadyItem (p : EngineParts) (id : NameId) (its_ends : List NameId) : Type 0 where
  pub are : AreOf p.registry p.verdicts (rows_in p) (name_in p.registry.table id ∷ [])
  pub live : IsLive p.registry.table id.0
  pub ends : LeadsTo p.registry.table (rows_in p).entries Follow id.0 its_ends
  pub room : HasItemRoom p.registry id
  pub boards : HasRoomForItem p.verdicts.facts p.registry.table (length its_ends)

-- The table holds only the names of the rows. The name of the item leads to these ends.
pub record IsReadyDrop (p : EngineParts) (id : NameId) (its_ends : List NameId) : Type 0 where
  pub are : AreOf p.registry p.verdicts (rows_in p) []
  pub live : IsLive p.registry.table id.0
  pub ends : LeadsTo p.registry.table (rows_in p).entries Follow id.0 its_ends

-- A change of a deprecation has its plan, the ends that it changes, and room for its edges and its note.
pub record IsReadyChange (p : EngineParts) (c : ReadyChange) : Type 0 where
  pub are : AreOf p.registry p.verdicts (rows_in p) []
  pub live : IsLive p.registry.table c.change.id.0
  pub plan : IsPlan (rows_in p).entries (name_in p.registry.table c.change.id) (given c.change.turn) c.plan
  pub lead : IsReadyLead p.verdicts p.registry.table (rows_in p) (after (rows_in p) (edit_ready p.registry.table (ready.Change c))).entries (name_in p.registry.table c.change.id) c.lead
  pub room : HasChangeRoom p.registry c.plan c.note

-- The table holds the names of a new statement's facts, under these numbers. All memory for the statement is taken.
pub record IsReadyStatement (p : EngineParts) (a : Addition) (ids : List NameId) : Type 0 where
  pub numbered : AreFactNumbers p.registry.table (added a) ids
  pub held : Shows p.registry.table (holds_in p.registry.table) (names_at p.registry.table ids ++ names_of_rows (rows_in p))
  pub addition : IsAddition p.verdicts p.registry.table (rows_in p).entries (added a) ids a
  pub verdicts : HasVerdictsBeside p.registry.table p.verdicts (rows_in p) (added a) a

-- The table holds only the names of the rows. All memory for the result of the check is taken.
pub record IsReadyCheck (p : EngineParts) (r : ReadyResult) : Type 0 where
  pub are : AreOf p.registry p.verdicts (rows_in p) []
  pub room : IsReadyTruth p.verdicts.statements r.key r

-- The table holds only the names of the rows. This is what is removed with the statement.
pub record IsReadyRemoval (p : EngineParts) (id : List ℕ) (r : Removal) : Type 0 where
  pub are : AreOf p.registry p.verdicts (rows_in p) []
  pub removal : IsRemoval p.verdicts id r

-- what was found and taken is all that the edit needs, by its kind
abbrev pub HasAll : EngineParts → Ready → Type 0
HasAll p (ready.Entry id title provenance) = IsReadyEntry p id
HasAll p (ready.Item id ends) = IsReadyItem p id ends.items
HasAll p (ready.DropItem id ends) = IsReadyDrop p id ends.items
HasAll p (ready.Change c) = IsReadyChange p c
HasAll p (ready.PutStatement a ids) = IsReadyStatement p a ids.items
HasAll p (ready.DropStatement id r) = IsReadyRemoval p id r
HasAll p (ready.SetCheck r truth) = IsReadyCheck p r
HasAll p (ready.DropCheck key) = AreOf p.registry p.verdicts (rows_in p) []

-- The number of places for changed verdicts. A new entry needs none. A statement that is added or removed needs one. Any other edit needs
-- one for each statement.
abbrev pub places_of_edit : Rows → Edit → ℕ
places_of_edit rows (edit.Entry e) = 0
places_of_edit rows (edit.PutStatement s) = 1
places_of_edit rows (edit.DropStatement id) = 1
places_of_edit rows e = length rows.statements

-- The edit is ready. The rows are lawful, and callers know their verdicts. The edit has no fault, enough empty places for changed
-- verdicts, and all that it needs.
pub record IsReady (p : EngineParts) (r : Ready) (room : Filling Changed) : Type 0 where
  pub lawful : IsLawful (rows_in p)
  pub accepted : IsAccepted (rows_in p) (edit_ready p.registry.table r) (after (rows_in p) (edit_ready p.registry.table r))
  pub none : first_some (causes (rows_in p) (edit_ready p.registry.table r)) ≡ None
  pub known : known_in p.verdicts ≡ map (verdict (rows_in p)) (rows_in p).statements
  pub empty : room.list ≡ []
  pub spare : places_of_edit (rows_in p) (edit_ready p.registry.table r) ≤ room.spare
  pub all : HasAll p r

-- What is ready is this edit, and its weight is the weight of the rows after the edit.
pub record IsReadyEdit (p : EngineParts) (e : Edit) (r : ReadyEdit) : Type 0 where
  pub is : edit_ready p.registry.table r.edit ≡ e
  pub ready : IsReady p r.edit r.room
  pub weight : r.weight ≡ weight (after (rows_in p) e)
