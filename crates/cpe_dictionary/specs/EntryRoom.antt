-- The reserved room of entries. With it, adding an entry or a note takes no memory.
use Rattle.std.specs.Prelude.{◌≡◌, ◌≤◌, ◌+◌, ℕ, List, length, Some, slice_get}
use Rattle.name_index.specs.Table.{Names}
use Rattle.names_in_order.specs.Room.{MayPush, SameRoll}
use Rattle.cpe_dictionary.specs.declared.kept.EntryDetails.{EntryDetails}
use Rattle.cpe_dictionary.specs.Listed.{EntryList}

-- there is room for an entry whose name has the number `id` in the table
pub record MayPushEntry (table : Names) (l : EntryList) (id : ℕ) : Type 0 where
  pub names : MayPush table l.names id
  pub spare : 1 ≤ l.spare

-- the entries are unchanged; the room may be larger
pub record SameEntries (old new : EntryList) : Type 0 where
  pub names : SameRoll old.names new.names
  pub details : new.details ≡ old.details

-- the room is enough for all notes of the entry at a place and a further note, if there is such an entry
abbrev pub HasNoteRoom : List EntryDetails → ℕ → ℕ → Type 0
HasNoteRoom details place room = (x : EntryDetails) → slice_get details place ≡ Some x → length x.provenance.notes + 1 ≤ room
