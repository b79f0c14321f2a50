-- The reserved room of a dictionary. With it, a new entry or a planned change takes no memory.
use Rattle.std.specs.Prelude.{◌≡◌, ◌≤◌, ℕ, length}
use Rattle.name_index.specs.Table.{Names}
use Rattle.cpe_dictionary.specs.Listed.{EntryList}
use Rattle.cpe_dictionary.specs.EntryRoom.{HasNoteRoom}
use Rattle.cpe_dictionary.specs.names_in_order.Room.{MayPush, SameRoll}
use Rattle.deprecation_graph.specs.Graph.{Graph, successors}
use Rattle.cpe_dictionary.specs.declared.plans.Plan.{Plan}
use Rattle.cpe_dictionary.specs.Kept.{Stored}

-- a stored dictionary, made of entries and a graph
abbrev pub stored_of : EntryList → Graph → Stored
stored_of l graph = record {
  names = l.names;
  details = l.details;
  nodes = graph.nodes;
  room = record { details = l.spare; nodes = graph.room_nodes; edges = graph.room_edges };
}

-- the entries are unchanged; the room may be larger
pub record SameStored (old new : Stored) : Type 0 where
  pub names : SameRoll old.names new.names
  pub details : new.details ≡ old.details
  pub nodes : new.nodes ≡ old.nodes

-- there is room for an entry whose name has the number `id` in the table
pub record MayAddEntry (table : Names) (s : Stored) (id : ℕ) : Type 0 where
  -- room for the number of its name
  pub names : MayPush table s.names id
  -- room for the other parts of the entry
  pub details : 1 ≤ s.room.details
  -- room for its node
  pub nodes : 1 ≤ s.room.nodes

-- there is room for a planned change, and for a note in memory for this number of notes
pub record MayChange (s : Stored) (p : Plan) (room : ℕ) : Type 0 where
  -- room for the edges to its successors
  pub edges : length (successors p.next) ≤ s.room.edges
  -- room for a note
  pub note : HasNoteRoom s.details p.number room
