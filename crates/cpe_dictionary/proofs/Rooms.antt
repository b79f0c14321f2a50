-- Lemmas: a dictionary with more room is otherwise the same.
use Rattle.std.proofs.Common.{◌≡◌, List, length, refl, sym, ap, subst, ◌∙◌}
use Rattle.cpe_rows.specs.declared.entry.Entry.{Entry}
use Rattle.deprecation_graph.specs.Graph.{Graph, Node}
use Rattle.name_index.specs.Table.{Names}
use Rattle.cpe_dictionary.specs.Listed.{entries_of, EntryList}
use Rattle.cpe_dictionary.specs.EntryRoom.{SameEntries}
use Rattle.cpe_dictionary.specs.names_in_order.InOrder.{names_numbered}
use Rattle.cpe_dictionary.proofs.names_in_order.RoomLemmas.{same_order}
use Rattle.cpe_dictionary.specs.Kept.{entries_in, FitsTable, IsDictionaryGraph, Stored}
use Rattle.cpe_dictionary.specs.Room.{SameStored, stored_of}

-- the entries are unchanged
pub same_entries : (table : Names) (old new : Stored) → SameStored old new → entries_in table new ≡ entries_in table old
same_entries table old new same = λ i. entries_of (names_numbered table (same.names.numbers i)) (same.details i)

-- the dictionary still fits the table
pub same_fits : (table : Names) (old new : Stored) → SameStored old new → FitsTable table old → FitsTable table new
same_fits table old new same fits = record {
  order = same_order table old.names new.names same.names fits.order;
  even = ap length same.names.numbers ∙ fits.even ∙ sym (ap length same.details);
  kept =
      subst (λ (nodes : List Node). IsDictionaryGraph (entries_in table new) nodes) (sym same.nodes)
      (subst (λ (es : List Entry). IsDictionaryGraph es old.nodes) (sym (same_entries table old new same)) fits.kept);
}

pub same_listed : (l : EntryList) → SameEntries l l
same_listed l = record { names = record { held = refl; numbers = refl }; details = refl }

pub same_stored : (old : Stored) (l more : EntryList) (graph next : Graph) → stored_of l graph ≡ old → SameEntries l more → next.nodes ≡ graph.nodes → SameStored old (stored_of more next)
same_stored old l more graph next is same nodes =
    subst (λ (s : Stored). SameStored s (stored_of more next)) is (record { names = same.names; details = same.details; nodes = nodes })
