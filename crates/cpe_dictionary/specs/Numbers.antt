-- Entries and their numbers: entry k is node k.
use Rattle.std.specs.Prelude.{◌≡◌, ◌↔◌, ℕ, List, [], ◌∷◌, map, length, position, Bool, true, IsTrue, Some, None, ◌++◌, slice_get, slice_set}
use Rattle.std.specs.List.{Contains, cons_option, list_all}
use Rattle.cpe_rows.specs.Chains.{successors_of, is_active, is_successor, chain, leads_to, ends}
use Rattle.cpe_rows.specs.cpe_name.Eleven.{Values}
use Rattle.cpe_rows.specs.Lawful.{are_different, has_successors}
use Rattle.deprecation_graph.specs.Graph.{Node, next_of_node, active_in, node_of}
use Rattle.cpe_rows.specs.Rows.{is_named}
use Rattle.cpe_rows.specs.declared.entry.Entry.{Entry}
use Rattle.deprecation_graph.specs.Paths.{IsClosed}
use Rattle.deprecation_graph.specs.Chains.{reaches, chain_of, ends_of_node}
pub use Rattle.cpe_dictionary.specs.Listed.{entries_at}

-- no two entries have the same name, and the successors of a number are the numbers of its entry's successors
pub record AreNumberedEntries (entries : List Entry) (next : ℕ → List ℕ) : Type 0 where
  pub apart : (i j : ℕ) (x y : Entry) → slice_get entries i ≡ Some x → slice_get entries j ≡ Some y → IsTrue (is_named x.name y) → i ≡ j
  pub edges : (i j : ℕ) (x y : Entry) → slice_get entries i ≡ Some x → slice_get entries j ≡ Some y → IsTrue (is_successor x y) ↔ Contains (next i) j
  pub closed : IsClosed next (length entries)

-- a number is active exactly if its entry is active
abbrev pub AreActiveEntries : List Entry → (ℕ → Bool) → Type 0
AreActiveEntries entries active = (i : ℕ) (x : Entry) → slice_get entries i ≡ Some x → is_active x ≡ active i

abbrev pub ChainsByNumber : Type 0
ChainsByNumber =
    (entries : List Entry) (next : ℕ → List ℕ) (k : ℕ) (e : Entry) → AreNumberedEntries entries next → slice_get entries k ≡ Some e
    → chain entries e.name ≡ entries_at entries (chain_of next (length entries) k)

abbrev pub EndsByNumber : Type 0
EndsByNumber =
    (entries : List Entry) (next : ℕ → List ℕ) (active : ℕ → Bool) (k : ℕ) (e : Entry) → AreNumberedEntries entries next → AreActiveEntries entries active → slice_get entries k ≡ Some e
    → ends entries e.name ≡ map (λ x. x.name) (entries_at entries (ends_of_node next active (length entries) k))

abbrev pub WidthsByNumber : Type 0
WidthsByNumber =
    (entries : List Entry) (next : ℕ → List ℕ) (active : ℕ → Bool) (k : ℕ) (e : Entry) → AreNumberedEntries entries next → AreActiveEntries entries active → slice_get entries k ≡ Some e
    → length (ends entries e.name) ≡ length (ends_of_node next active (length entries) k)

abbrev pub PathsByNumber : Type 0
PathsByNumber =
    (entries : List Entry) (next : ℕ → List ℕ) (k j : ℕ) (e y : Entry) → AreNumberedEntries entries next → slice_get entries k ≡ Some e → slice_get entries j ≡ Some y
    → leads_to entries e.name y.name ≡ reaches next (length entries) k j

-- ---- the nodes of entries

-- the numbers of the entries that have these names; names without an entry are left out
abbrev pub numbers_of : List Entry → List Values → List ℕ
numbers_of entries [] = []
numbers_of entries (n ∷ ns) = cons_option (position (is_named n) entries) (numbers_of entries ns)

abbrev pub node_of_entry : List Entry → Entry → Node
node_of_entry entries e = record { active = is_active e; next = numbers_of entries (successors_of e) }

abbrev pub nodes_of_entries : List Entry → List Node
nodes_of_entries entries = map (node_of_entry entries) entries

abbrev pub NodesAreNumbered : Type 0
NodesAreNumbered = (entries : List Entry) → are_different (λ e. is_named e.name) entries ≡ true → AreNumberedEntries entries (next_of_node (nodes_of_entries entries))

abbrev pub NodesAreMarked : Type 0
NodesAreMarked = (entries : List Entry) → AreActiveEntries entries (active_in (nodes_of_entries entries))

-- the replacement of an entry by one of the same name replaces its node
abbrev pub ChangesByNumber : Type 0
ChangesByNumber =
    (entries : List Entry) (k : ℕ) (e x : Entry) → slice_get entries k ≡ Some e → x.name ≡ e.name
    → nodes_of_entries (slice_set entries k x) ≡ slice_set (nodes_of_entries entries) k (node_of_entry entries x)

-- the addition of an active entry at the end adds an active node, if all successors are entries
abbrev pub AdditionsByNumber : Type 0
AdditionsByNumber =
    (entries : List Entry) (e : Entry) → list_all (has_successors entries) entries ≡ true → is_active e ≡ true
    → nodes_of_entries (entries ++ e ∷ []) ≡ nodes_of_entries entries ++ node_of None ∷ []
