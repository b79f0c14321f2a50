-- A registry: one table of names, and entries (NIST IR 7697) and items (NIST IR 7698) as numbers of the table.
use Rattle.std.specs.Prelude.{◌≡◌, ◌∷◌, ◌++◌, [], ℕ, Bool, List, filter, if◌then◌else◌, map}
use Rattle.std.specs.List.{AllByRecursion, list_any}
use Rattle.cpe_rows.specs.cpe_name.Eleven.{Values}
use Rattle.cpe_rows.specs.Chains.{leads_to}
use Rattle.cpe_rows.specs.Names.{is_same}
use Rattle.cpe_rows.specs.Rows.{is_named}
use Rattle.cpe_rows.specs.declared.entry.Entry.{Entry}
use Rattle.name_index.specs.declared.table.NameId.{NameId}
use Rattle.name_index.specs.Table.{IsLive, Names, kept_at}
use Rattle.names_in_order.specs.InOrder.{AreListedNames as AreLiveAt, names_numbered}
use Rattle.names_in_order.specs.Room.{MayPut, NumberList}
use Rattle.name_index.specs.Elements.{SameElements}
use Rattle.fact_laws.specs.Shown.{Shows, holds_in, names_at}
use Rattle.cpe_dictionary.specs.Kept.{entries_in, FitsTable, names_of_entries, Stored}
use Rattle.cpe_dictionary.specs.Room.{MayAddEntry, MayChange}
use Rattle.cpe_dictionary.specs.declared.plans.Plan.{Plan}

-- the table, the entries and the items; `stored` and `listed` also have the room for further entries and items
pub record Registered : Type 0 where
  pub table : Names
  pub entries : List Entry
  pub items : List Values
  pub stored : Stored
  pub listed : NumberList

abbrev pub registered : Names → Stored → NumberList → Registered
registered table s list = record { table = table; entries = entries_in table s; items = names_numbered table list.numbers; stored = s; listed = list }

-- There is room for an entry whose name has this number.
abbrev pub HasEntryRoom : Registered → NameId → Type 0
HasEntryRoom r id = MayAddEntry r.table r.stored id.0

-- There is room for a planned change of a deprecation, with this many places for notes.
abbrev pub HasChangeRoom : Registered → Plan → ℕ → Type 0
HasChangeRoom r plan places = MayChange r.stored plan places

-- There is room for an item whose name has this number.
abbrev pub HasItemRoom : Registered → NameId → Type 0
HasItemRoom r id = MayPut r.listed id.0

-- the dictionary fits the table, and the number of each item is live
pub record AreFitting (table : Names) (s : Stored) (numbers : List NameId) : Type 0 where
  pub entries : FitsTable table s
  pub items : AreLiveAt table numbers

-- the name of a number
abbrev pub name_in : Names → NameId → Values
name_in table id = (kept_at table id.0).name

-- each of these numbers is live
abbrev pub AreRegistryNames : Names → List NameId → Type 0
AreRegistryNames table numbers = AllByRecursion (λ (x : NameId). IsLive table x.0) numbers

-- the items that lead to a name: the items among its entry's sources, in the order of entries; if it has no entry, the
-- name alone, if it is an item
abbrev pub items_leading : List Entry → List Values → Values → List Values
items_leading entries items n = filter (λ s. list_any (is_same s) items) (if list_any (is_named n) entries then map (λ e. e.name) (filter (λ e. leads_to entries e.name n) entries) else n ∷ [])

-- if some test selects exactly the items of `found`, then `names` are the items that it selects, in the order of items
abbrev pub PutsItemsInOrder : Registered → List NameId → List Values → Type 0
PutsItemsInOrder r found names = (passes : Values → Bool) → SameElements (filter passes r.items) (names_at r.table found) → names ≡ filter passes r.items

-- the table holds exactly the names of the entries, of the items and of `others`, each as often as these lists have it
abbrev pub AreHeld : Registered → List Values → Type 0
AreHeld r others = Shows r.table (holds_in r.table) (others ++ (names_of_entries r.entries ++ r.items))
