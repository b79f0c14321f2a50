-- The snapshot of a state: the snapshot of its rows, in which an entry's successors are places.
use Rattle.std.specs.Prelude.{position, ◌≡◌, ◌+◌, ◌≤◌, ℕ, suc, length, List, [], ◌∷◌, map, if◌then◌else◌, Option, Some, None, slice_get, true}
use Rattle.std.specs.Option.{option_map}
use Rattle.std.specs.List.{AllByRecursion, flat_map}
use Rattle.std.specs.Str.{is_utf8}
use Rattle.cpe_rows.specs.cpe_name.Eleven.{Values}
use Rattle.cpe_rows.specs.Rows.{Rows, is_named}
use Rattle.cpe_rows.specs.Lawful.{IsLawful}
use Rattle.cpe_rows.specs.Weight.{weight}
use Rattle.cpe_rows.specs.declared.entry.Deprecation.{Deprecation}
use Rattle.cpe_rows.specs.declared.entry.Entry.{Entry}
use Rattle.cpe_rows.specs.declared.entry.Note.{Note}
use Rattle.cpe_rows.specs.declared.statement.Statement.{Statement}
use Rattle.cpe_rows.specs.declared.test.CheckKey.{CheckKey}
use Rattle.cpe_rows.specs.declared.test.Test.{Test}
use Rattle.cpe_rows.specs.declared.test.Test.TheOpen.{Test-F}
use Rattle.cpe_rows.specs.declared.test.Test.TheFolds.{fold-Test}
use Rattle.cpe_rows.specs.declared.truth.Truth.{Truth}
use Rattle.snapshot_bytes.specs.declared.rows.KeptResult.{KeptResult}
use Rattle.snapshot_bytes.specs.declared.rows.PlacedDeprecation.{PlacedDeprecation}
use Rattle.snapshot_bytes.specs.declared.rows.PlacedEntry.{PlacedEntry}
use Rattle.snapshot_bytes.specs.declared.rows.PlacedRows.{PlacedRows}
use Rattle.snapshot_bytes.specs.Snapshot.{snapshot_of}
use Rattle.snapshot_bytes.specs.StoredRows.{Spells}

-- ---- the state that rows with places represent

-- the lists have the same length, and their elements belong together pair by pair
abbrev pub OneByOne : {A B : Type 0} → (A → B → Type 0) → List A → List B → Type 0
OneByOne Belongs [] [] = Unit {0}
OneByOne Belongs [] (y ∷ ys) = ⊥
OneByOne Belongs (x ∷ xs) [] = ⊥
OneByOne Belongs (x ∷ xs) (y ∷ ys) = Belongs x y × OneByOne Belongs xs ys

-- the name of the entry at this place
abbrev pub IsNamed : List PlacedEntry → ℕ → Values → Type 0
IsNamed entries k n = option_map (λ e. e.name) (slice_get entries k) ≡ Some n

-- these are the names of the entries at these places, in the order of the places
abbrev pub AreNamed : List PlacedEntry → List ℕ → List Values → Type 0
AreNamed entries ks ns = OneByOne (IsNamed entries) ks ns

abbrev pub IsMeantDeprecation : List PlacedEntry → Option PlacedDeprecation → Option Deprecation → Type 0
IsMeantDeprecation entries None None = Unit {0}
IsMeantDeprecation entries None (Some d) = ⊥
IsMeantDeprecation entries (Some p) None = ⊥
IsMeantDeprecation entries (Some p) (Some d) = (p.kind ≡ d.kind) × AreNamed entries p.successors d.successors

-- the entry, with the names of its successors instead of their places
pub record IsMeant (entries : List PlacedEntry) (p : PlacedEntry) (e : Entry) : Type 0 where
  pub name : p.name ≡ e.name
  pub title : p.title ≡ e.title
  pub provenance : p.provenance ≡ e.provenance
  pub deprecation : IsMeantDeprecation entries p.deprecation e.deprecation

abbrev pub AreMeantEntries : List PlacedEntry → List PlacedEntry → List Entry → Type 0
AreMeantEntries entries ps es = OneByOne (IsMeant entries) ps es

abbrev pub pair_of_result : KeptResult → CheckKey × Truth
pair_of_result r = (r.key, r.result)

-- the state that these rows with places represent
pub record AreMeant (placed : PlacedRows) (rows : Rows) : Type 0 where
  pub entries : AreMeantEntries placed.entries placed.entries rows.entries
  pub items : placed.items ≡ rows.items
  pub statements : placed.statements ≡ rows.statements
  pub checks : map pair_of_result placed.results ≡ rows.checks

-- the bytes are a snapshot of this state
abbrev pub Snap : Rows → List ℕ → Type 0
Snap rows bytes = (placed : PlacedRows) × AreMeant placed rows × Spells placed bytes

-- ---- places in the entries of a state

-- the place of the entry of this name: the number of entries before it
abbrev pub entry_place_in : List Entry → Values → ℕ
entry_place_in [] n = 0
entry_place_in (e ∷ es) n = if is_named n e then 0 else suc (entry_place_in es n)

abbrev pub placed_deprecation : List Entry → Deprecation → PlacedDeprecation
placed_deprecation entries d = record { kind = d.kind; successors = map (entry_place_in entries) d.successors }

abbrev pub placed_entry : List Entry → Entry → PlacedEntry
placed_entry entries e = record { name = e.name; title = e.title; provenance = e.provenance; deprecation = option_map (placed_deprecation entries) e.deprecation }

abbrev pub result_of : (CheckKey × Truth) → KeptResult
result_of c = record { key = c.0; result = c.1 }

abbrev pub placed_rows : Rows → PlacedRows
placed_rows rows = record {
  entries = map (placed_entry rows.entries) rows.entries;
  items = rows.items;
  statements = rows.statements;
  results = map result_of rows.checks;
}

abbrev pub snapshot : Rows → List ℕ
snapshot rows = snapshot_of (placed_rows rows)

-- ---- the texts of a state

-- the bytes are UTF-8: in programs a text is so by its type, in definitions a text is a list of numbers
abbrev pub IsString : List ℕ → Type 0
IsString bytes = is_utf8 bytes ≡ true

pub record IsTextEntry (e : Entry) : Type 0 where
  pub title : IsString e.title
  pub submitter : IsString e.provenance.submitter
  pub authority : IsString e.provenance.authority
  pub comments : AllByRecursion (λ (n : Note). IsString n.comment) e.provenance.notes

pub record IsTextKey (k : CheckKey) : Type 0 where
  pub system : IsString k.system
  pub href : IsString k.href
  pub id : IsString k.id

-- the keys of a test's check references, in their order
abbrev pub stored_keys_step : Test-F (List CheckKey) → List CheckKey
stored_keys_step (Test-F.Logic operator negate of) = flat_map (λ keys. keys) of
stored_keys_step (Test-F.Fact n) = []
stored_keys_step (Test-F.Check k) = k ∷ []

abbrev pub keys_of : Test → List CheckKey
keys_of = fold-Test (List CheckKey) stored_keys_step

pub record IsTextStatement (s : Statement) : Type 0 where
  pub id : IsString s.id
  pub title : IsString s.title
  pub keys : AllByRecursion IsTextKey (keys_of s.test)

-- all texts of the rows are UTF-8
pub record AreTexts (rows : Rows) : Type 0 where
  pub entries : AllByRecursion IsTextEntry rows.entries
  pub statements : AllByRecursion IsTextStatement rows.statements
  pub checks : AllByRecursion (λ (c : CheckKey × Truth). IsTextKey c.0) rows.checks

-- ---- laws

-- the place of a name is the place at which a search for the name finds the entry
abbrev pub PlacesArePositions : Type 0
PlacesArePositions = (entries : List Entry) (n : Values) (k : ℕ) → position (is_named n) entries ≡ Some k → entry_place_in entries n ≡ k

-- different states have different snapshots
abbrev pub StatesAreClear : Type 0
StatesAreClear = (rows others : Rows) (bytes : List ℕ) → Snap rows bytes → Snap others bytes → rows ≡ others

-- a lawful state whose texts are UTF-8 has this snapshot
abbrev pub StatesHaveSnapshots : Type 0
StatesHaveSnapshots = (rows : Rows) → IsLawful rows → AreTexts rows → Snap rows (snapshot rows)

-- a lawful state has no other snapshot
abbrev pub StatesHaveOne : Type 0
StatesHaveOne = (rows : Rows) (bytes : List ℕ) → IsLawful rows → Snap rows bytes → bytes ≡ snapshot rows

-- the snapshot has at most 24 bytes more than the weight of the rows
abbrev pub SnapshotsAreShort : Type 0
SnapshotsAreShort = (rows : Rows) → IsLawful rows → AreTexts rows → length (snapshot rows) ≤ weight rows + 24

-- the largest possible number of bytes of a snapshot, since the weight of rows is limited
abbrev pub most_bytes : ℕ
most_bytes = 536870936

abbrev pub SnapshotsAreWithin : Type 0
SnapshotsAreWithin = (rows : Rows) → IsLawful rows → AreTexts rows → length (snapshot rows) ≤ most_bytes
