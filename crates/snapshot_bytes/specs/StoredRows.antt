-- Rows that have a snapshot. In definitions a name is eleven values, and a text or a date is a list of numbers. So the
-- conditions here are: names, texts and dates are valid, numbers fit in four bytes, and limits of rows and of levels
-- are kept.
use Rattle.std.specs.Prelude.{nat_le, ◌≡◌, ◌⊎◌, ℕ, suc, zero, ◌<◌, ◌^◌, List, length, true, Option, Some, None, Result, Ok, Err}
use Rattle.std.specs.Str.{is_utf8}
use Rattle.std.specs.List.{AllByRecursion}
use Rattle.cpe_rows.specs.cpe_name.Eleven.{Values}
use Rattle.cpe_rows.specs.cpe_name.Names.{IsName}
use Rattle.cpe_fs.specs.Grammar.{fs_text}
use Rattle.cpe_rows.specs.Date.{is_date}
use Rattle.cpe_rows.specs.Names.{is_lower}
use Rattle.cpe_rows.specs.declared.entry.Note.{Note}
use Rattle.cpe_rows.specs.declared.statement.Statement.{Statement}
use Rattle.cpe_rows.specs.declared.test.CheckKey.{CheckKey}
use Rattle.cpe_rows.specs.declared.test.Test.{Test, out-Test}
use Rattle.cpe_rows.specs.declared.test.Test.TheOpen.{Test-F}
use Rattle.cpe_rows.specs.declared.limits.TheConstants.{MOST_LEVELS, MOST_ENTRIES, MOST_ITEMS, MOST_STATEMENTS, MOST_CHECKS}
use Rattle.snapshot_bytes.specs.declared.fault.LoadFault.{LoadFault}
use Rattle.snapshot_bytes.specs.declared.fault.LoadFault.TheVariants as load
use Rattle.snapshot_bytes.specs.declared.rows.PlacedDeprecation.{PlacedDeprecation}
use Rattle.snapshot_bytes.specs.declared.rows.PlacedEntry.{PlacedEntry}
use Rattle.snapshot_bytes.specs.declared.rows.KeptResult.{KeptResult}
use Rattle.snapshot_bytes.specs.declared.rows.PlacedRows.{PlacedRows}
use Rattle.snapshot_bytes.specs.Snapshot.{snapshot_of}

-- the number fits in four bytes
abbrev pub IsNumber : ℕ → Type 0
IsNumber n = n < 2 ^ 32

-- the bytes are UTF-8, and their number fits in four bytes
abbrev pub IsStoredText : List ℕ → Type 0
IsStoredText bytes = IsNumber (length bytes) × (is_utf8 bytes ≡ true)

-- the values are a name in lower case (NIST IR 7695, 5), and the length of its formatted string fits in four bytes
abbrev pub IsSpelled : Values → Type 0
IsSpelled n = IsNumber (length (fs_text n)) × (IsName n × (is_lower n ≡ true))

-- the number of elements fits in four bytes, and each element meets the condition
abbrev pub IsCountedList : {A : Type 0} → (A → Type 0) → List A → Type 0
IsCountedList Fits xs = IsNumber (length xs) × AllByRecursion Fits xs

abbrev pub IsStoredNote : Note → Type 0
IsStoredNote n = (is_date n.date ≡ true) × IsStoredText n.comment

abbrev pub IsStoredDeprecation : Option PlacedDeprecation → Type 0
IsStoredDeprecation None = Unit {0}
IsStoredDeprecation (Some d) = IsCountedList IsNumber d.successors

pub record IsStoredEntry (e : PlacedEntry) : Type 0 where
  pub name : IsSpelled e.name
  pub title : IsStoredText e.title
  pub submitter : IsStoredText e.provenance.submitter
  pub authority : IsStoredText e.provenance.authority
  pub notes : IsCountedList IsStoredNote e.provenance.notes
  pub deprecation : IsStoredDeprecation e.deprecation

abbrev pub IsStoredKey : CheckKey → Type 0
IsStoredKey k = IsStoredText k.system × IsStoredText k.href × IsStoredText k.id

-- a test meets the conditions, if `AreChildren` is the condition for the children of a logical test
abbrev pub IsStoredStep : (List Test → Type 0) → Test-F Test → Type 0
IsStoredStep AreChildren (Test-F.Logic operator negate of) = AreChildren of
IsStoredStep AreChildren (Test-F.Fact n) = IsSpelled n
IsStoredStep AreChildren (Test-F.Check k) = IsStoredKey k

-- a test of at most this many levels of logical tests meets the conditions
abbrev pub IsStoredTest : ℕ → Test → Type 0
IsStoredTest zero t = IsStoredStep (λ of. ⊥) (out-Test t)
IsStoredTest (suc levels) t = IsStoredStep (IsCountedList (IsStoredTest levels)) (out-Test t)

pub record IsStoredStatement (s : Statement) : Type 0 where
  pub id : IsStoredText s.id
  pub title : IsStoredText s.title
  pub test : IsStoredTest MOST_LEVELS s.test

abbrev pub IsStoredResult : KeptResult → Type 0
IsStoredResult r = IsStoredKey r.key

-- the number of elements is within the limit, and each element meets the condition
abbrev pub AreAtMost : {A : Type 0} → ℕ → (A → Type 0) → List A → Type 0
AreAtMost most Fits xs = (nat_le (length xs) most ≡ true) × AllByRecursion Fits xs

pub record AreStored (rows : PlacedRows) : Type 0 where
  pub entries : AreAtMost MOST_ENTRIES IsStoredEntry rows.entries
  pub items : AreAtMost MOST_ITEMS IsSpelled rows.items
  pub statements : AreAtMost MOST_STATEMENTS IsStoredStatement rows.statements
  pub results : AreAtMost MOST_CHECKS IsStoredResult rows.results

-- the rows meet the conditions, and the bytes are their snapshot
abbrev pub Spells : PlacedRows → List ℕ → Type 0
Spells rows bytes = AreStored rows × (bytes ≡ snapshot_of rows)

-- ---- the result of reading

-- the rows whose snapshot these bytes are; or NotSnapshot, if the bytes are the snapshot of no rows
abbrev pub Reads : List ℕ → Result PlacedRows LoadFault → Type 0
Reads bytes (Ok rows) = Spells rows bytes
Reads bytes (Err load.NotSnapshot) = (rows : PlacedRows) → Spells rows bytes → ⊥
Reads bytes (Err load.Memory) = Unit {0}

-- different rows have different snapshots; rows have only one snapshot, because it is the value of a function
abbrev pub SnapshotsAreClear : Type 0
SnapshotsAreClear = (rows others : PlacedRows) (bytes : List ℕ) → Spells rows bytes → Spells others bytes → rows ≡ others

-- rows that were written are read again, unless memory runs out
abbrev pub SnapshotsAreRead : Type 0
SnapshotsAreRead = (rows : PlacedRows) (result : Result PlacedRows LoadFault) → AreStored rows → Reads (snapshot_of rows) result → (result ≡ Ok rows) ⊎ (result ≡ Err load.Memory)
