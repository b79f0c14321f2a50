-- Readers: a reader returns the part with which some bytes begin, and the bytes after it.
use Rattle.std.specs.Prelude.{nat_le, ◌&&◌, ◌≡◌, ℕ, zero, suc, ◌==◌, List, [], ◌∷◌, length, take, drop, Bool, true, false, Option, Some, None, Result, Ok, Err, nat_lt, slice_get, if◌then◌else◌}
use Rattle.std.specs.Str.{is_utf8, bytes_eq}
use Rattle.std.specs.Int.{w32, from_be_bytes}
use Rattle.cpe_rows.specs.cpe_name.Eleven.{Values}
use Rattle.cpe_fs.specs.Unbound.{read_fs}
use Rattle.cpe_rows.specs.Date.{is_date}
use Rattle.cpe_rows.specs.Names.{is_lower}
use Rattle.cpe_rows.specs.declared.entry.Note.{Note}
use Rattle.cpe_rows.specs.declared.entry.Provenance.{Provenance}
use Rattle.cpe_rows.specs.declared.entry.NoteKind.{NoteKind}
use Rattle.cpe_rows.specs.declared.entry.NoteKind.TheVariants as note
use Rattle.cpe_rows.specs.declared.entry.Kind.{Kind}
use Rattle.cpe_rows.specs.declared.entry.Kind.TheVariants.{NameCorrection, NameRemoval, AdditionalInformation}
use Rattle.cpe_rows.specs.declared.statement.Statement.{Statement}
use Rattle.cpe_rows.specs.declared.statement.Mode.{Mode}
use Rattle.cpe_rows.specs.declared.statement.Mode.TheVariants.{Plain, Follow}
use Rattle.cpe_rows.specs.declared.test.CheckKey.{CheckKey}
use Rattle.cpe_rows.specs.declared.test.Operator.{Operator}
use Rattle.cpe_rows.specs.declared.test.Operator.TheVariants.{And, Or}
use Rattle.cpe_rows.specs.declared.test.Test.{Test, Logic, Fact, Check}
use Rattle.cpe_rows.specs.declared.truth.Truth.{Truth}
use Rattle.cpe_rows.specs.declared.truth.Truth.TheVariants.{True, False, Error, Unknown}
use Rattle.cpe_rows.specs.declared.limits.TheConstants.{MOST_LEVELS, MOST_ENTRIES, MOST_ITEMS, MOST_STATEMENTS, MOST_CHECKS}
use Rattle.snapshot_bytes.specs.declared.fault.LoadFault.{LoadFault}
use Rattle.snapshot_bytes.specs.declared.fault.LoadFault.TheVariants as fault
use Rattle.snapshot_bytes.specs.declared.rows.PlacedDeprecation.{PlacedDeprecation}
use Rattle.snapshot_bytes.specs.declared.rows.PlacedEntry.{PlacedEntry}
use Rattle.snapshot_bytes.specs.declared.read.StoredDetails.{StoredDetails}
use Rattle.snapshot_bytes.specs.declared.load.Head.{Head}
use Rattle.snapshot_bytes.specs.declared.rows.KeptResult.{KeptResult}
use Rattle.snapshot_bytes.specs.declared.rows.PlacedRows.{PlacedRows}
use Rattle.snapshot_bytes.specs.Snapshot.{mark}

infixl 10 ◌>>=◌
abbrev pub ◌>>=◌ : {A B : Type 0} → Option A → (A → Option B) → Option B
(Some x) >>= f = f x
None >>= f = None

-- a reader's result, and the bytes after it, are those of the definition `read`, unless memory ran out
abbrev pub Took : {A : Type 0} → Result A LoadFault → List ℕ → Option (A × List ℕ) → Type 0
Took (Ok x) left read = read ≡ Some (x, left)
Took (Err fault.NotSnapshot) left read = read ≡ None
Took (Err fault.Memory) left read = Unit {0}

-- the same of a reader that allocates nothing
abbrev pub Found : {A : Type 0} → Result A LoadFault → List ℕ → Option (A × List ℕ) → Type 0
Found (Ok x) left read = read ≡ Some (x, left)
Found (Err e) left read = (e ≡ fault.NotSnapshot) × (read ≡ None)

-- the result of a function without a cursor is that of the definition, unless memory ran out
abbrev pub IsReadAs : {A : Type 0} → Result A LoadFault → Option A → Type 0
IsReadAs (Ok x) said = said ≡ Some x
IsReadAs (Err fault.NotSnapshot) said = said ≡ None
IsReadAs (Err fault.Memory) said = Unit {0}

-- ---- combinations of readers

-- two parts, one after the other
abbrev pub read_both : {A B : Type 0} → (List ℕ → Option (A × List ℕ)) → (List ℕ → Option (B × List ℕ)) → List ℕ → Option ((A × B) × List ℕ)
read_both first second bytes = do
  x ← first bytes
  y ← second x.1
  Some ((x.0, y.0), y.1)

-- a value made of a part
abbrev pub made : {A B : Type 0} → (A → B) → (List ℕ → Option (A × List ℕ)) → List ℕ → Option (B × List ℕ)
made make read bytes = do
  x ← read bytes
  Some (make x.0, x.1)

-- a value that a part gives, if it gives one
abbrev pub read_as : {A B : Type 0} → (A → Option B) → (List ℕ → Option (A × List ℕ)) → List ℕ → Option (B × List ℕ)
read_as store_it read bytes = do
  x ← read bytes
  y ← store_it x.0
  Some (y, x.1)

-- a list of as many parts as the count
abbrev pub many : {A : Type 0} → (List ℕ → Option (A × List ℕ)) → ℕ → List ℕ → Option (List A × List ℕ)
many read zero bytes = Some ([], bytes)
many read (suc n) bytes = do
  x ← read bytes
  others ← many read n x.1
  Some (x.0 ∷ others.0, others.1)

-- ---- parts

abbrev pub byte_at : List ℕ → Option (ℕ × List ℕ)
byte_at [] = None
byte_at (b ∷ rest) = Some (b, rest)

abbrev pub bytes_at : ℕ → List ℕ → Option (List ℕ × List ℕ)
bytes_at n bytes = if nat_lt (length bytes) n then None else Some (take n bytes, drop n bytes)

unfoldable pub number_at : List ℕ → Option (ℕ × List ℕ)
number_at bytes = made (from_be_bytes w32) (bytes_at 4) bytes

-- a number, and as many bytes after it; the result has only the bytes
unfoldable pub counted_at : List ℕ → Option (List ℕ × List ℕ)
counted_at bytes = do
  n ← number_at bytes
  bytes_at n.0 n.1

abbrev pub read_when : {A : Type 0} → (A → Bool) → A → Option A
read_when test x = if test x then Some x else None

unfoldable pub text_at : List ℕ → Option (List ℕ × List ℕ)
text_at bytes = read_as (read_when is_utf8) counted_at bytes

abbrev pub named_by : Result Values ℕ → Option Values
named_by (Ok n) = Some n
named_by (Err place) = None

-- the name in lower case that has this formatted string
unfoldable pub name_of : List ℕ → Option Values
name_of s = do
  n ← named_by (read_fs s)
  read_when is_lower n

unfoldable pub name_at : List ℕ → Option (Values × List ℕ)
name_at bytes = read_as name_of counted_at bytes

-- a list: the number of its parts, and then the parts
unfoldable pub list_at : {A : Type 0} → (List ℕ → Option (A × List ℕ)) → List ℕ → Option (List A × List ℕ)
list_at read bytes = do
  n ← number_at bytes
  many read n.0 n.1

-- ---- kinds: a byte is the place of a kind in the list of all kinds

-- no deprecation, or the kind of a deprecation
abbrev pub deprecation_kinds : List (Option Kind)
deprecation_kinds = None ∷ Some NameCorrection ∷ Some NameRemoval ∷ Some AdditionalInformation ∷ []

abbrev pub note_kinds : List NoteKind
note_kinds = note.OriginalRecord ∷ note.AuthorityChange ∷ note.Deprecation ∷ note.DeprecationModification ∷ []

abbrev pub modes : List Mode
modes = Plain ∷ Follow ∷ []

abbrev pub operators : List Operator
operators = And ∷ Or ∷ []

abbrev pub flags : List Bool
flags = false ∷ true ∷ []

abbrev pub truths : List Truth
truths = True ∷ False ∷ Error ∷ Unknown ∷ []

-- ---- rows

abbrev pub note_from : (NoteKind × (List ℕ × List ℕ)) → Note
note_from p = record { kind = p.0; date = p.1.0; comment = p.1.1 }

unfoldable pub date_at : List ℕ → Option (List ℕ × List ℕ)
date_at bytes = read_as (read_when is_date) (bytes_at 10) bytes

unfoldable pub note_at : List ℕ → Option (Note × List ℕ)
note_at bytes = made note_from (read_both (read_as (slice_get note_kinds) byte_at) (read_both date_at text_at)) bytes

-- a deprecation of this kind, whose successors are read; no deprecation if there is no kind
abbrev pub successors_at : Option Kind → List ℕ → Option (Option PlacedDeprecation × List ℕ)
successors_at None bytes = Some (None, bytes)
successors_at (Some k) bytes = made (λ s. Some (record { kind = k; successors = s })) (list_at number_at) bytes

unfoldable pub deprecation_at : List ℕ → Option (Option PlacedDeprecation × List ℕ)
deprecation_at bytes = do
  k ← read_as (slice_get deprecation_kinds) byte_at bytes
  successors_at k.0 k.1

abbrev pub provenance_from : (List ℕ × (List ℕ × List Note)) → Provenance
provenance_from p = record { submitter = p.0; authority = p.1.0; notes = p.1.1 }

unfoldable pub provenance_at : List ℕ → Option (Provenance × List ℕ)
provenance_at bytes = made provenance_from (read_both text_at (read_both text_at (list_at note_at))) bytes

abbrev pub details_from : (List ℕ × (Provenance × Option PlacedDeprecation)) → StoredDetails
details_from p = record { title = p.0; provenance = p.1.0; deprecation = p.1.1 }

-- the parts of an entry after its name
unfoldable pub details_at : List ℕ → Option (StoredDetails × List ℕ)
details_at bytes = made details_from (read_both text_at (read_both provenance_at deprecation_at)) bytes

abbrev pub placed_entry_from : (Values × StoredDetails) → PlacedEntry
placed_entry_from p = record { name = p.0; title = p.1.title; provenance = p.1.provenance; deprecation = p.1.deprecation }

unfoldable pub entry_at : List ℕ → Option (PlacedEntry × List ℕ)
entry_at bytes = made placed_entry_from (read_both name_at details_at) bytes

abbrev pub key_from : (List ℕ × (List ℕ × List ℕ)) → CheckKey
key_from p = record { system = p.0; href = p.1.0; id = p.1.1 }

unfoldable pub key_at : List ℕ → Option (CheckKey × List ℕ)
key_at bytes = made key_from (read_both text_at (read_both text_at text_at)) bytes

abbrev pub logic_from : (Operator × (Bool × List Test)) → Test
logic_from p = Logic p.0 p.1.0 p.1.1

-- a logical test after its first byte, by the reader of its children
unfoldable pub logic_at : (List ℕ → Option (Test × List ℕ)) → List ℕ → Option (Test × List ℕ)
logic_at child bytes = made logic_from (read_both (read_as (slice_get operators) byte_at) (read_both (read_as (slice_get flags) byte_at) (list_at child))) bytes

-- a test after its first byte, by the reader of a logical test
abbrev pub test_of : (List ℕ → Option (Test × List ℕ)) → ℕ → List ℕ → Option (Test × List ℕ)
test_of logic zero bytes = logic bytes
test_of logic (suc zero) bytes = made Fact name_at bytes
test_of logic (suc (suc zero)) bytes = made Check key_at bytes
test_of logic (suc (suc (suc b))) bytes = None

-- a whole test, by the reader of a logical test
abbrev pub node_at : (List ℕ → Option (Test × List ℕ)) → List ℕ → Option (Test × List ℕ)
node_at logic bytes = do
  b ← byte_at bytes
  test_of logic b.0 b.1

-- a logical test of at most this many levels, after its first byte
unfoldable pub logic_within : ℕ → List ℕ → Option (Test × List ℕ)
logic_within zero bytes = None
logic_within (suc levels) bytes = logic_at (node_at (logic_within levels)) bytes

-- a test of at most this many levels of logical tests
unfoldable pub test_at : ℕ → List ℕ → Option (Test × List ℕ)
test_at levels bytes = node_at (logic_within levels) bytes

abbrev pub statement_from : (List ℕ × (List ℕ × (Mode × Test))) → Statement
statement_from p = record { id = p.0; title = p.1.0; mode = p.1.1.0; test = p.1.1.1 }

unfoldable pub statement_at : List ℕ → Option (Statement × List ℕ)
statement_at bytes = made statement_from (read_both text_at (read_both text_at (read_both (read_as (slice_get modes) byte_at) (test_at MOST_LEVELS)))) bytes

abbrev pub result_from : (CheckKey × Truth) → KeptResult
result_from p = record { key = p.0; result = p.1 }

unfoldable pub result_at : List ℕ → Option (KeptResult × List ℕ)
result_at bytes = made result_from (read_both key_at (read_as (slice_get truths) byte_at)) bytes

-- ---- all rows

-- the mark has no value: it is there or not
abbrev pub nothing_if : Bool → Option (Unit {0})
nothing_if true = Some tt
nothing_if false = None

unfoldable pub mark_at : List ℕ → Option (Unit {0} × List ℕ)
mark_at bytes = read_as (λ s. nothing_if (bytes_eq s mark)) (bytes_at 8) bytes

abbrev pub head_from : (Unit {0} × (ℕ × (ℕ × (ℕ × ℕ)))) → Head
head_from p = record { entries = p.1.0; items = p.1.1.0; statements = p.1.1.1.0; results = p.1.1.1.1 }

-- the numbers of rows are within their limits
abbrev pub is_few : Head → Bool
is_few h = nat_le h.entries MOST_ENTRIES && (nat_le h.items MOST_ITEMS && (nat_le h.statements MOST_STATEMENTS && nat_le h.results MOST_CHECKS))

unfoldable pub numbers_at : List ℕ → Option (Head × List ℕ)
numbers_at bytes = made head_from (read_both mark_at (read_both number_at (read_both number_at (read_both number_at number_at)))) bytes

-- the head of a snapshot: the mark, and the numbers of rows
unfoldable pub head_at : List ℕ → Option (Head × List ℕ)
head_at bytes = read_as (read_when is_few) numbers_at bytes

abbrev pub rows_from : (List PlacedEntry × (List Values × (List Statement × List KeptResult))) → PlacedRows
rows_from p = record { entries = p.0; items = p.1.0; statements = p.1.1.0; results = p.1.1.1 }

-- as many rows of each kind as the head says
unfoldable pub rows_at : Head → List ℕ → Option (PlacedRows × List ℕ)
rows_at h bytes = made rows_from (read_both (many entry_at h.entries) (read_both (many name_at h.items) (read_both (many statement_at h.statements) (many result_at h.results)))) bytes

-- the value that was read, if no bytes are left
abbrev pub read_whole : {A : Type 0} → (A × List ℕ) → Option A
read_whole x = if length x.1 == 0 then Some x.0 else None

-- the rows, if all bytes are read
unfoldable pub rows_of : List ℕ → Option PlacedRows
rows_of bytes = do
  h ← head_at bytes
  rows ← rows_at h.0 h.1
  read_whole rows
