-- The snapshot of rows: bytes from which the rows can be read again. An entry's successors are written as places, from
-- 0.
use Rattle.std.specs.Prelude.{ℕ, Bool, true, false, List, [], ◌∷◌, ◌++◌, length, codes, Option, Some, None}
use Rattle.std.specs.List.{flat_map}
use Rattle.snapshot_bytes.specs.Parts.{number, text, name, list}
use Rattle.snapshot_bytes.specs.declared.rows.PlacedDeprecation.{PlacedDeprecation}
use Rattle.snapshot_bytes.specs.declared.rows.PlacedEntry.{PlacedEntry}
use Rattle.snapshot_bytes.specs.declared.rows.KeptResult.{KeptResult}
use Rattle.snapshot_bytes.specs.declared.rows.PlacedRows.{PlacedRows}
use Rattle.cpe_rows.specs.declared.entry.Note.{Note}
use Rattle.cpe_rows.specs.declared.entry.NoteKind.{NoteKind}
use Rattle.cpe_rows.specs.declared.entry.NoteKind.TheVariants as note
use Rattle.cpe_rows.specs.declared.entry.Kind.{Kind}
use Rattle.cpe_rows.specs.declared.entry.Kind.TheVariants.{NameCorrection, NameRemoval, AdditionalInformation}
use Rattle.cpe_rows.specs.declared.statement.Statement.{Statement}
use Rattle.cpe_rows.specs.declared.statement.Mode.{Mode}
use Rattle.cpe_rows.specs.declared.statement.Mode.TheVariants.{Plain, Follow}
use Rattle.cpe_rows.specs.declared.test.CheckKey.{CheckKey}
use Rattle.cpe_rows.specs.declared.test.Operator.{Operator}
use Rattle.cpe_rows.specs.declared.test.Operator.TheVariants.{And, Or}
use Rattle.cpe_rows.specs.declared.test.Test.{Test}
use Rattle.cpe_rows.specs.declared.test.Test.TheOpen.{Test-F}
use Rattle.cpe_rows.specs.declared.test.Test.TheFolds.{fold-Test}
use Rattle.cpe_rows.specs.declared.truth.Truth.{Truth}
use Rattle.cpe_rows.specs.declared.truth.Truth.TheVariants.{True, False, Error, Unknown}

-- ---- one byte for each kind

abbrev pub kind_byte : Kind → ℕ
kind_byte NameCorrection = 1
kind_byte NameRemoval = 2
kind_byte AdditionalInformation = 3

abbrev pub note_byte : NoteKind → ℕ
note_byte note.OriginalRecord = 0
note_byte note.AuthorityChange = 1
note_byte note.Deprecation = 2
note_byte note.DeprecationModification = 3

abbrev pub mode_byte : Mode → ℕ
mode_byte Plain = 0
mode_byte Follow = 1

abbrev pub operator_byte : Operator → ℕ
operator_byte And = 0
operator_byte Or = 1

abbrev pub flag_byte : Bool → ℕ
flag_byte false = 0
flag_byte true = 1

abbrev pub truth_byte : Truth → ℕ
truth_byte True = 0
truth_byte False = 1
truth_byte Error = 2
truth_byte Unknown = 3

-- ---- rows

-- the kind, the ten bytes of the date, and the comment
abbrev pub note_row : Note → List ℕ
note_row n = note_byte n.kind ∷ (n.date ++ text n.comment)

-- the kind and the places of the successors; a zero for an entry without a deprecation
abbrev pub deprecation_part : Option PlacedDeprecation → List ℕ
deprecation_part None = 0 ∷ []
deprecation_part (Some d) = kind_byte d.kind ∷ list number d.successors

abbrev pub entry_row : PlacedEntry → List ℕ
entry_row e =
    name e.name ++ (text e.title ++ (text e.provenance.submitter ++ (text e.provenance.authority
    ++ (list note_row e.provenance.notes ++ deprecation_part e.deprecation))))

abbrev pub key_part : CheckKey → List ℕ
key_part k = text k.system ++ (text k.href ++ text k.id)

-- a logical test is followed by its children, each of them whole
abbrev pub test_bytes_step : Test-F (List ℕ) → List ℕ
test_bytes_step (Test-F.Logic operator negate of) = 0 ∷ operator_byte operator ∷ flag_byte negate ∷ list (λ child. child) of
test_bytes_step (Test-F.Fact n) = 1 ∷ name n
test_bytes_step (Test-F.Check k) = 2 ∷ key_part k

abbrev pub test_part : Test → List ℕ
test_part = fold-Test (List ℕ) test_bytes_step

abbrev pub statement_row : Statement → List ℕ
statement_row s = text s.id ++ (text s.title ++ (mode_byte s.mode ∷ test_part s.test))

abbrev pub result_row : KeptResult → List ℕ
result_row r = key_part r.key ++ truth_byte r.result ∷ []

-- ---- all rows

abbrev pub mark : List ℕ
mark = codes "CPESNAP1"

-- the head of a snapshot: the mark, and the number of rows of each kind
abbrev pub head : PlacedRows → List ℕ
head rows = mark ++ (number (length rows.entries) ++ (number (length rows.items) ++ (number (length rows.statements) ++ number (length rows.results))))

abbrev pub snapshot_of : PlacedRows → List ℕ
snapshot_of rows =
    head rows ++ (flat_map entry_row rows.entries ++ (flat_map name rows.items
    ++ (flat_map statement_row rows.statements ++ flat_map result_row rows.results)))

-- the deprecation of this kind, if there is one, with the successors at these places
abbrev pub placed_deprecation : Option Kind → List ℕ → Option PlacedDeprecation
placed_deprecation None successors = None
placed_deprecation (Some k) successors = Some (record { kind = k; successors = successors })
