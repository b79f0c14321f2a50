-- Lemmas: a word is read as the value for which it was written.
use Rattle.std.proofs.Common.{◌≡◌, Some, refl}
use Rattle.cpe_rows.specs.declared.entry.Kind.{Kind}
use Rattle.cpe_rows.specs.declared.entry.Kind.TheVariants.{NameCorrection, NameRemoval, AdditionalInformation}
use Rattle.cpe_rows.specs.declared.entry.NoteKind.{NoteKind}
use Rattle.cpe_rows.specs.declared.entry.NoteKind.TheVariants as note
use Rattle.cpe_rows.specs.declared.statement.Mode.{Mode}
use Rattle.cpe_rows.specs.declared.statement.Mode.TheVariants.{Plain, Follow}
use Rattle.cpe_rows.specs.declared.test.Operator.{Operator}
use Rattle.cpe_rows.specs.declared.test.Operator.TheVariants.{And, Or}
use Rattle.cpe_rows.specs.declared.truth.Truth.{Truth}
use Rattle.cpe_rows.specs.declared.truth.Truth.TheVariants as truth
use Rattle.cpe_records.specs.Words.{kind_word, kind_of, note_kind_word, note_kind_of, mode_word, mode_of, operator_word, operator_of, truth_word, truth_of_word}
use Rattle.cpe_records.specs.RecordKinds.{record_word, record_kind_of}
use Rattle.cpe_records.specs.declared.record_kind.RecordKind.{RecordKind}
use Rattle.cpe_records.specs.declared.record_kind.RecordKind.TheVariants as record_kind

pub kind_read : (k : Kind) → kind_of (kind_word k) ≡ Some k
kind_read NameCorrection = refl
kind_read NameRemoval = refl
kind_read AdditionalInformation = refl

pub note_kind_read : (k : NoteKind) → note_kind_of (note_kind_word k) ≡ Some k
note_kind_read note.OriginalRecord = refl
note_kind_read note.AuthorityChange = refl
note_kind_read note.Deprecation = refl
note_kind_read note.DeprecationModification = refl

pub mode_read : (m : Mode) → mode_of (mode_word m) ≡ Some m
mode_read Plain = refl
mode_read Follow = refl

pub operator_read : (o : Operator) → operator_of (operator_word o) ≡ Some o
operator_read And = refl
operator_read Or = refl

pub truth_read : (t : Truth) → truth_of_word (truth_word t) ≡ Some t
truth_read truth.True = refl
truth_read truth.False = refl
truth_read truth.Error = refl
truth_read truth.Unknown = refl

pub record_kind_read : (v : RecordKind) → record_kind_of (record_word v) ≡ Some v
record_kind_read record_kind.Entry = refl
record_kind_read record_kind.Deprecate = refl
record_kind_read record_kind.Amend = refl
record_kind_read record_kind.Restore = refl
record_kind_read record_kind.Item = refl
record_kind_read record_kind.DropItem = refl
record_kind_read record_kind.Statement = refl
record_kind_read record_kind.DropStatement = refl
record_kind_read record_kind.Check = refl
record_kind_read record_kind.DropCheck = refl
record_kind_read record_kind.Lookup = refl
record_kind_read record_kind.Search = refl
record_kind_read record_kind.Items = refl
record_kind_read record_kind.Chain = refl
record_kind_read record_kind.Show = refl
record_kind_read record_kind.Verdict = refl
