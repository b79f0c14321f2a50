-- The words of members: kinds of deprecations and notes, modes, operators and truths.
use Rattle.std.specs.Prelude.{ℕ, List, [], ◌∷◌, codes, Option, find}
use Rattle.std.specs.Str.{bytes_eq}
use Rattle.cpe_rows.specs.declared.entry.Kind.{Kind}
use Rattle.cpe_rows.specs.declared.entry.Kind.TheVariants.{NameCorrection, NameRemoval, AdditionalInformation}
use Rattle.cpe_rows.specs.declared.entry.NoteKind.{NoteKind}
use Rattle.cpe_rows.specs.declared.entry.NoteKind.TheVariants as note
use Rattle.cpe_rows.specs.declared.statement.Mode.{Mode}
use Rattle.cpe_rows.specs.declared.statement.Mode.TheVariants.{Plain, Follow}
use Rattle.cpe_rows.specs.declared.test.Operator.{Operator}
use Rattle.cpe_rows.specs.declared.test.Operator.TheVariants.{And, Or}
use Rattle.cpe_rows.specs.declared.truth.Truth.{Truth}
use Rattle.cpe_rows.specs.declared.truth.Truth.TheVariants.{True, False, Error, Unknown}

-- the element of the list whose word is this text
abbrev pub spelled_word : {A : Type 0} → (A → List ℕ) → List A → List ℕ → Option A
spelled_word word all text = find (λ x. bytes_eq (word x) text) all

abbrev pub kind_word : Kind → List ℕ
kind_word NameCorrection = codes "NAME_CORRECTION"
kind_word NameRemoval = codes "NAME_REMOVAL"
kind_word AdditionalInformation = codes "ADDITIONAL_INFORMATION"

abbrev pub kind_of : List ℕ → Option Kind
kind_of = spelled_word kind_word (NameCorrection ∷ NameRemoval ∷ AdditionalInformation ∷ [])

abbrev pub note_kind_word : NoteKind → List ℕ
note_kind_word note.OriginalRecord = codes "ORIGINAL_RECORD"
note_kind_word note.AuthorityChange = codes "AUTHORITY_CHANGE"
note_kind_word note.Deprecation = codes "DEPRECATION"
note_kind_word note.DeprecationModification = codes "DEPRECATION_MODIFICATION"

abbrev pub note_kind_of : List ℕ → Option NoteKind
note_kind_of = spelled_word note_kind_word (note.OriginalRecord ∷ note.AuthorityChange ∷ note.Deprecation ∷ note.DeprecationModification ∷ [])

abbrev pub mode_word : Mode → List ℕ
mode_word Plain = codes "plain"
mode_word Follow = codes "follow"

abbrev pub mode_of : List ℕ → Option Mode
mode_of = spelled_word mode_word (Plain ∷ Follow ∷ [])

abbrev pub operator_word : Operator → List ℕ
operator_word And = codes "AND"
operator_word Or = codes "OR"

abbrev pub operator_of : List ℕ → Option Operator
operator_of = spelled_word operator_word (And ∷ Or ∷ [])

abbrev pub truth_word : Truth → List ℕ
truth_word True = codes "TRUE"
truth_word False = codes "FALSE"
truth_word Error = codes "ERROR"
truth_word Unknown = codes "UNKNOWN"

abbrev pub truth_of_word : List ℕ → Option Truth
truth_of_word = spelled_word truth_word (True ∷ False ∷ Error ∷ Unknown ∷ [])
