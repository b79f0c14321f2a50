-- Theorems about runs of the program together: one run saves a snapshot and another loads it; one converts lines and
-- another reads them; one writes certificates and another checks them. Each theorem is about what `run` writes for
-- words of the command line, by their meaning (`cpe_command`).
use Rattle.std.specs.Prelude.{◌≡◌, ℕ, List, [], ◌∷◌, ◌++◌, map, codes, find, Some, Ok}
use Rattle.std.specs.declared.option.Option.{Option}
use Rattle.std.specs.List.{AllByRecursion, flat_map}
use Rattle.cpe_command.specs.cpe_io.Lines.{lines}
use Rattle.cpe_command.specs.line_session.Session.{start, stage_after, out_from, next_writes}
use Rattle.cpe_command.specs.line_session.Folding.{folded_lines}
use Rattle.cpe_command.specs.line_session.Task.{Transcript, Says}
use Rattle.cpe_rows.specs.Rows.{Rows, no_rows, has_id}
use Rattle.cpe_rows.specs.Lawful.{IsLawful}
use Rattle.cpe_rows.specs.Verdict.{verdict}
use Rattle.cpe_rows.specs.declared.statement.Statement.{Statement}
use Rattle.cpe_records.specs.Edited.{line_edited}
use Rattle.snapshot_bytes.specs.States.{AreTexts}
use Rattle.certificate_check.specs.Certificates.{given_truth}
use Rattle.certificate_check.specs.Good.{Good}
use Rattle.certificate_check.specs.declared.certificate.Checked.TheVariants.{Holds}
use Rattle.certificate_check.specs.declared.certificate.Certificate.{Certificate}
use Rattle.certificate_search.specs.Choices.{explained_certificate}
use Rattle.certificate_records.specs.Reading.{certificate_read_of}
use Rattle.certificate_records.specs.Written.{certificate_text}
use Rattle.convert_lines.specs.line_replies.CertificateReplies.{certificate_lines, checked_line}
use Rattle.convert_lines.specs.line_replies.Replies.{verdict_table}
use Rattle.cpe_command.specs.Records.{record_session}
use Rattle.cpe_command.specs.declared.records.RecordCommand.TheVariants.{Check}
use Rattle.convert_lines.specs.Growing.{IsGrown}
use Rattle.cpe_command.specs.Loading.{state_reported}
use Rattle.cpe_command.specs.Meaning.{meaning}

-- ---- rows

-- the rows that these lines leave, one after the other, if there were no rows before
abbrev pub rows_of_lines : List (Option (List ℕ)) → Rows
rows_of_lines ls = folded_lines line_edited no_rows ls

-- the rows are lawful, and their texts are UTF-8
pub record AreLawfulTexts (rows : Rows) : Type 0 where
  pub lawful : IsLawful rows
  pub texts : AreTexts rows

-- any lines leave lawful rows, and the texts of these rows are UTF-8
abbrev pub RowsAreKept : Type 0
RowsAreKept = (ls : List (Option (List ℕ))) → AreLawfulTexts (rows_of_lines ls)

-- ---- save, then load

-- a run with this word writes this transcript for this input
abbrev pub WritesTranscript : List ℕ → List ℕ → Transcript → Type 0
WritesTranscript word input it = Says (meaning (word ∷ [])).task input it

-- `evaluate` writes its answers, and then the table of the rows; `load` writes the numbers of rows, and then the same
-- table
pub record HaveSameTable (input : List ℕ) (loaded table : Transcript) : Type 0 where
  pub answers : List ℕ
  pub loads : loaded ≡ state_reported (rows_of_lines (lines input))
  pub evaluates : table.text ≡ answers ++ verdict_table (rows_of_lines (lines input))

-- if `load` reads what `save` writes for an input, it writes the same table that `evaluate` writes for this input
abbrev pub SavedIsLoaded : Type 0
SavedIsLoaded =
    (input : List ℕ) (saved loaded table : Transcript)
    → WritesTranscript (codes "save") input saved → WritesTranscript (codes "load") saved.text loaded → WritesTranscript (codes "evaluate") input table → HaveSameTable input loaded table

-- ---- convert

-- the lines that `convert` writes for an input leave the rows that the input leaves, if no record of the input has
-- too long a form
abbrev pub ConvertedIsSame : Type 0
ConvertedIsSame =
    (input : List ℕ) (converted : Transcript) → WritesTranscript (codes "convert") input converted → AllByRecursion (λ line. IsGrown line → ⊥) (lines input)
    → rows_of_lines (lines converted.text) ≡ rows_of_lines (lines input)

-- ---- explain, then check

-- what `check` writes for a line that follows these lines
abbrev pub check_writes : List (Option (List ℕ)) → Option (List ℕ) → List ℕ
check_writes before line = next_writes (record_session Check) (stage_after (record_session Check) (start no_rows) before) line

-- the output of `check` begins with what it writes for the lines before, and then has what it writes for this line
pub record IsInOutput (before : List (Option (List ℕ))) (line : Option (List ℕ)) (text : List ℕ) : Type 0 where
  pub later : List ℕ
  pub is : text ≡ out_from (record_session Check) (start no_rows) before ++ (check_writes before line ++ later)

abbrev pub LinesAreCheckedInTurn : Type 0
LinesAreCheckedInTurn =
    (input : List ℕ) (checked : Transcript) (before more : List (Option (List ℕ))) (line : Option (List ℕ))
    → WritesTranscript (codes "check") input checked → lines input ≡ before ++ line ∷ more → IsInOutput before line checked.text

-- the certificates of these rows, one for each statement, as lines
abbrev pub certificates : Rows → List (Option (List ℕ))
certificates rows = map (λ s. Some (certificate_text (explained_certificate rows s))) rows.statements

-- what `explain` writes for an input ends with the certificates of the rows that the input leaves
pub record EndsWithCertificates (input : List ℕ) (explained : Transcript) : Type 0 where
  pub answers : List ℕ
  pub text : explained.text ≡ answers ++ certificate_lines (rows_of_lines (lines input))

-- what `check` writes ends with a line for each of these certificates, which says that it holds
pub record EndsWithHolds (input : List ℕ) (checked : Transcript) : Type 0 where
  pub answers : List ℕ
  pub text : checked.text ≡ answers ++ flat_map (λ s. checked_line s.id Holds) (rows_of_lines (lines input)).statements

abbrev pub ExplainedIsChecked : Type 0
ExplainedIsChecked =
    (input both : List ℕ) (explained checked : Transcript)
    → WritesTranscript (codes "explain") input explained → lines both ≡ lines input ++ certificates (rows_of_lines (lines input)) → WritesTranscript (codes "check") both checked
    → EndsWithCertificates input explained × EndsWithHolds input checked

-- ---- a certificate that holds has the verdict

-- a statement has the certificate's id, the certificate is good for this statement, and the truth of the certificate
-- is the statement's verdict
pub record HasVerdict (rows : Rows) (p : Certificate) : Type 0 where
  pub statement : Statement
  pub found : find (has_id p.id) rows.statements ≡ Some statement
  pub good : Good rows statement p.why
  pub gives : given_truth p.why ≡ verdict rows statement

-- a certificate has the verdict of its statement, if `check` says that the certificate holds
abbrev pub HeldIsVerdict : Type 0
HeldIsVerdict =
    (before : List (Option (List ℕ))) (line : List ℕ) (p : Certificate)
    → certificate_read_of line ≡ Ok (Some p) → check_writes before (Some line) ≡ checked_line p.id Holds → HasVerdict (rows_of_lines before) p
