-- The lines of records change the rows only by their edits, and take the looks of their edits and questions.
use Rattle.std.proofs.Common.{◌≡◌, ℕ, List, [], ◌∷◌, Some, None, Result, Ok, Err, ◌⊎◌, inl, inr, Option, refl, ap, sym}
use Rattle.line_session.specs.Session.{state_after}
use Rattle.line_session.specs.Folding.{ChangesBy, CostsBy}
use Rattle.cpe_rows.specs.Rows.{Rows}
use Rattle.cpe_rows.specs.Step.{step}
use Rattle.cpe_rows.specs.declared.edit.Edit as edit
use Rattle.cpe_rows.specs.declared.fault.EditFault.{EditFault}
use Rattle.cpe_records.specs.Reading.{record_of}
use Rattle.cpe_records.specs.declared.read.Record.{Record}
use Rattle.cpe_records.specs.declared.read.Record.TheVariants.{Edit, Query}
use Rattle.cpe_records.specs.declared.member.RecordFault.{RecordFault}
use Rattle.cpe_command.specs.declared.records.RecordCommand.{RecordCommand}
use Rattle.cpe_command.specs.declared.records.RecordCommand.TheVariants.{Resolve, Evaluate, Watch, Explain, Check, Save}
use Rattle.cpe_records.specs.Edited.{stepped, edited, line_edited}
use Rattle.drill_lines.specs.Looks.{line_looks}
use Rattle.certificate_check.specs.declared.certificate.Certificate.{Certificate}
use Rattle.certificate_records.specs.Reading.{certificate_read_of}
use Rattle.certificate_records.specs.declared.fault.CertificateFault.{CertificateFault}
use Rattle.certificate_records.proofs.NoRecords.{no_record}
use Rattle.cpe_command.specs.Records.{edit_text, record_step, by_record, certificate_in, by_certificate_line, record_session}

step_state : (rows : Rows) (text : Rows → List ℕ) (result : Result Rows EditFault) → state_after rows (record_step text result) ≡ stepped rows result
step_state rows text (Ok now) = refl
step_state rows text (Err fault) = refl

record_state : (command : RecordCommand) (number : ℕ) (rows : Rows) (read : Result Record RecordFault) → state_after rows (by_record command number rows read) ≡ edited rows read
record_state command number rows (Ok (Edit e)) = step_state rows (edit_text command number rows e) (step rows e)
record_state command number rows (Ok (Query query)) = refl
record_state command number rows (Err fault) = refl

-- under `check`, a line that is meant as a certificate is no record, so it changes nothing
checked_state : (number : ℕ) (rows : Rows) (text : List ℕ) (certificate : Result (Option Certificate) CertificateFault) → certificate_read_of text ≡ certificate
    → state_after rows (by_certificate_line rows certificate (by_record Check number rows (record_of text))) ≡ edited rows (record_of text)
checked_state number rows text (Ok None) is = record_state Check number rows (record_of text)
checked_state number rows text (Ok (Some p)) is = sym (ap (edited rows) (no_record text (λ none. let wrong : ⊥ = cc in wrong)))
checked_state number rows text (Err fault) is = sym (ap (edited rows) (no_record text (λ none. let wrong : ⊥ = cc in wrong)))

line_state : (command : RecordCommand) (number : ℕ) (rows : Rows) (text : List ℕ)
    → state_after rows (by_certificate_line rows (certificate_in command text) (by_record command number rows (record_of text))) ≡ edited rows (record_of text)
line_state Resolve number rows text = record_state Resolve number rows (record_of text)
line_state Evaluate number rows text = record_state Evaluate number rows (record_of text)
line_state Watch number rows text = record_state Watch number rows (record_of text)
line_state Explain number rows text = record_state Explain number rows (record_of text)
line_state Check number rows text = checked_state number rows text (certificate_read_of text) refl
line_state Save number rows text = record_state Save number rows (record_of text)

pub edits-lines : (command : RecordCommand) → ChangesBy (record_session command) line_edited
edits-lines command rows number None = refl
edits-lines command rows number (Some []) = refl
edits-lines command rows number (Some (x ∷ xs)) = line_state command number rows (x ∷ xs)

pub costs-lines : (command : RecordCommand) → CostsBy (record_session command) line_looks
costs-lines command s None = refl
costs-lines command s (Some []) = refl
costs-lines command s (Some (x ∷ xs)) = refl

-- a record is no certificate, so under `check` its line says what the record says
checked_says : (number : ℕ) (rows : Rows) (text : List ℕ) (r : Record) → record_of text ≡ Ok r → (certificate : Result (Option Certificate) CertificateFault) → certificate_read_of text ≡ certificate
    → by_certificate_line rows certificate (by_record Check number rows (record_of text)) ≡ by_record Check number rows (Ok r)
checked_says number rows text r read (Ok None) is = ap (by_record Check number rows) read
checked_says number rows text r read (Ok (Some p)) is = let refused = no_record text (λ none. let wrong : ⊥ = cc in wrong) in absurd (cc)
checked_says number rows text r read (Err fault) is = let refused = no_record text (λ none. let wrong : ⊥ = cc in wrong) in absurd (cc)

-- under each command, the line of a record says what the record says
pub record_says : (command : RecordCommand) (number : ℕ) (rows : Rows) (text : List ℕ) (r : Record) → record_of text ≡ Ok r
    → by_certificate_line rows (certificate_in command text) (by_record command number rows (record_of text)) ≡ by_record command number rows (Ok r)
record_says Resolve number rows text r read = ap (by_record Resolve number rows) read
record_says Evaluate number rows text r read = ap (by_record Evaluate number rows) read
record_says Watch number rows text r read = ap (by_record Watch number rows) read
record_says Explain number rows text r read = ap (by_record Explain number rows) read
record_says Check number rows text r read = checked_says number rows text r read (certificate_read_of text) refl
record_says Save number rows text r read = ap (by_record Save number rows) read

-- all commands except `watch` write nothing for an edit
pub quiet_edit : (command : RecordCommand) (number : ℕ) (rows : Rows) (e : edit.Edit) → (command ≡ Resolve) ⊎ (command ≡ Evaluate) ⊎ (command ≡ Explain) ⊎ (command ≡ Check) ⊎ (command ≡ Save)
    → edit_text command number rows e ≡ (λ next. [])
quiet_edit command number rows e (inl is) = ap (λ (k : RecordCommand). edit_text k number rows e) is
quiet_edit command number rows e (inr (inl is)) = ap (λ (k : RecordCommand). edit_text k number rows e) is
quiet_edit command number rows e (inr (inr (inl is))) = ap (λ (k : RecordCommand). edit_text k number rows e) is
quiet_edit command number rows e (inr (inr (inr (inl is)))) = ap (λ (k : RecordCommand). edit_text k number rows e) is
quiet_edit command number rows e (inr (inr (inr (inr is)))) = ap (λ (k : RecordCommand). edit_text k number rows e) is
