-- What `resolve`, `evaluate`, `watch`, `explain`, `check` and `save` write for a line of a record, how they change
-- the rows (NIST IR 7697), and what they write at the end (NIST IR 7698).
use Rattle.std.specs.Prelude.{ℕ, Bool, true, false, List, [], Option, Some, None, Ok, Err}
use Rattle.std.specs.declared.result.Result.{Result}
use Rattle.line_session.specs.Session.{Session, Saying}
use Rattle.cpe_rows.specs.Rows.{Rows}
use Rattle.cpe_rows.specs.Step.{step}
use Rattle.cpe_rows.specs.Answers.{answer}
use Rattle.cpe_rows.specs.Changes.{changes}
use Rattle.cpe_rows.specs.declared.edit.Edit as edit
use Rattle.cpe_rows.specs.declared.edit.Query as query
use Rattle.cpe_rows.specs.declared.fault.EditFault.{EditFault}
use Rattle.cpe_records.specs.Reading.{record_of}
use Rattle.cpe_records.specs.declared.read.Record.{Record}
use Rattle.cpe_records.specs.declared.read.Record.TheVariants.{Edit, Query}
use Rattle.cpe_records.specs.declared.member.RecordFault.{RecordFault}
use Rattle.drill_lines.specs.Looks.{record_looks}
use Rattle.cpe_records.specs.snapshot_bytes.States.{snapshot}
use Rattle.line_replies.specs.Replies.{reply_text, verdict_table, changes_text}
use Rattle.line_replies.specs.Reasons.{record_fault_text, edit_fault_text, certificate_fault_text}
use Rattle.line_replies.specs.CertificateReplies.{certificate_lines, checked_line}
use Rattle.certificate_check.specs.declared.certificate.Certificate.{Certificate}
use Rattle.certificate_records.specs.Reading.{certificate_read_of}
use Rattle.certificate_records.specs.declared.fault.CertificateFault.{CertificateFault}
use Rattle.cpe_command.specs.Checking.{checked}
use Rattle.cpe_command.specs.declared.records.RecordCommand.{RecordCommand}
use Rattle.cpe_command.specs.declared.records.RecordCommand.TheVariants.{Evaluate, Watch, Explain, Check, Save}

-- what an accepted edit writes: under `watch` the verdicts that it changes, otherwise nothing; `number` is the number
-- of the edit's line, and `next` are the rows that the edit leaves
abbrev pub edit_text : RecordCommand → ℕ → Rows → edit.Edit → Rows → List ℕ
edit_text Watch number rows e next = changes_text number next e (changes rows e)
edit_text command number rows e next = []

-- what a question writes: under `save` nothing, otherwise its answer
abbrev pub query_text : RecordCommand → Rows → query.Query → List ℕ
query_text Save rows q = []
query_text command rows q = reply_text (answer rows q)

-- an accepted edit writes this text, which depends on the rows that it leaves; a refused edit writes the reason
abbrev pub record_step : (Rows → List ℕ) → Result Rows EditFault → Saying Rows
record_step text (Ok next) = Ok (text next, next)
record_step text (Err fault) = Err (edit_fault_text fault)

-- an edit is applied, a question is answered, and a line that is no record is refused
abbrev pub by_record : RecordCommand → ℕ → Rows → Result Record RecordFault → Saying Rows
by_record command number rows (Ok (Edit e)) = record_step (edit_text command number rows e) (step rows e)
by_record command number rows (Ok (Query q)) = Ok (query_text command rows q, rows)
by_record command number rows (Err fault) = Err (record_fault_text fault)

-- the certificate that a line is; only `check` accepts certificates
abbrev pub certificate_in : RecordCommand → List ℕ → Result (Option Certificate) CertificateFault
certificate_in Check text = certificate_read_of text
certificate_in command text = Ok None

-- for a line with a certificate, the result of its test in these rows; for a line that isn't meant as a certificate,
-- what its record says; otherwise the reason why the certificate's form is wrong
abbrev pub by_certificate_line : Rows → Result (Option Certificate) CertificateFault → Saying Rows → Saying Rows
by_certificate_line rows (Ok (Some p)) record_says = Ok (checked_line p.id (checked rows p), rows)
by_certificate_line rows (Ok None) record_says = record_says
by_certificate_line rows (Err fault) record_says = Err (certificate_fault_text fault)

-- what is written at the end of the input
abbrev pub record_ending : RecordCommand → Rows → List ℕ
record_ending Evaluate rows = verdict_table rows
record_ending Explain rows = certificate_lines rows
record_ending Save rows = snapshot rows
record_ending command rows = []

-- whether refused lines write nothing
abbrev pub is_quiet : RecordCommand → Bool
is_quiet Save = true
is_quiet command = false

abbrev pub record_session : RecordCommand → Session Rows
record_session command = record {
  says = λ rows number text. by_certificate_line rows (certificate_in command text) (by_record command number rows (record_of text));
  quiet = is_quiet command;
  ends = record_ending command;
  cost = λ rows number text. record_looks rows (record_of text);
  end_cost = λ rows. 0;
}
