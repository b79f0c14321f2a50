-- What `convert` writes for a line.
use Rattle.std.specs.Prelude.{ℕ, nat_le, List, ◌++◌, length, Result, Ok, Err, codes, if◌then◌else◌}
use Rattle.line_replies.specs.cpe_io.declared.line.TheConstants.{LONGEST}
use Rattle.cpe_records.specs.declared.member.RecordFault.{RecordFault}
use Rattle.cpe_records.specs.Reading.{record_of}
use Rattle.record_writer.specs.WrittenRecord.{record_text}
use Rattle.cpe_records.specs.declared.read.Record.{Record}
use Rattle.line_replies.specs.Reasons.{record_fault_text}
use Rattle.line_replies.specs.line_session.Session.{Session, printed, stateless}
use Rattle.convert_lines.specs.declared.reason.ConvertReason.{ConvertReason}
use Rattle.convert_lines.specs.declared.reason.ConvertReason.TheVariants.{Unread, Grown}

-- a written form as a line, unless the form is longer than a line may be
abbrev pub convert_line : List ℕ → Result (List ℕ) ConvertReason
convert_line form = if nat_le (length form) LONGEST then Ok (form ++ codes "\n") else Err Grown

-- the written form of a record, as a line; a line that is no record is refused
abbrev pub converted : Result Record RecordFault → Result (List ℕ) ConvertReason
converted (Ok r) = convert_line (record_text r)
converted (Err fault) = Err (Unread fault)

abbrev pub convert_reason_text : ConvertReason → List ℕ
convert_reason_text (Unread fault) = record_fault_text fault
convert_reason_text Grown = codes "grown"

abbrev pub convert_session : Session (Unit {0})
convert_session = stateless (λ text. printed convert_reason_text (converted (record_of text)))
