-- The reasons for which the line of a record is refused, as text. If memory runs out, no line is refused, so this
-- fault has no text.
use Rattle.std.specs.Prelude.{ℕ, List, [], ◌++◌, codes}
use Rattle.std.specs.Fmt.{decimal}
use Rattle.cpe_rows.specs.declared.fault.EditFault.{EditFault}
use Rattle.cpe_rows.specs.declared.fault.EditFault.TheVariants as edit
use Rattle.cpe_rows.specs.declared.fault.Which.{Which}
use Rattle.cpe_rows.specs.declared.fault.Which.TheVariants.{Entries, Items, Statements, Facts, Checks, Weight}
use Rattle.cpe_rows.specs.cpe_name.Text.{attribute_name}
use Rattle.cpe_records.specs.Keys.{key_of}
use Rattle.cpe_records.specs.declared.member.NameSpot.{NameSpot}
use Rattle.cpe_records.specs.declared.member.NameSpot.TheVariants.{Name, Successor, Fact}
use Rattle.cpe_records.specs.declared.member.RecordFault.{RecordFault}
use Rattle.cpe_records.specs.declared.member.RecordFault.TheVariants as unread
use Rattle.certificate_records.specs.declared.fault.CertificateFault.{CertificateFault}
use Rattle.certificate_records.specs.declared.fault.CertificateFault.TheVariants as certificate
use Rattle.line_replies.specs.Replies.{name_text}
use Rattle.line_replies.specs.declared.reason.RecordReason.{RecordReason}
use Rattle.line_replies.specs.declared.reason.RecordReason.TheVariants.{Unread, Refused, Unproved}

-- which name of the record is meant
abbrev pub spot_text : NameSpot → List ℕ
spot_text Name = codes "name"
spot_text (Successor number) = codes "successor " ++ decimal number
spot_text (Fact number) = codes "fact " ++ decimal number

abbrev pub record_fault_text : RecordFault → List ℕ
record_fault_text unread.Json = codes "json"
record_fault_text (unread.Member member) = codes "member " ++ key_of member
record_fault_text (unread.Name spot place) = codes "name " ++ spot_text spot ++ codes " " ++ decimal place
record_fault_text (unread.Attribute spot which) = codes "attribute " ++ spot_text spot ++ codes " " ++ attribute_name which
record_fault_text unread.TooDeep = codes "deep"
record_fault_text unread.Memory = []

abbrev pub which_word : Which → List ℕ
which_word Entries = codes "entries"
which_word Items = codes "items"
which_word Statements = codes "statements"
which_word Facts = codes "facts"
which_word Checks = codes "checks"
which_word Weight = codes "weight"

abbrev pub edit_fault_text : EditFault → List ℕ
edit_fault_text edit.NotIdentifier = codes "not-identifier"
edit_fault_text edit.Wildcards = codes "wildcards"
edit_fault_text edit.Exists = codes "exists"
edit_fault_text edit.Unknown = codes "unknown"
edit_fault_text edit.AlreadyDeprecated = codes "already-deprecated"
edit_fault_text edit.NotDeprecated = codes "not-deprecated"
edit_fault_text edit.BadCount = codes "count"
edit_fault_text (edit.UnknownSuccessor place) = codes "unknown-successor " ++ decimal place
edit_fault_text (edit.RepeatedSuccessor place) = codes "repeated-successor " ++ decimal place
edit_fault_text (edit.Cycle place) = codes "cycle " ++ decimal place
edit_fault_text (edit.TooWide name) = codes "too-wide " ++ name_text name
edit_fault_text (edit.Full which) = codes "full " ++ which_word which
edit_fault_text edit.Memory = []

abbrev pub certificate_fault_text : CertificateFault → List ℕ
certificate_fault_text certificate.Id = codes "member id"
certificate_fault_text certificate.Why = codes "member why"
certificate_fault_text certificate.Memory = []

abbrev pub reason_text : RecordReason → List ℕ
reason_text (Unread fault) = record_fault_text fault
reason_text (Refused fault) = edit_fault_text fault
reason_text (Unproved fault) = certificate_fault_text fault
