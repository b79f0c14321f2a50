-- The reasons why a line is refused, as they are written. Memory that runs out is no reason to refuse a line.
use Rattle.std.specs.Prelude.{ℕ, List, [], ◌++◌, codes}
use Rattle.std.specs.Fmt.{decimal}
use Rattle.advise_ranges.specs.Reading.{advice_key_of}
use Rattle.advise_ranges.specs.declared.edit.AdviceFault.{AdviceFault}
use Rattle.advise_ranges.specs.declared.edit.AdviceFault.TheVariants as edit
use Rattle.advise_ranges.specs.declared.edit.AdviceWhich.{AdviceWhich}
use Rattle.advise_ranges.specs.declared.edit.AdviceWhich.TheVariants.{Items, Advisories, Weight}
use Rattle.advise_ranges.specs.declared.member.AdviceReadFault.{AdviceReadFault}
use Rattle.advise_ranges.specs.declared.member.AdviceReadFault.TheVariants as unread
use Rattle.advise_ranges.specs.declared.reason.AdviceReason.{AdviceReason}
use Rattle.advise_ranges.specs.declared.reason.AdviceReason.TheVariants.{Unread, Refused}

abbrev pub read_fault_text : AdviceReadFault → List ℕ
read_fault_text unread.Json = codes "json"
read_fault_text (unread.Member member) = codes "member " ++ advice_key_of member
read_fault_text (unread.Name place) = codes "name name " ++ decimal place
read_fault_text unread.Memory = []

abbrev pub advice_which_word : AdviceWhich → List ℕ
advice_which_word Items = codes "items"
advice_which_word Advisories = codes "advisories"
advice_which_word Weight = codes "weight"

abbrev pub advice_fault_text : AdviceFault → List ℕ
advice_fault_text edit.Wildcards = codes "wildcards"
advice_fault_text edit.Version = codes "version"
advice_fault_text edit.Exists = codes "exists"
advice_fault_text edit.Unknown = codes "unknown"
advice_fault_text (edit.Full which) = codes "full " ++ advice_which_word which
advice_fault_text edit.Memory = []

abbrev pub advice_reason_text : AdviceReason → List ℕ
advice_reason_text (Unread fault) = read_fault_text fault
advice_reason_text (Refused fault) = advice_fault_text fault
