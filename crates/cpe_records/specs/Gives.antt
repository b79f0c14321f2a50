-- Reading a record, up to its first fault.
use Rattle.std.specs.Prelude.{Bool, true, false, Result}
use Rattle.cpe_records.specs.FirstFault.{FailsUnless, GivesUnless}
use Rattle.cpe_records.specs.declared.member.RecordFault.{RecordFault}
use Rattle.cpe_records.specs.declared.member.RecordFault.TheVariants as fault
pub use Rattle.cpe_records.specs.FirstFault.{◌>>=◌, all_from}

abbrev pub is_memory_fault : RecordFault → Bool
is_memory_fault fault.Json = false
is_memory_fault (fault.Member m) = false
is_memory_fault (fault.Name s k) = false
is_memory_fault (fault.Attribute s a) = false
is_memory_fault fault.TooDeep = false
is_memory_fault fault.Memory = true

abbrev pub Fails : {A : Type 0} → RecordFault → Result A RecordFault → Type 0
Fails e read = FailsUnless is_memory_fault e read

abbrev pub ReadsMemberBy : {X A : Type 0} → (X → A) → Result X RecordFault → Result A RecordFault → Type 0
ReadsMemberBy view result read = GivesUnless is_memory_fault view result read

abbrev pub ReadsMember : {A : Type 0} → Result A RecordFault → Result A RecordFault → Type 0
ReadsMember result read = ReadsMemberBy (λ x. x) result read
