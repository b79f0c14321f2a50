-- How a record is read, up to its first fault: a function gives what the definition gives, unless memory runs out.
use Rattle.std.specs.Prelude.{Bool, true, false, Result}
use Rattle.cpe_records.specs.FirstFault.{GivesUnless}
use Rattle.advise_ranges.specs.declared.member.AdviceReadFault.{AdviceReadFault}
use Rattle.advise_ranges.specs.declared.member.AdviceReadFault.TheVariants as fault

abbrev pub is_advice_memory : AdviceReadFault → Bool
is_advice_memory fault.Json = false
is_advice_memory (fault.Member m) = false
is_advice_memory (fault.Name k) = false
is_advice_memory fault.Memory = true

abbrev pub ReadsAdviceBy : {X A : Type 0} → (X → A) → Result X AdviceReadFault → Result A AdviceReadFault → Type 0
ReadsAdviceBy view result read = GivesUnless is_advice_memory view result read

abbrev pub ReadsAdvice : {A : Type 0} → Result A AdviceReadFault → Result A AdviceReadFault → Type 0
ReadsAdvice result read = ReadsAdviceBy (λ x. x) result read
