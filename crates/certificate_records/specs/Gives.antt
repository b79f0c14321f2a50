-- Reading a certificate, up to its first fault.
use Rattle.std.specs.Prelude.{Bool, true, false, Result}
use Rattle.cpe_records.specs.FirstFault.{GivesUnless}
use Rattle.certificate_records.specs.declared.fault.CertificateFault.{CertificateFault}
use Rattle.certificate_records.specs.declared.fault.CertificateFault.TheVariants as fault

abbrev pub is_certificate_memory : CertificateFault → Bool
is_certificate_memory fault.Id = false
is_certificate_memory fault.Why = false
is_certificate_memory fault.Memory = true

-- a reader's result is the result that is defined, unless memory ran out
abbrev pub ReadsCertificateBy : {X A : Type 0} → (X → A) → Result X CertificateFault → Result A CertificateFault → Type 0
ReadsCertificateBy view result read = GivesUnless is_certificate_memory view result read

abbrev pub ReadsCertificate : {A : Type 0} → Result A CertificateFault → Result A CertificateFault → Type 0
ReadsCertificate result read = ReadsCertificateBy (λ x. x) result read
