-- In lawful rows the test of a certificate agrees with the definition of its result.
use Rattle.std.proofs.Common.{◌≡◌, Bool, Option, Some, None, if◌then◌else◌, refl, ap, sym}
use Rattle.std.specs.Prelude.{find}
use Rattle.std.specs.Option.{option_map_or}
use Rattle.std.proofs.lemmas.Bool.{false_from_ne_true}
use Rattle.cpe_rows.specs.Rows.{Rows, has_id}
use Rattle.cpe_rows.specs.Lawful.{IsLawful}
use Rattle.cpe_rows.specs.declared.statement.Statement.{Statement}
use Rattle.certificate_check.specs.Checks.{IsFinding, IsCheckedCertificate}
use Rattle.certificate_check.specs.Tested.{test_passes}
use Rattle.certificate_check.specs.declared.certificate.Checked.{Checked}
use Rattle.certificate_check.specs.declared.certificate.Checked.TheVariants.{Holds, Fails, Absent}
use Rattle.certificate_check.specs.declared.certificate.Certificate.{Certificate}
use Rattle.certificate_check.specs.declared.certificate.Why.{Why}
use Rattle.certificate_check.proofs.TestedLemmas.{tested}
use Rattle.cpe_command.specs.Checking.{checked}

module _ (rows : Rows) (lawful : IsLawful rows) where
  said_is : (w : Why) (o : Option Statement) (said : Checked) → IsFinding rows w o said
      → said ≡ option_map_or (λ s. if test_passes rows s.mode s.test w then Holds else Fails) o Absent
  said_is w None Absent h = refl
  said_is w None Holds h = absurd h
  said_is w None Fails h = absurd h
  said_is w (Some s) Absent h = absurd h
  said_is w (Some s) Holds h = ap (λ (b : Bool). if b then Holds else Fails) (sym ((tested rows lawful s.mode s.test w).1 h))
  said_is w (Some s) Fails h =
      ap (λ (b : Bool). if b then Holds else Fails)
      (sym (false_from_ne_true (test_passes rows s.mode s.test w) (λ passes. h ((tested rows lawful s.mode s.test w).0 passes))))

  pub checked_is : (p : Certificate) (said : Checked) → IsCheckedCertificate rows p said → said ≡ checked rows p
  unfolding checked
  checked_is p said h = said_is p.why (find (has_id p.id) rows.statements) said h
