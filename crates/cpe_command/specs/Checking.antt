-- The result of the test of a certificate. The test passes through all levels of the certificate. In lawful rows the
-- result agrees with the definition (`IsChecked` in certificate_check): a certificate holds exactly if it is good
-- for the statement that has its id.
use Rattle.std.specs.Prelude.{find, if◌then◌else◌}
use Rattle.std.specs.Option.{option_map_or}
use Rattle.cpe_rows.specs.Rows.{Rows, has_id}
use Rattle.certificate_check.specs.Tested.{test_passes}
use Rattle.certificate_check.specs.declared.certificate.Checked.{Checked}
use Rattle.certificate_check.specs.declared.certificate.Checked.TheVariants.{Holds, Fails, Absent}
use Rattle.certificate_check.specs.declared.certificate.Certificate.{Certificate}

unfoldable pub checked : Rows → Certificate → Checked
checked rows p = option_map_or (λ s. if test_passes rows s.mode s.test p.why then Holds else Fails) (find (has_id p.id) rows.statements) Absent
