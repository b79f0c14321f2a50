-- The law of good certificates, and the meaning of a test's result.
use Rattle.std.specs.Prelude.{◌≡◌, find, Option, Some, None}
use Rattle.cpe_rows.specs.Rows.{Rows, has_id}
use Rattle.cpe_rows.specs.Verdict.{verdict}
use Rattle.cpe_rows.specs.declared.statement.Statement.{Statement}
use Rattle.certificate_check.specs.Certificates.{given_truth}
use Rattle.certificate_check.specs.Good.{Good}
use Rattle.certificate_check.specs.declared.certificate.Checked.{Checked}
use Rattle.certificate_check.specs.declared.certificate.Checked.TheVariants.{Holds, Fails, Absent}
use Rattle.certificate_check.specs.declared.certificate.Certificate.{Certificate}
use Rattle.certificate_check.specs.declared.certificate.Why.{Why}

-- the truth of a certificate that is good for a statement is the verdict of this statement, in all rows
abbrev pub GoodCertificatesAreRight : Type 0
GoodCertificatesAreRight = (rows : Rows) (s : Statement) (w : Why) → Good rows s w → given_truth w ≡ verdict rows s

-- the result of a test is right, if this is the statement of the certificate's id
abbrev pub IsFinding : Rows → Why → Option Statement → Checked → Type 0
IsFinding rows w None Absent = Unit {0}
IsFinding rows w None Holds = ⊥
IsFinding rows w None Fails = ⊥
IsFinding rows w (Some s) Absent = ⊥
IsFinding rows w (Some s) Holds = Good rows s w
IsFinding rows w (Some s) Fails = Good rows s w → ⊥

-- the result of a test is right: absent exactly if no statement has the certificate's id, otherwise it holds exactly if
-- the certificate is good
abbrev pub IsCheckedCertificate : Rows → Certificate → Checked → Type 0
IsCheckedCertificate rows p checked = IsFinding rows p.why (find (has_id p.id) rows.statements) checked
