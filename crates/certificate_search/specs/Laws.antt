-- The laws of a statement's certificate.
use Rattle.std.specs.Prelude.{◌≡◌}
use Rattle.cpe_rows.specs.Rows.{Rows}
use Rattle.cpe_rows.specs.Lawful.{IsLawful}
use Rattle.cpe_rows.specs.Verdict.{verdict}
use Rattle.cpe_rows.specs.declared.statement.Statement.{Statement}
use Rattle.certificate_check.specs.Certificates.{given_truth}
use Rattle.certificate_check.specs.Good.{Good}
use Rattle.certificate_search.specs.Choices.{explained_certificate}

-- the truth of a statement's certificate is the verdict of the statement, in all rows
abbrev pub CertificatesGiveVerdicts : Type 0
CertificatesGiveVerdicts = (rows : Rows) (s : Statement) → given_truth (explained_certificate rows s).why ≡ verdict rows s

-- the certificate of a statement is good, in lawful rows
abbrev pub CertificatesAreGood : Type 0
CertificatesAreGood = (rows : Rows) → IsLawful rows → (s : Statement) → Good rows s (explained_certificate rows s).why
