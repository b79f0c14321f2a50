-- Certificates, and the results of their tests, as lines.
use Rattle.std.specs.Prelude.{ℕ, List, ◌++◌, codes}
use Rattle.std.specs.List.{flat_map}
use Rattle.cpe_rows.specs.Rows.{Rows}
use Rattle.cpe_rows.specs.declared.statement.Statement.{Statement}
use Rattle.certificate_search.specs.certificate_check.declared.certificate.Checked.{Checked}
use Rattle.certificate_search.specs.certificate_check.declared.certificate.Checked.TheVariants.{Holds, Fails, Absent}
use Rattle.certificate_search.specs.Choices.{explained_certificate}
use Rattle.certificate_records.specs.Written.{certificate_text}

-- the line of the certificate of a statement
abbrev pub certificate_line : Rows → Statement → List ℕ
certificate_line rows s = certificate_text (explained_certificate rows s) ++ codes "\n"

-- the lines of the certificates of all statements, in order
abbrev pub certificate_lines : Rows → List ℕ
certificate_lines rows = flat_map (certificate_line rows) rows.statements

abbrev pub checked_word : Checked → List ℕ
checked_word Holds = codes "holds"
checked_word Fails = codes "fails"
checked_word Absent = codes "absent"

-- the line with the result of the test of the certificate with this id
abbrev pub checked_line : List ℕ → Checked → List ℕ
checked_line id checked = codes "proof " ++ id ++ codes " " ++ checked_word checked ++ codes "\n"
