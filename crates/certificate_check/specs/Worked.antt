-- An example: an item, a fact that covers the item, a check without a result under a negation, and a certificate.
use Rattle.std.specs.Prelude.{ℕ, List, [], ◌∷◌, true, false, codes, Some}
use Rattle.cpe_rows.specs.cpe_values.Parts.{parts}
use Rattle.cpe_rows.specs.cpe_values.declared.value.Value.{Value}
use Rattle.cpe_rows.specs.cpe_values.declared.value.Value.TheVariants as value
use Rattle.cpe_rows.specs.cpe_values.declared.value.Edge.TheVariants as edge
use Rattle.cpe_rows.specs.cpe_name.Eleven.{Values}
use Rattle.cpe_rows.specs.cpe_name.Names.{named}
use Rattle.cpe_rows.specs.Rows.{Rows}
use Rattle.cpe_rows.specs.declared.statement.Mode.TheVariants.{Plain}
use Rattle.cpe_rows.specs.declared.statement.Statement.{Statement}
use Rattle.cpe_rows.specs.declared.test.CheckKey.{CheckKey}
use Rattle.cpe_rows.specs.declared.test.Operator.TheVariants.{And, Or}
use Rattle.cpe_rows.specs.declared.test.Test.{Test}
use Rattle.cpe_rows.specs.declared.test.Test as test
use Rattle.cpe_rows.specs.declared.truth.Truth.{Truth}
use Rattle.cpe_rows.specs.declared.truth.Truth.TheVariants.{True, Unknown}
use Rattle.certificate_check.specs.Checks.{IsCheckedCertificate}
use Rattle.certificate_check.specs.declared.certificate.Checked.TheVariants.{Holds, Fails, Absent}
use Rattle.certificate_check.specs.declared.certificate.Certificate.{Certificate}
use Rattle.certificate_check.specs.declared.certificate.Why.{Why}
use Rattle.certificate_check.specs.declared.certificate.Why as why

abbrev text : List ℕ → Value
text s = value.Text (parts edge.None s edge.None)

-- cpe:/a:v:p
abbrev pub fact : Values
fact = named (text (codes "a") ∷ text (codes "v") ∷ text (codes "p") ∷ [])

-- cpe:/a:v:p:1
abbrev pub worked_name : Values
worked_name = named (text (codes "a") ∷ text (codes "v") ∷ text (codes "p") ∷ text (codes "1") ∷ [])

abbrev pub worked_key : CheckKey
worked_key = record { system = codes "x"; href = codes "y"; id = codes "z" }

abbrev pub below : Test
below = test.Logic Or true (test.Check worked_key ∷ [])

abbrev pub worked_test : Test
worked_test = test.Logic And false (test.Fact fact ∷ below ∷ [])

abbrev pub statement : Statement
statement = record { id = codes "s"; title = []; mode = Plain; test = worked_test }

abbrev pub rows : Rows
rows = record { entries = []; items = worked_name ∷ []; statements = statement ∷ []; checks = [] }

abbrev pub pair : Why
pair = why.Pair True (fact ∷ []) (worked_name ∷ [])

abbrev pub negation : Why
negation = why.Logic Unknown (Some (why.Plain Unknown) ∷ [])

-- a certificate that gives this truth to the whole test
abbrev pub worked_certificate : List ℕ → Truth → Certificate
worked_certificate id truth = record { id = id; why = why.Logic truth (Some pair ∷ Some negation ∷ []) }

-- the certificate holds for the verdict, fails for another truth, and is absent under another id
pub record IsTested : Type 0 where
  pub holds : IsCheckedCertificate rows (worked_certificate (codes "s") Unknown) Holds
  pub fails : IsCheckedCertificate rows (worked_certificate (codes "s") True) Fails
  pub absent : IsCheckedCertificate rows (worked_certificate (codes "t") Unknown) Absent
