use Rattle.std.proofs.Common.{sym, ◌∙◌}
use Rattle.certificate_check.proofs.TestedLemmas.{said_to_fail, said_to_hold}
use Rattle.certificate_check.proofs.check.check_certificate.Goals as goal

pub returns-then-branch : goal.returns-then-branch
returns-then-branch g c =
    said_to_hold (g.R.PlainRows.rows c.args.rows.now) c.lawful.ensures c.in-Some.statement.now c.args.certificate.now.why _ c.in-Some.ensures (sym c.in_ok-passes.ensures ∙ c.if-branch.true)

pub returns-else-branch : goal.returns-else-branch
returns-else-branch g c =
    said_to_fail (g.R.PlainRows.rows c.args.rows.now) c.lawful.ensures c.in-Some.statement.now c.args.certificate.now.why _ c.in-Some.ensures (sym c.in_ok-passes.ensures ∙ c.if-branch.false)
