use Rattle.std.proofs.Common.{List, sym, ap, subst, ◌∙◌}
use Rattle.std.specs.Prelude.{slice_get}
use Rattle.std.specs.Option.{option_map}
use Rattle.cpe_rows.specs.Verdict.{verdict}
use Rattle.cpe_rows.specs.declared.statement.Statement.{Statement}
use Rattle.verdicts.specs.Verdicts.{HasVerdicts, VerdictsNow}
use Rattle.verdicts.proofs.VerdictLemmas.{all_verdicts, verdict_got}
use Rattle.verdicts.proofs.verdicts.Verdicts.at.Goals as goal

pub returns-clause-verdict : goal.returns-clause-verdict
returns-clause-verdict c names rows rows_before =
    let v : VerdictsNow = record { facts = c.self.inside.facts; statements = c.self.inside.statements } in
    let h = subst (λ (w : VerdictsNow). HasVerdicts names w rows) (sym c.self.view_is) rows_before in
    c.at.ensures.verdict
    ∙ verdict_got rows v.statements.rows c.args.place (all_verdicts c.verdicts_are_truths.ensures names v rows h)
    ∙ ap (λ (ss : List Statement). option_map (verdict rows) (slice_get ss c.args.place)) h.statements
