use Rattle.std.proofs.Common.{List, sym, ap, subst, ◌∙◌}
use Rattle.std.specs.Prelude.{find}
use Rattle.std.specs.Option.{option_map}
use Rattle.cpe_rows.specs.Rows.{has_id}
use Rattle.cpe_rows.specs.Verdict.{verdict}
use Rattle.cpe_rows.specs.declared.statement.Statement.{Statement}
use Rattle.verdicts.specs.Verdicts.{HasVerdicts, VerdictsNow}
use Rattle.verdicts.proofs.VerdictLemmas.{all_verdicts, verdict_found}
use Rattle.verdicts.proofs.verdicts.Verdicts.verdict.Goals as goal

pub returns : goal.returns
returns c names rows rows_before =
    let v : VerdictsNow = record { facts = c.self.inside.facts; statements = c.self.inside.statements } in
    let h = subst (λ (w : VerdictsNow). HasVerdicts names w rows) (sym c.self.view_is) rows_before in
    c.verdict.ensures
    ∙ verdict_found rows c.args.id.now v.statements.rows (all_verdicts c.verdicts_are_truths.ensures names v rows h)
    ∙ ap (λ (ss : List Statement). option_map (verdict rows) (find (has_id c.args.id.now) ss)) h.statements
