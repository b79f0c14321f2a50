use Rattle.std.proofs.Common.{◌++◌, List, map, sym, ap, subst, ◌∙◌}
use Rattle.cpe_rows.specs.Changes.{differing}
use Rattle.cpe_rows.specs.Verdict.{verdict}
use Rattle.cpe_rows.specs.declared.reply.Changed.{Changed}
use Rattle.statement_rows.specs.State.{StatementRow}
use Rattle.verdicts.specs.Verdicts.{HasVerdicts, known_in, VerdictsNow}
use Rattle.verdicts.proofs.VerdictLemmas.{all_verdicts, verdicts_map}
use Rattle.verdicts.proofs.verdicts.Verdicts.changes.Goals as goal

pub returns : goal.returns
returns c names next rows_before =
    let v : VerdictsNow = record { facts = c.self.inside.facts; statements = c.self.inside.statements } in
    let h = subst (λ (w : VerdictsNow). HasVerdicts names w next) (sym c.self.view_is) rows_before in
    let js = v.statements.rows in
    let now = verdicts_map next js (all_verdicts c.verdicts_are_truths.ensures names v next h) ∙ ap (map (verdict next)) h.statements in
    c.into_list.ensures
    ∙ c.add_changes.ensures
    ∙ ap (λ (xs : List Changed). xs ++ differing 0 (map (λ (j : StatementRow). j.known) js) (map (λ (j : StatementRow). j.verdict) js)) c.requires.empty
    ∙ (λ i. differing 0 (known_in (c.self.view_is i)) (now i))
