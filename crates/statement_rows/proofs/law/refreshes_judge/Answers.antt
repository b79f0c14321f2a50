use Rattle.std.proofs.Common.{◌≡◌, List, sym, subst}
use Rattle.std.specs.List.{AllByRecursion}
use Rattle.cpe_rows.specs.declared.test.CheckKey.{CheckKey}
use Rattle.cpe_rows.specs.declared.truth.Truth.{Truth}
use Rattle.statement_rows.specs.State.{judge}
use Rattle.statement_rows.proofs.RefreshLemmas.{all_judged}
use Rattle.statement_rows.proofs.law.refreshes_judge.Goals as goal

pub returns : goal.returns
returns c old new ts a b rows checks h same =
    subst (λ (cs : List (CheckKey × Truth)). AllByRecursion (λ j. judge new cs j ≡ j) b.rows) (sym checks)
    (subst (AllByRecursion (λ j. judge new a.checks j ≡ j)) (sym rows) (all_judged old new a.checks ts a.rows h same))
