use Rattle.std.proofs.Common.{List, ap, ◌∙◌}
use Rattle.cpe_rows.specs.declared.test.CheckKey.{CheckKey}
use Rattle.cpe_rows.specs.declared.truth.Truth.{Truth}
use Rattle.cpe_rows.specs.declared.statement.Mode.TheVariants.{Plain, Follow}
use Rattle.statement_rows.specs.State.{at_tickets, judge}
use Rattle.verdicts.specs.Verdicts.{truths_in, users_of_changed}
use Rattle.verdicts.proofs.refresh.refresh.Goals as goal

pub returns-clause-rows : goal.returns-clause-rows
returns-clause-rows c =
    let f = c.args.facts.now in
    let first = c.args.statements.now in
    let plain = users_of_changed f Plain in
    let follow = users_of_changed f Follow in
    c.refresh_mode-2.ensures.rows
    ∙ ap (λ (cs : List (CheckKey × Truth)). at_tickets follow (judge (truths_in f) cs) c.refresh_mode.new.statements.rows) c.refresh_mode.ensures.checks
    ∙ ap (at_tickets follow (judge (truths_in f) first.checks)) c.refresh_mode.ensures.rows
    ∙ c.refreshes_add_up.ensures (truths_in f) first.checks plain follow first.rows
