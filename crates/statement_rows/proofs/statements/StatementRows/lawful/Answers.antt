use Rattle.std.proofs.Common.{◌<◌, subst}
use Rattle.std.specs.List.{AllByRecursion}
use Rattle.check_results.specs.ticket_list.Rising.{IsRisingBy}
use Rattle.statement_rows.specs.State.{State, StatementRow}
use Rattle.statement_rows.proofs.CheckLemmas.{all_of_view, rising_view}
use Rattle.statement_rows.proofs.statements.StatementRows.lawful.Goals as goal

pub returns-clause-rising : goal.returns-clause-rising
returns-clause-rising c =
    subst (λ (b : State). IsRisingBy (λ (j : StatementRow). j.ticket) b.rows) c.self.view_is (rising_view c.self.inside.rows.items c.self.invariant.0.noted.rising)

pub returns-clause-below : goal.returns-clause-below
returns-clause-below c =
    subst (λ (b : State). AllByRecursion (λ (j : StatementRow). j.ticket < b.next) b.rows) c.self.view_is
    (all_of_view (λ (j : StatementRow). j.ticket < c.self.inside.next) c.self.inside.rows.items c.self.invariant.0.below)
