use Rattle.names_in_order.proofs.ChangeLemmas.{names_without_one, not_left}
use Rattle.names_in_order.proofs.law.orders_without.Goals as goal

pub returns-clause-names : goal.returns-clause-names
returns-clause-names c = names_without_one

pub returns-clause-gone : goal.returns-clause-gone
returns-clause-gone c = not_left
