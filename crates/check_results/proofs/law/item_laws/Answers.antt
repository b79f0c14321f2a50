use Rattle.std.proofs.Common.{◌∙◌}
use Rattle.name_index.specs.Table.{kept_at}
use Rattle.names_in_order.specs.InOrder.{names_numbered}
use Rattle.check_results.proofs.SlotLemmas.{any_name, without_name}
use Rattle.check_results.proofs.law.item_laws.Goals as goal

pub returns-clause-same : goal.returns-clause-same
returns-clause-same c = any_name

pub returns-clause-dropped : goal.returns-clause-dropped
returns-clause-dropped c table numbers id names live has =
    c.orders_without.ensures.names table numbers id names live has ∙ without_name (kept_at table id.0).name (names_numbered table numbers)
