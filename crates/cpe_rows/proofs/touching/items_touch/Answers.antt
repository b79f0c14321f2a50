use Rattle.cpe_rows.proofs.ItemChanges.{by_items, added, dropped}
use Rattle.cpe_rows.proofs.touching.items_touch.Goals as goal

pub returns-clause-truth : goal.returns-clause-truth
returns-clause-truth c = by_items

pub returns-clause-added : goal.returns-clause-added
returns-clause-added c = added

pub returns-clause-dropped : goal.returns-clause-dropped
returns-clause-dropped c = dropped
