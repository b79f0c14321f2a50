use Rattle.cpe_rows.specs.declared.edit.Edit.TheVariants as edit
use Rattle.cpe_rows.specs.After.{after}
use Rattle.cpe_rows.specs.Weight.{weight}
use Rattle.row_weight.specs.Gain.{loss}
use Rattle.row_weight.proofs.Gains.{weighs_after, known_items, known_checks, not_more}
use Rattle.row_weight.proofs.law.losses_are_known.Goals as goal

pub returns-clause-items : goal.returns-clause-items
returns-clause-items c rows n there = known_items rows n c.names_are_equal.ensures.same there

pub returns-clause-checks : goal.returns-clause-checks
returns-clause-checks c = known_checks

pub returns-clause-dropped_items : goal.returns-clause-dropped_items
returns-clause-dropped_items c rows n = not_more (weight (after rows (edit.DropItem n))) (weight rows) (loss rows (edit.DropItem n)) (weighs_after rows (edit.DropItem n))

pub returns-clause-dropped_statements : goal.returns-clause-dropped_statements
returns-clause-dropped_statements c rows id = not_more (weight (after rows (edit.DropStatement id))) (weight rows) (loss rows (edit.DropStatement id)) (weighs_after rows (edit.DropStatement id))

pub returns-clause-dropped_checks : goal.returns-clause-dropped_checks
returns-clause-dropped_checks c rows k = not_more (weight (after rows (edit.DropCheck k))) (weight rows) (loss rows (edit.DropCheck k)) (weighs_after rows (edit.DropCheck k))
