-- What is known of an edit without a fault.
use Rattle.std.specs.Prelude.{◌≡◌, None}
use Rattle.cpe_rows.specs.Accepted.{IsAccepted}
use Rattle.cpe_rows.specs.After.{after}
use Rattle.cpe_rows.specs.Causes.{causes}
use Rattle.cpe_rows.specs.Rows.{Rows}
use Rattle.cpe_rows.specs.Step.{first_some}
use Rattle.cpe_rows.specs.Weight.{weight}
use Rattle.cpe_rows.specs.declared.edit.Edit.{Edit}
use Rattle.engine_edits.specs.Planned.{IsPlanOfEdit}
use Rattle.engine_edits.specs.declared.checked.CheckedEdit.{CheckedEdit}

-- The edit is accepted and has no fault. A change of a deprecation has its plan. The weight is the weight of the rows that the edit
-- leaves.
pub record IsCheckedEdit (rows : Rows) (e : Edit) (c : CheckedEdit) : Type 0 where
  pub accepted : IsAccepted rows e (after rows e)
  pub none : first_some (causes rows e) ≡ None
  pub planned : IsPlanOfEdit rows.entries e c.plan
  pub weight : c.weight ≡ weight (after rows e)
