-- The result of an edit: its first fault, or the rows after it if it has no fault.
use Rattle.std.specs.Prelude.{List, [], ◌∷◌, Option, Some, None, Result, Ok, Err}
use Rattle.cpe_rows.specs.Rows.{Rows}
use Rattle.cpe_rows.specs.After.{after}
use Rattle.cpe_rows.specs.Faults.{faults}
use Rattle.cpe_rows.specs.declared.edit.Edit.{Edit}
use Rattle.cpe_rows.specs.declared.fault.EditFault.{EditFault}

abbrev pub first_some : {A : Type 0} → List (Option A) → Option A
first_some [] = None
first_some (Some x ∷ os) = Some x
first_some (None ∷ os) = first_some os

abbrev pub unless : Option EditFault → Rows → Result Rows EditFault
unless (Some f) rows = Err f
unless None rows = Ok rows

abbrev pub step : Rows → Edit → Result Rows EditFault
step rows e = unless (first_some (faults rows e)) (after rows e)
