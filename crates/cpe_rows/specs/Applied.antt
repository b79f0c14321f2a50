-- The answer of an edit, and the rows after it.
use Rattle.std.specs.Prelude.{◌≡◌, Result, Ok, Err, ⊤}
use Rattle.cpe_rows.specs.Rows.{Rows}
use Rattle.cpe_rows.specs.Step.{step}
use Rattle.cpe_rows.specs.declared.edit.Edit.{Edit}
use Rattle.cpe_rows.specs.declared.fault.EditFault.{EditFault}
use Rattle.cpe_rows.specs.declared.fault.EditFault.TheVariants.{Memory}

-- The fault is that of `step`, unless memory ran out.
abbrev pub RefusesEdit : EditFault → Result Rows EditFault → Type 0
RefusesEdit Memory stepped = ⊤
RefusesEdit f stepped = stepped ≡ Err f

-- If an edit succeeds, the new rows are those of `step`, and any answer is allowed. If it fails or memory runs out, the
-- rows are unchanged.
abbrev pub Applied : {A : Type 0} → Rows → Rows → Edit → Result A EditFault → Type 0
Applied old new e (Ok answer) = step old e ≡ Ok new
Applied old new e (Err f) = (new ≡ old) × RefusesEdit f (step old e)
