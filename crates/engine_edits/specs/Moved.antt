-- The parts of an engine after each step of an edit.
use Rattle.std.specs.Prelude.{◌≡◌, [], None, Result, IfErr, IfOk, OnErr}
use Rattle.cpe_rows.specs.Accepted.{IsAccepted}
use Rattle.cpe_rows.specs.After.{after}
use Rattle.cpe_rows.specs.Applied.{RefusesEdit}
use Rattle.cpe_rows.specs.Causes.{causes}
use Rattle.cpe_rows.specs.Step.{first_some, step}
use Rattle.verdicts.specs.Verdicts.{known_in}
use Rattle.cpe_rows.specs.declared.edit.Edit.{Edit}
use Rattle.cpe_rows.specs.declared.fault.EditFault.{EditFault}
use Rattle.engine_edits.specs.Parts.{AreBeside, AreLawfulParts, AreOf, edit_in, rows_in}
use Rattle.engine_edits.specs.Ready.{edit_ready, HasAll}
use Rattle.engine_edits.specs.declared.numbered.NumberedEdit.{NumberedEdit}
use Rattle.engine_edits.specs.declared.parts.EngineParts.{EngineParts}
use Rattle.engine_edits.specs.declared.ready.Ready.{Ready}

-- An edit gets the numbers of its names. If it fails, such a name is missing, or memory ran out.
pub record EditNumbered (old new : EngineParts) (e : Edit) (result : Result NumberedEdit EditFault) : Type 0 where
  -- the rows are unchanged
  pub rows : rows_in new ≡ rows_in old
  -- the verdicts are unchanged
  pub verdicts : new.verdicts ≡ old.verdicts
  -- if it succeeds, the table also holds the new names of the edit
  pub beside : IfOk result (AreBeside new)
  -- if it succeeds, the edit with its numbers is the given edit
  pub edit : IfOk result (λ n. edit_in new n ≡ e)
  -- if it fails, the table holds only the names of the rows
  pub left : OnErr result (AreLawfulParts new)
  -- if it fails, the fault is a fault of the step, or memory ran out
  pub err : IfErr result (λ f. RefusesEdit f (step (rows_in old) e))

-- An edit with its numbers has no fault, so it may be made ready.
pub record MayBeReady (p : EngineParts) (n : NumberedEdit) : Type 0 where
  pub beside : AreBeside p n
  pub accepted : IsAccepted (rows_in p) (edit_in p n) (after (rows_in p) (edit_in p n))
  pub none : first_some (causes (rows_in p) (edit_in p n)) ≡ None

-- The rows, their weight and what callers know of the verdicts are unchanged.
pub record SameParts (old new : EngineParts) : Type 0 where
  pub rows : rows_in new ≡ rows_in old
  pub known : known_in new.verdicts ≡ known_in old.verdicts
  pub weight : new.weight ≡ old.weight

-- All memory for an edit with its numbers is taken, or memory ran out.
pub record MadeReady {Fault : Type 0} (old new : EngineParts) (n : NumberedEdit) (result : Result Ready Fault) : Type 0 where
  pub same : SameParts old new
  -- if it succeeds, what is ready is this edit
  pub edit : IfOk result (λ r. edit_ready new.registry.table r ≡ edit_in old n)
  -- if it succeeds, the edit has all that it needs
  pub all : IfOk result (HasAll new)
  -- if memory ran out, the table holds only the names of the rows
  pub left : OnErr result (AreOf new.registry new.verdicts (rows_in old) [])
