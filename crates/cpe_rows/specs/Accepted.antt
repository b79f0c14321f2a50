-- An edit is accepted: the rows are lawful, the edit is valid and formed, and `step` returns the next rows.
use Rattle.std.specs.Prelude.{◌≡◌, true, Ok}
use Rattle.cpe_rows.specs.Rows.{Rows}
use Rattle.cpe_rows.specs.Valid.{is_valid_edit}
use Rattle.cpe_rows.specs.Formed.{IsFormed}
use Rattle.cpe_rows.specs.Lawful.{IsLawful}
use Rattle.cpe_rows.specs.Step.{step}
use Rattle.cpe_rows.specs.declared.edit.Edit.{Edit}

pub record IsAccepted (rows : Rows) (e : Edit) (next : Rows) : Type 0 where
  pub lawful : IsLawful rows
  pub formed : IsFormed e
  pub valid : is_valid_edit e ≡ true
  pub accepted : step rows e ≡ Ok next
