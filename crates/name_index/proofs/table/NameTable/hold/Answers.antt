use Rattle.std.proofs.Common.{refl}
use Rattle.name_index.proofs.Inserted.{on_err}
use Rattle.name_index.proofs.table.NameTable.hold.Goals as goal

pub returns-in_err-copied-clause-new : goal.returns-in_err-copied-clause-new
returns-in_err-copied-clause-new c = on_err c.from_residual.result (c.in_default.ensures.none refl)

pub returns-clause-new : goal.returns-clause-new
returns-clause-new c = on_err c.hold_moved.result (c.in_default.ensures.none refl)
