use Rattle.std.proofs.Common.{◌≡◌, ◌∷◌, drop}
use Rattle.certificate_check.specs.Leading.{followed}
use Rattle.certificate_check.specs.Tested.{is_walk}
use Rattle.certificate_check.proofs.trace.is_walk.Given as goal

abbrev pub invariant-loop-name : goal.invariant-loop-name
invariant-loop-name g l =
    is_walk (followed (g.R.PlainRows.rows l.rows) l.mode) (l.last ∷ drop l.name-index l.rest)
    ≡ is_walk (followed (g.R.PlainRows.rows l.rows) l.mode) l.names
