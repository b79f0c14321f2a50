-- The depth of a certificate: the number of its logical tests along its deepest branch.
use Rattle.std.specs.Prelude.{ℕ, suc, map, Option, unwrap_or}
use Rattle.cpe_rows.specs.Shape.{largest}
use Rattle.certificate_check.specs.declared.certificate.Why.{Why}
use Rattle.certificate_check.specs.declared.certificate.Why.TheOpen.{Why-F}
use Rattle.certificate_check.specs.declared.certificate.Why.TheFolds.{fold-Why}

-- the levels of a child's certificate; 0 if there is none
abbrev pub given_levels : Option ℕ → ℕ
given_levels n = unwrap_or n 0

abbrev pub levels_step : Why-F ℕ → ℕ
levels_step (Why-F.Logic truth of) = suc (largest (map given_levels of))
levels_step (Why-F.Pair truth fact item) = 0
levels_step (Why-F.Plain truth) = 0

abbrev pub levels : Why → ℕ
levels = fold-Why ℕ levels_step
