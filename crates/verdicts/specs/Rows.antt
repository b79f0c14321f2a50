-- The rows of a registry and of verdicts.
use Rattle.std.specs.Prelude.{◌≡◌}
use Rattle.name_registry.specs.Registered.{Registered}
use Rattle.cpe_rows.specs.Lawful.{IsLawful}
use Rattle.cpe_rows.specs.Rows.{Rows}
use Rattle.verdicts.specs.Verdicts.{HasVerdicts, VerdictsNow}

-- Registry and verdicts are those of these rows, which are lawful.
pub record AreOfRows (r : Registered) (v : VerdictsNow) (rows : Rows) : Type 0 where
  pub lawful : IsLawful rows
  pub verdicts : HasVerdicts r.table v rows
  pub entries : rows.entries ≡ r.entries
  pub items : rows.items ≡ r.items
