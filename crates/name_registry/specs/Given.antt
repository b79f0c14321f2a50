-- The holds that a change leaves unchanged.
use Rattle.std.specs.Prelude.{List}
use Rattle.cpe_rows.specs.cpe_name.Eleven.{Values}
use Rattle.name_registry.specs.Registered.{AreHeld, Registered}

-- the names that are held, except by entries and items, are unchanged
abbrev pub KeepsHolds : Registered → Registered → Type 0
KeepsHolds old new = (others : List Values) → AreHeld old others → AreHeld new others
