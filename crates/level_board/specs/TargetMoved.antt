-- Adding a number to the targets, or removing one: the conditions, and the result.
use Rattle.std.specs.Prelude.{◌≡◌, ◌∷◌, ℕ, ◌+◌, ◌<◌, ◌≤◌, length}
use Rattle.name_index.specs.Elements.{SameElements}
use Rattle.name_index.specs.Table.{Names, IsLive, kept_at}
use Rattle.name_index.specs.Index.{times_held}
use Rattle.level_board.specs.Targets.{FitsTargets, Targets, held}

-- A number may be added.
pub record MayAddTarget (targets : Targets) (names : Names) (id : ℕ) : Type 0 where
  -- The number is live.
  pub live : IsLive names id
  -- The targets fit the table.
  pub fits : FitsTargets targets names
  -- The number isn't held yet.
  pub fresh : times_held (held targets) id ≡ 0
  -- There is room for the number.
  pub room : 1 ≤ targets.spare
  -- There is room for the number's product.
  pub product : (kept_at names id).product < targets.wide
  -- There are fewer targets than the limit.
  pub few : length (held targets) < 4294967295

-- The number was added.
pub record AddsTarget (old new : Targets) (names : Names) (id : ℕ) : Type 0 where
  -- The new pair of number and product number is added to the held pairs.
  pub added : SameElements ((id, (kept_at names id).product) ∷ held old) (held new)
  -- The targets still fit the table.
  pub fits : FitsTargets new names
  -- There is room for one number less.
  pub spare : new.spare + 1 ≡ old.spare
  -- The bound of product numbers is unchanged.
  pub wide : new.wide ≡ old.wide

-- The number was removed.
pub record IsOneLess (old new : Targets) (names : Names) (id : ℕ) : Type 0 where
  -- Everything is held except this number.
  pub dropped : SameElements (held old) ((id, (kept_at names id).product) ∷ held new)
  -- The targets still fit the table.
  pub fits : FitsTargets new names
  -- The room is unchanged.
  pub spare : new.spare ≡ old.spare
  -- The bound of product numbers is unchanged.
  pub wide : new.wide ≡ old.wide
