-- Bounds on the steps of a call.
use Rattle.std.specs.Prelude.{ℕ, ◌+◌, ◌≤◌}

-- the number of steps has grown by at most `most`
abbrev pub StepsWithin : ℕ → ℕ → ℕ → Type 0
StepsWithin steps steps_now most = (steps ≤ steps_now) × (steps_now ≤ steps + most)
