-- The depth of a test, and whether the test is sound: both are computed from the children.
use Rattle.std.specs.Prelude.{ℕ, suc, max, ◌&&◌, List, [], ◌∷◌, Bool, true, nat_lt, length}
use Rattle.std.specs.List.{list_all}
use Rattle.cpe_rows.specs.Names.{is_lower}
use Rattle.cpe_rows.specs.declared.test.Test.{Test}
use Rattle.cpe_rows.specs.declared.test.Test.TheOpen.{Test-F}
use Rattle.cpe_rows.specs.declared.test.Test.TheFolds.{fold-Test}

abbrev pub largest : List ℕ → ℕ
largest [] = 0
largest (n ∷ ns) = max n (largest ns)

abbrev pub depth_step : Test-F ℕ → ℕ
depth_step (Test-F.Logic operator negate of) = suc (largest of)
depth_step (Test-F.Fact name) = 0
depth_step (Test-F.Check key) = 0

-- the number of levels of logical tests: one more than that of the deepest child
abbrev pub depth_of : Test → ℕ
depth_of = fold-Test ℕ depth_step

abbrev pub sound_step : Test-F Bool → Bool
sound_step (Test-F.Logic operator negate of) = nat_lt 0 (length of) && list_all (λ b. b) of
sound_step (Test-F.Fact name) = is_lower name
sound_step (Test-F.Check key) = true

-- Each logical test has a child, and each name is in lower case.
abbrev pub is_sound : Test → Bool
is_sound = fold-Test Bool sound_step
