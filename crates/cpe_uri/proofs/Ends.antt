-- The end of a component of a URI: nothing follows, or a colon follows.
use Rattle.std.proofs.Common.{◌≡◌, ℕ, List, [], ◌∷◌}

abbrev pub Ends : List ℕ → Type 0
Ends [] = Unit {0}
Ends (c ∷ r) = c ≡ 58
