-- The places at which a text contains a body, in lower case.
use Rattle.std.specs.Prelude.{◌≡◌, ℕ, ◌≤◌, List, ◌++◌, length}
use Rattle.std.specs.Str.{str_to_ascii_lowercase}

-- The text has as many bytes as the number `place`, then the body, then other bytes.
pub record HasBodyAt (text body : List ℕ) (place : ℕ) : Type 0 where
  pub before : List ℕ
  pub behind : List ℕ
  pub split : str_to_ascii_lowercase text ≡ before ++ str_to_ascii_lowercase body ++ behind
  pub at : length before ≡ place

-- The text contains the body at a place from low to high.
pub record OccursWithin (text body : List ℕ) (low high : ℕ) : Type 0 where
  pub place : ℕ
  pub above : low ≤ place
  pub below : place ≤ high
  pub present : HasBodyAt text body place
