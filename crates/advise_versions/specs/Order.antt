-- The order of versions.
use Rattle.std.specs.Prelude.{◌≡◌, ◌↔◌, ℕ, List, [], ◌∷◌, length}
use Rattle.std.specs.Cmp.{IsTotalOrder}
use Rattle.std.specs.Cmp.Lexicographic.{slice_cmp}
use Rattle.std.specs.Ordering.{nat_cmp, on}
use Rattle.std.specs.declared.cmp.Ordering.{Ordering}
use Rattle.std.specs.declared.cmp.Ordering.TheVariants.{Equal}
use Rattle.advise_versions.specs.Pieces.{Piece, Word, End, Number, version_pieces}

-- The sort key of a piece, compared from left to right. A word is less than the end, and the end is less than a number.
-- Words are compared by their bytes, and numbers by their lengths and then by their bytes.
abbrev pub piece_key : Piece → List ℕ
piece_key (Word letters) = 0 ∷ letters
piece_key End = 1 ∷ []
piece_key (Number digits) = 2 ∷ length digits ∷ digits

abbrev pub piece_order : Piece → Piece → Ordering
piece_order = on piece_key (slice_cmp nat_cmp)

-- The order of two versions is that of their first differing pieces.
abbrev pub version_order : List ℕ → List ℕ → Ordering
version_order = on version_pieces (slice_cmp piece_order)

-- The order is total. Two versions are equal in it exactly if they have the same pieces.
pub record IsVersionOrder (order : List ℕ → List ℕ → Ordering) : Type 0 where
  pub total : IsTotalOrder order
  pub equal : (a b : List ℕ) → order a b ≡ Equal ↔ version_pieces a ≡ version_pieces b
