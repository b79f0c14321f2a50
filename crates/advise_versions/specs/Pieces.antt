-- The pieces of a version.
use Rattle.std.specs.Prelude.{ℕ, Bool, false, not, ◌||◌, ◌==◌, if◌then◌else◌, List, [], ◌∷◌, ◌++◌, map, drop}
use Rattle.std.specs.List.{onto_first, prefix_len}
use Rattle.std.specs.Char.{is_ascii_digit, is_ascii_alphabetic}
use Rattle.std.specs.Str.{str_to_ascii_lowercase}

-- The byte is neither a digit nor a letter.
abbrev pub separates : ℕ → Bool
separates b = not (is_ascii_digit b || is_ascii_alphabetic b)

-- The bytes are of one kind: both are digits, or both are letters.
abbrev pub is_kin : ℕ → ℕ → Bool
is_kin b c = if is_ascii_digit b then is_ascii_digit c else is_ascii_alphabetic c

-- The first byte passes.
abbrev pub begins_piece : (ℕ → Bool) → List ℕ → Bool
begins_piece passes [] = false
begins_piece passes (b ∷ bs) = passes b

-- the longest runs of digits, and of letters. A byte is in the run of the next byte if both are of one kind. All other
-- bytes only separate runs.
abbrev pub piece_runs : List ℕ → List (List ℕ)
piece_runs [] = []
piece_runs (b ∷ bs) = if separates b then piece_runs bs else (if begins_piece (is_kin b) bs then onto_first b (piece_runs bs) else (b ∷ []) ∷ piece_runs bs)

-- a piece: a word has its letters in lower case, the end follows the last piece, and a number has its digits without
-- leading zeros
pub data Piece : Type 0 where
  Word : List ℕ → Piece
  End : Piece
  Number : List ℕ → Piece

-- the digits after the leading zeros
abbrev pub without_zeros : List ℕ → List ℕ
without_zeros ds = drop (prefix_len (λ d. d == 48) ds) ds

abbrev pub piece_of : List ℕ → Piece
piece_of run = if begins_piece is_ascii_digit run then Number (without_zeros run) else Word (str_to_ascii_lowercase run)

-- the pieces of a version, and after them the end
abbrev pub version_pieces : List ℕ → List Piece
version_pieces version = map piece_of (piece_runs version) ++ End ∷ []
