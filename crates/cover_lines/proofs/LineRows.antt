-- A line for each name.
use Rattle.std.proofs.Common.{◌≡◌, ℕ, zero, suc, List, [], ◌∷◌, ◌++◌, length, slice_get, refl, sym, ap, ◌∙◌, append_assoc, append-nil}
use Rattle.std.specs.List.{flat_map}
use Rattle.std.specs.Option.{option_map_or}
use Rattle.line_session.specs.Table.{rows_text}

-- the first row, and then the others
first_row : (line : ℕ → List ℕ) (n : ℕ) → rows_text line (suc n) ≡ line 0 ++ rows_text (λ k. line (suc k)) n
first_row line zero = sym (append-nil (line 0))
first_row line (suc n) =
    ap (λ (text : List ℕ). text ++ line (suc n)) (first_row line n)
    ∙ append_assoc (line 0) (rows_text (λ k. line (suc k)) n) (line (suc n))

-- a row for each element of a list
pub row_each : {A : Type 0} (line : A → List ℕ) (xs : List A) → rows_text (λ k. option_map_or line (slice_get xs k) []) (length xs) ≡ flat_map line xs
row_each line [] = refl
row_each line (x ∷ xs) =
    first_row (λ k. option_map_or line (slice_get (x ∷ xs) k) []) (length xs)
    ∙ ap (λ (text : List ℕ). line x ++ text) (row_each line xs)
