-- Tables: the text of a table's rows, and these rows as lines.
use Rattle.std.specs.Prelude.{ℕ, zero, suc, List, [], ◌∷◌, ◌++◌, Some}
use Rattle.std.specs.declared.option.Option.{Option}

-- the first n rows, one after another
abbrev pub rows_text : (ℕ → List ℕ) → ℕ → List ℕ
rows_text row zero = []
rows_text row (suc n) = rows_text row n ++ row n

-- the first n rows, each as a line
abbrev pub made_lines : (ℕ → List ℕ) → ℕ → List (Option (List ℕ))
made_lines row zero = []
made_lines row (suc n) = made_lines row n ++ Some (row n) ∷ []
