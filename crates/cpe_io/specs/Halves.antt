-- A line with exactly one space, cut into its two texts.
use Rattle.std.specs.Prelude.{ℕ, Bool, ◌==◌, List, [], ◌∷◌, Some, None}
use Rattle.std.specs.declared.option.Option.{Option}
use Rattle.std.specs.List.{slice_split}

abbrev pub is_space : ℕ → Bool
is_space c = c == 32

abbrev pub only_two : List (List ℕ) → Option (List ℕ × List ℕ)
only_two [] = None
only_two (one ∷ []) = None
only_two (one ∷ two ∷ []) = Some (one, two)
only_two (one ∷ two ∷ three ∷ more) = None

-- the texts before and after the only space of a line, or nothing if there is not exactly one space
abbrev pub halves : List ℕ → Option (List ℕ × List ℕ)
halves line = only_two (slice_split is_space line)
