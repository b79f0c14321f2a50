-- The lines that a session got, each with its answer.
use Rattle.std.specs.Prelude.{◌≡◌, ℕ, false, List, [], ◌∷◌, ◌++◌}
use Rattle.std.specs.declared.option.Option.{Option}
use Rattle.std.specs.List.{flat_map}
use Rattle.line_session.specs.cpe_io.Lines.{has_newline, line_of}
use Rattle.line_session.specs.Task.{Transcript}
use Rattle.c_library.specs.Talks.{written_before}

-- no line has a newline
abbrev pub AreLines : List (List ℕ × List ℕ) → Type 0
AreLines [] = Unit {0}
AreLines (both ∷ more) = (has_newline both.0 ≡ false) × AreLines more

-- the input of a run with these lines: each line, and a newline after it
abbrev pub bytes_of : List (List ℕ × List ℕ) → List ℕ
bytes_of = flat_map (λ both. both.0 ++ 10 ∷ [])

-- all answers, one after the other
abbrev pub answers : List (List ℕ × List ℕ) → List ℕ
answers = flat_map (λ both. both.1)

-- `first` gives what the session would write before these lines, for any lines that follow. `last` gives the same
-- after these lines. Each of these lines got its answer: before the line, the session would write this answer, and
-- then what it would write after the line.
abbrev pub IsAnswered : List (List ℕ × List ℕ) → (List (Option (List ℕ)) → Transcript) → (List (Option (List ℕ)) → Transcript) → Type 0
IsAnswered [] first last = (more : List (Option (List ℕ))) → first more ≡ last more
IsAnswered (both ∷ later) first last =
    (next : List (Option (List ℕ)) → Transcript) × ((more : List (Option (List ℕ))) → first (line_of both.0 ∷ more) ≡ written_before both.1 (next more)) × IsAnswered later next last
