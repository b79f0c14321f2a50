-- The parts of a text from its spelling, as the code finds them. They are the same in either style. No public clause
-- uses these definitions.
use Rattle.std.specs.Prelude.{ℕ, Bool, true, ◌||◌, ◌==◌, List, [], ◌∷◌, drop, if◌then◌else◌}
use Rattle.std.specs.List.{prefix_len}
use Rattle.cpe_values.specs.declared.value.Edge.{Edge}
use Rattle.cpe_values.specs.declared.value.Edge.TheVariants as edge
use Rattle.cpe_values.specs.Parts.{Parts, parts}

abbrev pub is_star : ℕ → Bool
is_star c = c == 42

abbrev pub is_mark : ℕ → Bool
is_mark c = c == 63

abbrev pub is_backslash : ℕ → Bool
is_backslash c = c == 92

-- the number of question marks at the start
abbrev pub marks_count : List ℕ → ℕ
marks_count s = prefix_len is_mark s

-- the lead or trail at the start
abbrev pub edge_at : List ℕ → Edge
edge_at [] = edge.None
edge_at (c ∷ s) = if is_star c then edge.Star else (if is_mark c then edge.Marks (marks_count (c ∷ s)) else edge.None)

-- the bytes after the lead or trail at the start
abbrev pub behind_edge : List ℕ → List ℕ
behind_edge [] = []
behind_edge (c ∷ s) = if is_star c then s else (if is_mark c then drop (marks_count (c ∷ s)) (c ∷ s) else c ∷ s)

-- the byte is `*` or `?`
abbrev pub is_special : ℕ → Bool
is_special c = is_star c || is_mark c

-- the body is over: the next byte is a special, or there is none
abbrev pub ends_body : List ℕ → Bool
ends_body [] = true
ends_body (c ∷ s) = is_special c

-- the characters before the first special, without their backslashes
unfoldable pub body_at : List ℕ → List ℕ
body_at [] = []
body_at (c ∷ []) = if is_special c then [] else c ∷ []
body_at (c ∷ d ∷ s) = if is_special c then [] else (if is_backslash c then d ∷ body_at s else c ∷ body_at (d ∷ s))

-- the bytes from the first special on
unfoldable pub behind_body : List ℕ → List ℕ
behind_body [] = []
behind_body (c ∷ []) = if is_special c then c ∷ [] else []
behind_body (c ∷ d ∷ s) = if is_special c then c ∷ d ∷ s else (if is_backslash c then behind_body s else behind_body (d ∷ s))

-- the parts of a text from its spelling
abbrev pub parts_at : List ℕ → Parts
parts_at s = parts (edge_at s) (body_at (behind_edge s)) (edge_at (behind_body (behind_edge s)))
