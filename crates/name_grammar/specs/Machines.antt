-- Machines that read a text byte by byte, as scanners.
use Rattle.std.specs.Prelude.{ℕ, suc, List, [], ◌∷◌, length, Bool, Option, Some, None, Result, Ok, Err, if◌then◌else◌}
use Rattle.name_grammar.specs.Scanners.{Scanner}

-- the result of `next` for the next state, or `other` if there is no next state
abbrev pub with_next : {S : Type 0} → Option S → (S → Result (List ℕ) ℕ) → Result (List ℕ) ℕ → Result (List ℕ) ℕ
with_next (Some q) next other = next q
with_next None next other = other

-- The scanner of a machine that begins in a given state. The machine makes steps as long as it can. It must then be in
-- a state in which it may end.
abbrev pub machine : {S : Type 0} → (S → ℕ → Option S) → (S → Bool) → S → Scanner
machine step ends q [] = if ends q then Ok [] else Err 0
machine step ends q (c ∷ s) = with_next (step q c) (λ t. machine step ends t s) (if ends q then Ok (c ∷ s) else Err (suc (length s)))
