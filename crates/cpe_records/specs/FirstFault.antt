-- Reading up to the first fault, for any type of faults. A definition that reads one member after another fixes the
-- order of a record's members. The first member that fails is the fault.
use Rattle.std.specs.Prelude.{◌≡◌, ℕ, ◌+◌, List, [], ◌∷◌, Bool, true, MatchBool, Result, Ok, Err}

infixl 10 ◌>>=◌
abbrev pub ◌>>=◌ : {A B E : Type 0} → Result A E → (A → Result B E) → Result B E
(Ok x) >>= f = f x
(Err e) >>= f = Err e

-- reading fails with the fault `e`; if the fault is that memory ran out, nothing is claimed
abbrev pub FailsUnless : {A E : Type 0} → (E → Bool) → E → Result A E → Type 0
FailsUnless is_memory e read = MatchBool (is_memory e) (Unit {0}) (read ≡ Err e)

-- a reader's result is the result that is defined, unless memory ran out
abbrev pub GivesUnless : {X A E : Type 0} → (E → Bool) → (X → A) → Result X E → Result A E → Type 0
GivesUnless is_memory view (Ok x) read = read ≡ Ok (view x)
GivesUnless is_memory view (Err e) read = FailsUnless is_memory e read

-- the value that is read, if there is one, passes the test
abbrev pub Yields : {A E : Type 0} → (A → Bool) → Result A E → Type 0
Yields passes (Ok x) = passes x ≡ true
Yields passes (Err e) = Unit {0}

-- the result of f for each element, numbered from n; or the first fault
abbrev pub all_from : {A B E : Type 0} → (ℕ → A → Result B E) → ℕ → List A → Result (List B) E
all_from f n [] = Ok []
all_from f n (x ∷ xs) = f n x >>= λ y. all_from f (n + 1) xs >>= λ ys. Ok (y ∷ ys)
