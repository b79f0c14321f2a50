-- What a session writes for its lines, how its state changes, and how many steps its lines may take.
use Rattle.std.specs.Prelude.{ℕ, ◌+◌, Bool, true, false, ◌||◌, List, [], ◌∷◌, ◌++◌, Some, None, Ok, Err, is_err, codes}
use Rattle.std.specs.declared.option.Option.{Option}
use Rattle.std.specs.declared.result.Result.{Result}
use Rattle.std.specs.Fmt.{decimal}

-- What a line says: the text that it writes, with the next state; or the reason why it is refused. A refused line
-- leaves the state unchanged.
abbrev pub Saying : Type 0 → Type 0
Saying State = Result (List ℕ × State) (List ℕ)

-- A session whose states have this type.
pub record Session (State : Type 0) : Type 0 where
  -- what a text says in a state, if it is the line of this number; the text has at least one byte
  pub says : State → ℕ → List ℕ → Saying State
  -- whether a refused line writes nothing
  pub quiet : Bool
  -- what is written at the end of the input
  pub ends : State → List ℕ
  -- the greatest number of steps that a text may take
  pub cost : State → ℕ → List ℕ → ℕ
  -- the greatest number of steps at the end of the input
  pub end_cost : State → ℕ

-- what a text says that leaves the state unchanged
abbrev pub keeping : {State : Type 0} → State → Result (List ℕ) (List ℕ) → Saying State
keeping state (Ok text) = Ok (text, state)
keeping state (Err reason) = Err reason

-- a result whose reason is replaced by its printed form
abbrev pub printed : {Why : Type 0} → (Why → List ℕ) → Result (List ℕ) Why → Result (List ℕ) (List ℕ)
printed print (Ok text) = Ok text
printed print (Err why) = Err (print why)

-- A session without a state. The function `says` returns what a text writes, or why it is refused. No text takes steps.
abbrev pub stateless : (List ℕ → Result (List ℕ) (List ℕ)) → Session (Unit {0})
stateless says = record {
  says = λ state number text. keeping state (says text);
  quiet = false;
  ends = λ state. [];
  cost = λ state number text. 0;
  end_cost = λ state. 0;
}

-- A point between two lines: the number of lines before it, whether one of them was refused, and the state.
pub record Stage (State : Type 0) : Type 0 where
  pub number : ℕ
  pub refused : Bool
  pub state : State

-- the stage before the first line
abbrev pub start : {State : Type 0} → State → Stage State
start first = record { number = 0; refused = false; state = first }

-- What a line says. A line without bytes writes nothing. A line that is too long (`None`) is refused.
abbrev pub line_says : {State : Type 0} → Session State → State → ℕ → Option (List ℕ) → Saying State
line_says session state number None = Err (codes "long")
line_says session state number (Some []) = Ok ([], state)
line_says session state number (Some (x ∷ xs)) = session.says state number (x ∷ xs)

-- what the next line says
abbrev pub next_says : {State : Type 0} → Session State → Stage State → Option (List ℕ) → Saying State
next_says session s line = line_says session s.state (s.number + 1) line

-- what the refused line of this number writes
abbrev pub refusal : ℕ → List ℕ → List ℕ
refusal number reason = codes "refused " ++ decimal number ++ codes " " ++ reason ++ codes "\n"

-- what a refused line writes: nothing if the session is quiet, otherwise the refusal
abbrev pub reports : Bool → ℕ → List ℕ → List ℕ
reports true number reason = []
reports false number reason = refusal number reason

-- what the line of this number writes, by what it says
abbrev pub writes : {State : Type 0} → Bool → ℕ → Saying State → List ℕ
writes quiet number (Ok both) = both.0
writes quiet number (Err reason) = reports quiet number reason

-- the state after what a line says
abbrev pub state_after : {State : Type 0} → State → Saying State → State
state_after state (Ok both) = both.1
state_after state (Err reason) = state

-- what the next line writes
abbrev pub next_writes : {State : Type 0} → Session State → Stage State → Option (List ℕ) → List ℕ
next_writes session s line = writes session.quiet (s.number + 1) (next_says session s line)

-- the stage after the next line
abbrev pub after_next : {State : Type 0} → Session State → Stage State → Option (List ℕ) → Stage State
after_next session s line = record { number = s.number + 1; refused = s.refused || is_err (next_says session s line); state = state_after s.state (next_says session s line) }

-- the stage after these lines
abbrev pub stage_after : {State : Type 0} → Session State → Stage State → List (Option (List ℕ)) → Stage State
stage_after session s [] = s
stage_after session s (line ∷ more) = stage_after session (after_next session s line) more

-- what these lines write
abbrev pub out_from : {State : Type 0} → Session State → Stage State → List (Option (List ℕ)) → List ℕ
out_from session s [] = []
out_from session s (line ∷ more) = next_writes session s line ++ out_from session (after_next session s line) more

-- the greatest number of steps that a text may take; a text without bytes takes none
abbrev pub text_cost : {State : Type 0} → Session State → State → ℕ → List ℕ → ℕ
text_cost session state number [] = 0
text_cost session state number (x ∷ xs) = session.cost state number (x ∷ xs)

-- the greatest number of steps that the next line may take
abbrev pub next_cost : {State : Type 0} → Session State → Stage State → Option (List ℕ) → ℕ
next_cost session s None = 0
next_cost session s (Some text) = text_cost session s.state (s.number + 1) text

-- the greatest number of steps that these lines may take
abbrev pub costs : {State : Type 0} → Session State → Stage State → List (Option (List ℕ)) → ℕ
costs session s [] = 0
costs session s (line ∷ more) = next_cost session s line + costs session (after_next session s line) more

-- the greatest number of steps of a run: those of its lines, and those at the end of the input
abbrev pub total_cost : {State : Type 0} → Session State → State → List (Option (List ℕ)) → ℕ
total_cost session first ls = costs session (start first) ls + session.end_cost (stage_after session (start first) ls).state
