-- The state after lines, and the steps that lines may take, computed without the session.
use Rattle.std.specs.Prelude.{◌≡◌, ℕ, ◌+◌, List, [], ◌∷◌, ◌++◌}
use Rattle.std.specs.declared.option.Option.{Option}
use Rattle.cpe_io.specs.Lines.{lines, whole_lines}
use Rattle.line_session.specs.Session.{Session, Stage, state_after, line_says, next_cost}
use Rattle.line_session.specs.declared.status.Status.{Status}
use Rattle.line_session.specs.declared.status.Status.TheVariants.{Done, SomeRefused, Usage, ReadFault, WriteFault, Memory, Endless}

-- each line changes the state by the function `change`, whatever the line's number
abbrev pub ChangesBy : {State : Type 0} → Session State → (State → Option (List ℕ) → State) → Type 0
ChangesBy {State = State} session change = (state : State) (number : ℕ) (line : Option (List ℕ)) → state_after state (line_says session state number line) ≡ change state line

-- the state after these lines, if each line changes the state by `change`
abbrev pub folded_lines : {State : Type 0} → (State → Option (List ℕ) → State) → State → List (Option (List ℕ)) → State
folded_lines change state [] = state
folded_lines change state (line ∷ more) = folded_lines change (change state line) more

-- a line may take `cost` steps, a number that depends on the state and the line, but not on the line's number
abbrev pub CostsBy : {State : Type 0} → Session State → (State → Option (List ℕ) → ℕ) → Type 0
CostsBy {State = State} session cost = (s : Stage State) (line : Option (List ℕ)) → next_cost session s line ≡ cost s.state line

-- the sum of `cost` over these lines, each in the state after the lines before it
abbrev pub summed_by : {State : Type 0} → (State → Option (List ℕ) → State) → (State → Option (List ℕ) → ℕ) → State → List (Option (List ℕ)) → ℕ
summed_by change cost state [] = 0
summed_by change cost state (line ∷ more) = cost state line + summed_by change cost (change state line) more

-- the state after the first lines of a list, possibly all of them or none
pub record FoldsPrefix {State : Type 0} (change : State → Option (List ℕ) → State) (first now : State) (all : List (Option (List ℕ))) : Type 0 where
  pub answered : List (Option (List ℕ))
  pub later : List (Option (List ℕ))
  pub splits : all ≡ answered ++ later
  pub state : now ≡ folded_lines change first answered

-- The state at each status, as a fold of the lines that were taken. After a fault of the source only the whole lines
-- count. If a write failed or memory ran out, only the first lines count, as many as were answered.
abbrev pub IsFolded : {State : Type 0} → (State → Option (List ℕ) → State) → State → State → List ℕ → Status → Type 0
IsFolded change first now taken Done = now ≡ folded_lines change first (lines taken)
IsFolded change first now taken SomeRefused = now ≡ folded_lines change first (lines taken)
IsFolded change first now taken Usage = ⊥
IsFolded change first now taken ReadFault = now ≡ folded_lines change first (whole_lines taken)
IsFolded change first now taken Endless = now ≡ folded_lines change first (whole_lines taken)
IsFolded change first now taken WriteFault = FoldsPrefix change first now (lines taken)
IsFolded change first now taken Memory = FoldsPrefix change first now (lines taken)
