-- What a run did: what it took from the source, what it wrote to the sink, and its state.
use Rattle.std.specs.Prelude.{◌≡◌, ◌⊎◌, ℕ, ◌+◌, ◌^◌, ◌<◌, ◌≤◌, List, [], ◌++◌, length, IfSome}
use Rattle.std.specs.declared.option.Option.{Option}
use Rattle.std.specs.Io.KnownBytes.{Consumes, Appends, IsAtEnd}
use Rattle.cpe_io.specs.Lines.{lines, whole_lines}
use Rattle.cpe_io.specs.Causes.{Rose}
use Rattle.cpe_io.specs.Writes.{BeginsWith}
use Rattle.line_session.specs.Session.{Session, start, stage_after, total_cost}
use Rattle.line_session.specs.Task.{Task, Fixed, Lines, Whole, Transcript, Says}
use Rattle.line_session.specs.declared.status.Status.{Status}
use Rattle.line_session.specs.declared.status.Status.TheVariants.{Done, SomeRefused, Usage, ReadFault, WriteFault, Memory, Endless}

-- a run that reads nothing took nothing; any other run read to the end of the input, below the limit of 2^40 bytes
abbrev pub ReadToEnd : Task → Option (List ℕ) → List ℕ → Type 0
ReadToEnd (Fixed all) left_now taken = taken ≡ []
ReadToEnd (Lines speech) left_now taken = IsAtEnd left_now × (length taken < 2 ^ 40)
ReadToEnd (Whole says) left_now taken = IsAtEnd left_now × (length taken < 2 ^ 40)

-- the text and the status are those of a transcript for the bytes that were taken
abbrev pub IsTranscript : Task → Option (List ℕ) → List ℕ → List ℕ → Status → Type 0
IsTranscript job left_now taken written status = Says job taken (record { text = written; status = status }) × ReadToEnd job left_now taken

-- The input was cut by a fault. If it is answered by lines, its whole lines were answered; if it is answered as a
-- whole, nothing was written. A task that reads nothing can't be cut.
abbrev pub IsCut : Task → List ℕ → List ℕ → Type 0
IsCut (Fixed all) taken written = ⊥
IsCut (Lines speech) taken written = written ≡ speech.out (whole_lines taken)
IsCut (Whole says) taken written = written ≡ []

-- what was written at each status, if these bytes were taken
abbrev pub HasWritten : Task → Option (List ℕ) → List ℕ → List ℕ → Status → Type 0
HasWritten job left_now taken written Done = IsTranscript job left_now taken written Done
HasWritten job left_now taken written SomeRefused = IsTranscript job left_now taken written SomeRefused
HasWritten job left_now taken written Usage = IsTranscript job left_now taken written Usage
HasWritten job left_now taken written ReadFault = IsCut job taken written
HasWritten job left_now taken written Endless = IsCut job taken written × (length taken ≡ 2 ^ 40)
HasWritten job left_now taken written WriteFault = Unit {0}
HasWritten job left_now taken written Memory = Unit {0}

-- if the remaining input is known, the written text is a prefix of each transcript for that input
abbrev pub BeginsEach : Task → Option (List ℕ) → List ℕ → Type 0
BeginsEach job left written = IfSome left (λ bytes. (it : Transcript) → Says job bytes it → BeginsWith it.text written)

-- At every status the written text is a prefix. For a fixed text it is a prefix of that text; otherwise it is a prefix
-- of each transcript for the input.
abbrev pub WritesPrefix : Task → Option (List ℕ) → List ℕ → Type 0
WritesPrefix (Fixed all) left written = BeginsWith all.text written
WritesPrefix (Lines speech) left written = BeginsEach (Lines speech) left written
WritesPrefix (Whole says) left written = BeginsEach (Whole says) left written

-- The run took the bytes `taken` from the source, and appended `written` to the sink. `Besides` is a further property
-- of the taken bytes and the status.
pub record Ran (left left_now held held_now : Option (List ℕ)) (job : Task) (Besides : List ℕ → Status → Type 0) (status : Status) : Type 0 where
  pub taken : List ℕ
  pub written : List ℕ
  pub took : Consumes left left_now taken
  pub wrote : Appends held held_now written
  pub present : HasWritten job left_now taken written status
  pub begins : WritesPrefix job left written
  pub besides : Besides taken status

-- no further property of a run
abbrev pub Anything : List ℕ → Status → Type 0
Anything taken status = Unit {0}

-- the state after the first lines of a list, possibly all of them or none
pub record LeftByPrefix {State : Type 0} (session : Session State) (first now : State) (all : List (Option (List ℕ))) : Type 0 where
  pub answered : List (Option (List ℕ))
  pub later : List (Option (List ℕ))
  pub splits : all ≡ answered ++ later
  pub state : now ≡ (stage_after session (start first) answered).state

-- The state at each status. At the end of the input it is the state after all lines, and after a fault of the source
-- that after the whole lines. If a write failed or memory ran out, it is the state after the first lines; no line is
-- answered in part.
abbrev pub StateAt : {State : Type 0} → Session State → State → State → (all whole_ones : List (Option (List ℕ))) → Status → Type 0
StateAt session first now all whole_ones Done = now ≡ (stage_after session (start first) all).state
StateAt session first now all whole_ones SomeRefused = now ≡ (stage_after session (start first) all).state
StateAt session first now all whole_ones Usage = ⊥
StateAt session first now all whole_ones ReadFault = now ≡ (stage_after session (start first) whole_ones).state
StateAt session first now all whole_ones Endless = now ≡ (stage_after session (start first) whole_ones).state
StateAt session first now all whole_ones WriteFault = LeftByPrefix session first now all
StateAt session first now all whole_ones Memory = LeftByPrefix session first now all

-- The session reached this state by these lines. It took at most as many steps as these lines may take.
pub record ReachedBy {State : Type 0} (session : Session State) (first now : State) (steps steps_now : ℕ) (all whole_ones : List (Option (List ℕ))) (status : Status) : Type 0 where
  pub state : StateAt session first now all whole_ones status
  pub later : steps ≤ steps_now
  pub within : steps_now ≤ steps + total_cost session first all

-- the session reached this state by the lines of the bytes that were taken
abbrev pub Reached : {State : Type 0} → Session State → State → State → ℕ → ℕ → List ℕ → Status → Type 0
Reached session first now steps steps_now taken status = ReachedBy session first now steps steps_now (lines taken) (whole_lines taken) status

-- A count of faults of one kind. It never decreases. It increases, by one, exactly if the status is the fault's own
-- status.
pub record Counted (own : Status) (before now : ℕ) (status : Status) : Type 0 where
  pub later : before ≤ now
  pub once : now ≤ before + 1
  pub still : (status ≡ own → ⊥) → now ≡ before
  pub cause : status ≡ own → Rose before now

-- Below 2^40 bytes of input, the status is that of a transcript, or memory ran out. From 2^40 bytes on, the status is
-- `Endless`, or memory ran out.
abbrev pub Completes : Option (List ℕ) → Task → Status → Type 0
Completes left job status = IfSome left (λ bytes.
    (length bytes < 2 ^ 40 → ((text : List ℕ) × Says job bytes (record { text = text; status = status })) ⊎ (status ≡ Memory))
    × (2 ^ 40 ≤ length bytes → (status ≡ Endless) ⊎ (status ≡ Memory)))

abbrev pub IsComplete : Option (List ℕ) → Task → Status → Type 0
IsComplete left (Fixed all) status = (status ≡ all.status) ⊎ (status ≡ Memory)
IsComplete left (Lines speech) status = Completes left (Lines speech) status
IsComplete left (Whole says) status = Completes left (Whole says) status
