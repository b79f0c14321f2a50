-- An input that is answered as a whole: what is kept of the input, what is written, and the state after it.
use Rattle.std.specs.Prelude.{◌≡◌, ◌⊎◌, ℕ, ◌^◌, ◌<◌, ◌≤◌, List, length, Ok, Err}
use Rattle.std.specs.declared.option.Option.{Option}
use Rattle.std.specs.declared.result.Result.{Result}
use Rattle.std.specs.Io.KnownBytes.{Consumes, Appends, IsAtEnd}
use Rattle.cpe_io.specs.declared.line.LineFault.{LineFault}
use Rattle.cpe_io.specs.declared.line.LineFault.TheVariants as fault
use Rattle.cpe_io.specs.Writes.{BeginsWith}
use Rattle.line_session.specs.Task.{Transcript}
use Rattle.line_session.specs.declared.whole.Input.{Input}
use Rattle.line_session.specs.declared.whole.Input.TheVariants as input
use Rattle.line_session.specs.declared.status.Status.{Status}
use Rattle.line_session.specs.declared.status.Status.TheVariants.{Done, SomeRefused, Usage, ReadFault, WriteFault, Memory, Endless}

-- all of these bytes are kept; or they are more than `most` bytes, and none is kept
abbrev pub IsWholeOrLong : ℕ → List ℕ → Input → Type 0
IsWholeOrLong most bytes (input.Whole kept) = (kept.items ≡ bytes) × (length bytes ≤ most)
IsWholeOrLong most bytes input.TooLong = most < length bytes

-- How the reading of an input ended, after it took these bytes. Either the input ended, below the limit of 2^40 bytes.
-- Or there was a fault; if the fault is `Endless`, 2^40 bytes were taken.
abbrev pub LeadsToStatus : Option (List ℕ) → ℕ → List ℕ → Result Input LineFault → Type 0
LeadsToStatus left_now most taken (Ok it) = IsAtEnd left_now × (length taken < 2 ^ 40) × IsWholeOrLong most taken it
LeadsToStatus left_now most taken (Err fault.Read) = Unit {0}
LeadsToStatus left_now most taken (Err fault.Endless) = length taken ≡ 2 ^ 40
LeadsToStatus left_now most taken (Err fault.Memory) = Unit {0}

-- Reading took these bytes from the source, up to its end or up to a fault. At most `most` bytes are kept.
pub record ReadsWhole (left left_now : Option (List ℕ)) (most : ℕ) (result : Result Input LineFault) : Type 0 where
  pub taken : List ℕ
  pub took : Consumes left left_now taken
  pub arriving : LeadsToStatus left_now most taken result

-- If a run ends without a fault, `Says` is true of the written text with the run's status. After a failed write or lack
-- of memory nothing is said. No other status occurs.
abbrev pub EndsAs : (Transcript → Type 0) → List ℕ → Status → Type 0
EndsAs Says written Done = Says (record { text = written; status = Done })
EndsAs Says written SomeRefused = Says (record { text = written; status = SomeRefused })
EndsAs Says written WriteFault = Unit {0}
EndsAs Says written Memory = Unit {0}
EndsAs Says written status = ⊥

-- What was appended to the sink for an input. `Says` holds of the transcripts that may be written. Either one of them
-- was written in full, or a write failed or memory ran out, and a prefix of each was written.
pub record AnswersRun (held held_now : Option (List ℕ)) (Says : Transcript → Type 0) (status : Status) : Type 0 where
  pub written : List ℕ
  pub wrote : Appends held held_now written
  pub ends : EndsAs Says written status
  pub begins : (it : Transcript) → Says it → BeginsWith it.text written

-- The state at each status. If the input was read to its end, the state is what the answer leaves of the first state.
-- Otherwise it is the first state. If memory ran out, it is either of the two.
abbrev pub IsLeft : {State : Type 0} → (State → State → List ℕ → Status → Type 0) → State → State → List ℕ → Status → Type 0
IsLeft Leaves first now taken Done = Leaves first now taken Done
IsLeft Leaves first now taken SomeRefused = Leaves first now taken SomeRefused
IsLeft Leaves first now taken Usage = ⊥
IsLeft Leaves first now taken ReadFault = now ≡ first
IsLeft Leaves first now taken Endless = now ≡ first
IsLeft Leaves first now taken WriteFault = Leaves first now taken WriteFault
IsLeft Leaves first now taken Memory = (now ≡ first) ⊎ Leaves first now taken Memory
