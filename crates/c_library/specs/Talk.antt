-- What the calls of a session do.
use Rattle.std.specs.Prelude.{◌≡◌, ℕ, true, false, List, [], ◌∷◌}
use Rattle.std.specs.declared.option.Option.{Option}
use Rattle.line_session.specs.cpe_io.Lines.{has_newline, line_of}
use Rattle.line_session.specs.Statuses.{status_number}
use Rattle.line_session.specs.declared.status.Status.{Status}
use Rattle.c_library.specs.declared.call_result.CallResult.{CallResult}
use Rattle.c_library.specs.declared.call_result.CallResult.TheVariants.{Memory, NotALine, Over}
use Rattle.c_library.specs.CallResults.{FitsBuffer}
use Rattle.c_library.specs.declared.talk.Talk.{Talk}
use Rattle.c_library.specs.declared.talk.Phase.TheVariants.{Open, Ended, Broken}
use Rattle.c_library.specs.Talks.{written_before, is_continued}

-- The buffer gets the answer, or its length is returned. The answer is what the session writes for this line:
-- whatever lines follow, the session would have written this answer, and then what it would now write for them. Or
-- memory ran out, and the session is broken.
abbrev pub SpeaksCall : Talk → Talk → List ℕ → List ℕ → List ℕ → CallResult → Type 0
SpeaksCall old new piece room room_now Memory = new.phase ≡ Broken
SpeaksCall old new piece room room_now call_result =
    FitsBuffer new.progress.page room room_now call_result × (new.phase ≡ Open)
    × ((more : List (Option (List ℕ))) → is_continued old.speaking old.progress (line_of piece ∷ more) ≡ written_before new.progress.page (is_continued new.speaking new.progress more))

-- The buffer gets what the session writes if no line follows, or its length is returned. `number` is the number of
-- the status. Or memory ran out, and the session is broken.
abbrev pub EndsCall : Talk → Talk → List ℕ → List ℕ → ℕ → CallResult → Type 0
EndsCall old new room room_now number Memory = new.phase ≡ Broken
EndsCall old new room room_now number call_result =
    FitsBuffer new.progress.page room room_now call_result × (new.phase ≡ Ended)
    × ((status : Status) × (number ≡ status_number status) × (is_continued old.speaking old.progress [] ≡ record { text = new.progress.page; status = status }))

-- If the session isn't open, or the text has a newline, the session is unchanged. Otherwise the line is answered.
pub record TakesLine (old new : Talk) (piece room room_now : List ℕ) (call_result : CallResult) : Type 0 where
  pub over : (old.phase ≡ Open → ⊥) → (call_result ≡ Over) × (new ≡ old)
  pub no_line : old.phase ≡ Open → has_newline piece ≡ true → (call_result ≡ NotALine) × (new ≡ old)
  pub said : old.phase ≡ Open → has_newline piece ≡ false → SpeaksCall old new piece room room_now call_result

-- if the session isn't open, nothing changes; otherwise the buffer gets what is written at the end
pub record TakesEnd (old new : Talk) (room room_now : List ℕ) (number number_now : ℕ) (call_result : CallResult) : Type 0 where
  pub over : (old.phase ≡ Open → ⊥) → (call_result ≡ Over) × (new ≡ old) × (number_now ≡ number)
  pub ended : old.phase ≡ Open → EndsCall old new room room_now number_now call_result

-- the buffer gets the last answer again, unless memory ran out in the session
pub record Repeats (old new : Talk) (room room_now : List ℕ) (call_result : CallResult) : Type 0 where
  pub same : new ≡ old
  pub over : old.phase ≡ Broken → call_result ≡ Over
  pub again : (old.phase ≡ Broken → ⊥) → FitsBuffer old.progress.page room room_now call_result
