-- What each part of a run does to the page and to the sink.
use Rattle.std.specs.Prelude.{◌≡◌, ◌⊎◌, ℕ, Bool, List, ◌++◌, Some, None, Ok, Err}
use Rattle.std.specs.declared.option.Option.{Option}
use Rattle.std.specs.declared.result.Result.{Result}
use Rattle.std.specs.Io.KnownBytes.{Appends}
use Rattle.cpe_io.specs.Writes.{AppendsPrefix}
use Rattle.line_session.specs.Session.{Stage, Saying, state_after}
use Rattle.line_session.specs.declared.progress.Progress.{Progress}
use Rattle.line_session.specs.Statuses.{status_of}
use Rattle.line_session.specs.declared.status.Status.{Status}
use Rattle.line_session.specs.declared.status.Status.TheVariants.{Done, SomeRefused, WriteFault, Memory}

-- the stage of a session, from the progress of its loop and the state
abbrev pub stage_of : {State : Type 0} → Progress → State → Stage State
stage_of progress state = record { number = progress.number; refused = progress.refused; state = state }

-- Either the text that is said is appended to the page, and the state is the next one. Or page and state are unchanged,
-- and the reason of the refusal is returned.
abbrev pub IsAppended : {State : Type 0} → Result (List ℕ × State) (List ℕ) → State → State → List ℕ → List ℕ → Option (List ℕ) → Type 0
IsAppended (Ok both) state state_now page page_now refused = (refused ≡ None) × (page_now ≡ page ++ both.0) × (state_now ≡ both.1)
IsAppended (Err reason) state state_now page page_now refused = (refused ≡ Some reason) × (page_now ≡ page) × (state_now ≡ state)

-- the state is unchanged, or it is the state after what is said
abbrev pub IsBeforeOrAfter : {State : Type 0} → Saying State → State → State → Type 0
IsBeforeOrAfter saying state state_now = (state_now ≡ state) ⊎ (state_now ≡ state_after state saying)

-- either the text is appended to the page, or the page is unchanged and the reason is returned why there is no text
abbrev pub AppendsPage : {Why : Type 0} → Result (List ℕ) Why → List ℕ → List ℕ → Option Why → Type 0
AppendsPage (Ok text) page page_now refused = (page_now ≡ page ++ text) × (refused ≡ None)
AppendsPage (Err why) page page_now refused = (page_now ≡ page) × (refused ≡ Some why)

-- a prefix of the page and of this text after it was written to the sink, and the rest is kept
pub record Pours (held held_now : Option (List ℕ)) (page page_now text : List ℕ) : Type 0 where
  pub prefix : List ℕ
  pub appends : Appends held held_now prefix
  pub splits : page ++ text ≡ prefix ++ page_now

-- all of the text was written to the sink; or, after a fault, a prefix of it
abbrev pub Finishes : Option (List ℕ) → Option (List ℕ) → List ℕ → Bool → Status → Type 0
Finishes held held_now text refused Done = Appends held held_now text × (status_of refused ≡ Done)
Finishes held held_now text refused SomeRefused = Appends held held_now text × (status_of refused ≡ SomeRefused)
Finishes held held_now text refused WriteFault = AppendsPrefix held held_now text
Finishes held held_now text refused Memory = AppendsPrefix held held_now text
Finishes held held_now text refused status = ⊥
