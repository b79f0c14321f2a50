-- Tasks of runs: the text and the status that a run has to write for an input.
use Rattle.std.specs.Prelude.{◌≡◌, ℕ, List, ◌++◌}
use Rattle.std.specs.declared.option.Option.{Option}
use Rattle.cpe_io.specs.Lines.{lines}
use Rattle.line_session.specs.declared.status.Status.{Status}
use Rattle.line_session.specs.Session.{Session, start, stage_after, out_from}
use Rattle.line_session.specs.Statuses.{status_of}

-- all that is written, and the status
pub record Transcript : Type 0 where
  pub text : List ℕ
  pub status : Status

-- the answer to lines: what the lines write, what is written at the end, and the status of the run
pub record Speech : Type 0 where
  pub out : List (Option (List ℕ)) → List ℕ
  pub end : List (Option (List ℕ)) → List ℕ
  pub status : List (Option (List ℕ)) → Status

-- the transcript of these lines
abbrev pub spoken : Speech → List (Option (List ℕ)) → Transcript
spoken speech ls = record { text = speech.out ls ++ speech.end ls; status = speech.status ls }

-- the speech of a session that begins in this state
abbrev pub speech : {State : Type 0} → Session State → State → Speech
speech session first = record {
  out = out_from session (start first);
  end = λ ls. session.ends (stage_after session (start first) ls).state;
  status = λ ls. status_of (stage_after session (start first) ls).refused;
}

-- The task of a run: to write a fixed text and read nothing; to answer each line of the input; or to answer the input
-- as a whole, by a condition on its bytes and its transcript.
pub data Task : Type 1 where
  Fixed : Transcript → Task
  Lines : Speech → Task
  Whole : (List ℕ → Transcript → Type 0) → Task

-- the transcript `it` is one that the task allows for these bytes
abbrev pub Says : Task → List ℕ → Transcript → Type 0
Says (Fixed all) bytes it = it ≡ all
Says (Lines speech) bytes it = it ≡ spoken speech (lines bytes)
Says (Whole says) bytes it = says bytes it

abbrev pub task : {State : Type 0} → Session State → State → Task
task session first = Lines (speech session first)
