-- What `load` writes for an input, and which rows it leaves.
use Rattle.std.specs.Prelude.{◌≡◌, ◌⊎◌, ℕ, List, [], ◌∷◌, ◌++◌, codes}
use Rattle.std.specs.List.{flat_map}
use Rattle.cpe_rows.specs.Counts.{counts_of}
use Rattle.cpe_rows.specs.Lawful.{IsLawful}
use Rattle.cpe_rows.specs.Rows.{Rows}
use Rattle.cpe_rows.specs.declared.counts.Counts.{Counts}
use Rattle.snapshot_bytes.specs.States.{Snap}
use Rattle.line_session.specs.Task.{Transcript}
use Rattle.line_session.specs.declared.status.Status.{Status}
use Rattle.line_session.specs.declared.status.Status.TheVariants.{Done, SomeRefused, WriteFault, Memory}
use Rattle.drill_lines.specs.Summary.{number_line}
use Rattle.convert_lines.specs.line_replies.Replies.{verdict_table}

-- the number of rows of each kind, a line for each
abbrev pub counts_text : Counts → List ℕ
counts_text counts =
    flat_map (λ (line : List ℕ × ℕ). number_line line.0 line.1)
    ((codes "entries", counts.entries) ∷ (codes "deprecated", counts.deprecated) ∷ (codes "items", counts.items) ∷ (codes "statements", counts.statements) ∷ (codes "checks", counts.checks) ∷ [])

-- the numbers of rows, and then the table of verdicts
abbrev pub state_text : Rows → List ℕ
state_text rows = counts_text (counts_of rows) ++ verdict_table rows

abbrev pub state_reported : Rows → Transcript
state_reported rows = record { text = state_text rows; status = Done }

abbrev pub refusal_reported : Transcript
refusal_reported = record { text = codes "refused snapshot\n"; status = SomeRefused }

-- the bytes are the snapshot of these lawful rows, and the transcript has the counts and verdicts of the rows
pub record ReportsState (bytes : List ℕ) (it : Transcript) : Type 0 where
  pub rows : Rows
  pub lawful : IsLawful rows
  pub snap : Snap rows bytes
  pub reported : it ≡ state_reported rows

-- the bytes are the snapshot of no lawful rows
abbrev pub IsNoSnapshot : List ℕ → Type 0
IsNoSnapshot bytes = (rows : Rows) → IsLawful rows → Snap rows bytes → ⊥

-- what `load` writes for these bytes
abbrev pub load_says : List ℕ → Transcript → Type 0
load_says bytes it = ReportsState bytes it ⊎ (IsNoSnapshot bytes × (it ≡ refusal_reported))

-- which rows are left at each status: the rows of the snapshot if all was done; the first rows if the input is no
-- snapshot; either of these if memory ran out or a write failed
abbrev pub LoadLeaves : Rows → Rows → List ℕ → Status → Type 0
LoadLeaves first now bytes Done = Snap now bytes
LoadLeaves first now bytes SomeRefused = now ≡ first
LoadLeaves first now bytes WriteFault = (now ≡ first) ⊎ Snap now bytes
LoadLeaves first now bytes Memory = (now ≡ first) ⊎ Snap now bytes
LoadLeaves first now bytes status = ⊥
