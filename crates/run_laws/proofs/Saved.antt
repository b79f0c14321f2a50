-- `save` writes the snapshot of the rows, so `load` reads these rows.
use Rattle.std.proofs.Common.{◌≡◌, ℕ, ◌+◌, List, [], ◌∷◌, ◌++◌, true, Option, Some, None, codes, inl, inr, refl, sym, ap, ◌∙◌, subst}
use Rattle.std.specs.Prelude.{Result, Ok, Err}
use Rattle.cpe_command.specs.cpe_io.Lines.{lines}
use Rattle.cpe_command.specs.line_session.Session.{Stage, writes, start, stage_after, after_next, next_writes, out_from}
use Rattle.cpe_command.specs.line_session.Task.{Transcript}
use Rattle.cpe_command.proofs.line_session.SessionLemmas.{state-folded}
use Rattle.cpe_rows.specs.Rows.{Rows, no_rows}
use Rattle.cpe_rows.specs.Step.{step}
use Rattle.cpe_rows.specs.declared.fault.EditFault.{EditFault}
use Rattle.cpe_records.specs.Edited.{line_edited}
use Rattle.cpe_records.specs.Reading.{record_of}
use Rattle.cpe_records.specs.declared.read.Record.{Record}
use Rattle.cpe_records.specs.declared.read.Record.TheVariants.{Edit, Query}
use Rattle.cpe_records.specs.declared.member.RecordFault.{RecordFault}
use Rattle.snapshot_bytes.specs.States.{Snap, snapshot, StatesAreClear, StatesHaveSnapshots}
use Rattle.convert_lines.specs.line_replies.Replies.{verdict_table}
use Rattle.cpe_command.specs.Records.{record_step, by_record, record_session}
use Rattle.cpe_command.specs.declared.records.RecordCommand.{RecordCommand}
use Rattle.cpe_command.specs.declared.records.RecordCommand.TheVariants.{Save, Evaluate}
use Rattle.cpe_command.proofs.Edits.{edits-lines}
use Rattle.cpe_command.specs.Loading.{IsNoSnapshot, load_says, state_reported}
use Rattle.run_laws.specs.Theorems.{rows_of_lines, SavedIsLoaded, WritesTranscript}
use Rattle.run_laws.proofs.Folded.{rows_kept}

-- the rows after lines are the same under each command
pub rows_after : (command : RecordCommand) (ls : List (Option (List ℕ))) → (stage_after (record_session command) (start no_rows) ls).state ≡ rows_of_lines ls
rows_after command ls = state-folded (record_session command) line_edited (edits-lines command) (start no_rows) ls

-- ---- `save` writes nothing for a line

step_quiet : (number : ℕ) (r : Result Rows EditFault) → writes true number (record_step (λ next. []) r) ≡ []
step_quiet number (Ok next) = refl
step_quiet number (Err fault) = refl

record_quiet : (number : ℕ) (rows : Rows) (r : Result Record RecordFault) → writes true number (by_record Save number rows r) ≡ []
record_quiet number rows (Ok (Edit e)) = step_quiet number (step rows e)
record_quiet number rows (Ok (Query q)) = refl
record_quiet number rows (Err fault) = refl

line_quiet : (s : Stage Rows) (line : Option (List ℕ)) → next_writes (record_session Save) s line ≡ []
line_quiet s None = refl
line_quiet s (Some []) = refl
line_quiet s (Some (x ∷ xs)) = record_quiet (s.number + 1) s.state (record_of (x ∷ xs))

all_quiet : (s : Stage Rows) (ls : List (Option (List ℕ))) → out_from (record_session Save) s ls ≡ []
all_quiet s [] = refl
all_quiet s (line ∷ more) = (λ i. line_quiet s line i ++ all_quiet (after_next (record_session Save) s line) more i)

saved_is : (input : List ℕ) (saved : Transcript) → WritesTranscript (codes "save") input saved → saved.text ≡ snapshot (rows_of_lines (lines input))
saved_is input saved h =
    let ls = lines input in
    ap (λ (t : Transcript). t.text) h
    ∙ (λ i. all_quiet (start no_rows) ls i ++ snapshot (rows_after Save ls i))

-- ---- the three runs

module _ (clear : StatesAreClear) (some : StatesHaveSnapshots) where
  loaded_is : (rows : Rows) (text : List ℕ) (loaded : Transcript) → Snap rows text → (IsNoSnapshot text → ⊥) → load_says text loaded → loaded ≡ state_reported rows
  loaded_is rows text loaded snap is (inl reports) = reports.reported ∙ ap state_reported (clear reports.rows rows text reports.snap snap)
  loaded_is rows text loaded snap is (inr none) = absurd (is none.0)

  pub saved_is_loaded : SavedIsLoaded
  saved_is_loaded input saved loaded table saves loads evaluates =
      let ls = lines input in
      let rows = rows_of_lines ls in
      let kept = rows_kept ls in
      let snap : Snap rows saved.text = subst (Snap rows) (sym (saved_is input saved saves)) (some rows kept.lawful kept.texts) in
      record {
        answers = out_from (record_session Evaluate) (start no_rows) ls;
        loads = loaded_is rows saved.text loaded snap (λ none. none rows kept.lawful snap) loads;
        evaluates = ap (λ (t : Transcript). t.text) evaluates ∙ ap (λ now. out_from (record_session Evaluate) (start no_rows) ls ++ verdict_table now) (rows_after Evaluate ls);
      }
