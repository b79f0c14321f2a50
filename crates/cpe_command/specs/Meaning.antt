-- What the words of the command line mean: what a run with these words reads, writes, keeps and costs.
use Rattle.std.specs.Prelude.{◌≡◌, ℕ, Bool, true, false, List, [], Some, None}
use Rattle.std.specs.declared.option.Option.{Option}
use Rattle.cpe_io.specs.Lines.{lines}
use Rattle.line_session.specs.step_count.Within.{StepsWithin}
use Rattle.line_session.specs.declared.status.Status.{Status}
use Rattle.line_session.specs.declared.status.Status.TheVariants.{Done, Usage}
use Rattle.line_session.specs.Table.{rows_text}
use Rattle.line_session.specs.Heard.{IsLeft}
use Rattle.line_session.specs.Task.{Task, Fixed, Whole, task}
use Rattle.line_session.specs.Folding.{IsFolded, summed_by}
use Rattle.cpe_rows.specs.Rows.{Rows, no_rows}
use Rattle.convert_lines.specs.cpe_records.Edited.{line_edited}
use Rattle.drill_lines.specs.Generated.{generated_line}
use Rattle.drill_lines.specs.Looks.{line_looks, record_looks}
use Rattle.drill_lines.specs.Outcome.{summed}
use Rattle.drill_lines.specs.Drill.{drill_transcript, LeavesRows}
use Rattle.advise_ranges.specs.Rows.{no_advice_rows as no_advice}
use Rattle.convert_lines.specs.Convert.{convert_session}
use Rattle.advise_ranges.specs.Records.{advice_session, advice_steps}
use Rattle.cover_lines.specs.Lines.{cover_session, cover_steps as most_cover_steps}
use Rattle.cpe_command.specs.declared.command.Command.{Command}
use Rattle.cpe_command.specs.declared.command.Command.TheVariants.{Name, Compare, Records, Convert, Advise, Load, Cover, Make, Drill}
use Rattle.cpe_command.specs.Command.{command_of, usage}
use Rattle.cpe_command.specs.Loading.{load_says, LoadLeaves}
use Rattle.cpe_command.specs.Names.{name_session}
use Rattle.cpe_command.specs.Pairs.{pair_session}
use Rattle.cpe_command.specs.Records.{record_session}

-- What a command means. Some parts depend on the bytes that a run takes from its input.
pub record Meaning : Type 1 where
  -- whether the command reads its input
  pub reads : Bool
  -- what the command writes for its input, and the status
  pub task : Task
  -- which rows the engine keeps at a status, if it had no rows before the run
  pub keeps : Rows → List ℕ → Status → Type 0
  -- the most looks at kept names
  pub looks : List ℕ → ℕ

-- a command without records leaves the engine without rows
abbrev pub NoRows : Rows → List ℕ → Status → Type 0
NoRows rows taken status = rows ≡ no_rows

-- A command answers each line, or reads the whole input as a snapshot, or writes generated lines or their outcome. A
-- command on records leaves the rows that the lines of the taken bytes leave, read one after the other. Its looks are
-- at most the sum over these lines; each line counts in the rows that the earlier lines leave. `drill` does the same
-- with the generated lines. `load` leaves the rows of the snapshot, and none of its looks is counted. If the words
-- name no command, the usage line is written.
abbrev pub meaning_of : Option Command → Meaning
meaning_of (Some (Name command)) = record { reads = true; task = task (name_session command) tt; keeps = NoRows; looks = λ taken. 0 }
meaning_of (Some Compare) = record { reads = true; task = task pair_session tt; keeps = NoRows; looks = λ taken. 0 }
meaning_of (Some (Records command)) = record {
  reads = true;
  task = task (record_session command) no_rows;
  keeps = IsFolded line_edited no_rows;
  looks = λ taken. summed_by line_edited line_looks no_rows (lines taken);
}
meaning_of (Some Convert) = record { reads = true; task = task convert_session tt; keeps = NoRows; looks = λ taken. 0 }
meaning_of (Some Advise) = record { reads = true; task = task advice_session no_advice; keeps = NoRows; looks = advice_steps }
meaning_of (Some Load) = record { reads = true; task = Whole load_says; keeps = IsLeft LoadLeaves no_rows; looks = λ taken. 0 }
meaning_of (Some Cover) = record { reads = true; task = task cover_session []; keeps = NoRows; looks = most_cover_steps }
meaning_of (Some (Make count)) = record {
  reads = false;
  task = Fixed (record { text = rows_text generated_line count; status = Done });
  keeps = NoRows;
  looks = λ taken. 0;
}
meaning_of (Some (Drill count)) = record {
  reads = false;
  task = Fixed (drill_transcript count);
  keeps = λ rows taken status. LeavesRows count rows status;
  looks = λ taken. summed record_looks count;
}
meaning_of None = record { reads = false; task = Fixed (record { text = usage; status = Usage }); keeps = NoRows; looks = λ taken. 0 }

-- what the words mean
abbrev pub meaning : List (List ℕ) → Meaning
meaning words = meaning_of (command_of words)

-- what a run leaves apart from its output: the rows that the engine keeps, and a count of looks that rose at most by
-- the looks of the meaning
pub record RunLeaves (meant : Meaning) (rows : Rows) (steps steps_now : ℕ) (taken : List ℕ) (status : Status) : Type 0 where
  pub keeps : meant.keeps rows taken status
  pub within : StepsWithin steps steps_now (meant.looks taken)
