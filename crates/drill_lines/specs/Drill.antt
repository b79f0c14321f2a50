-- The session over the generated records: a line writes nothing, and its outcome is kept.
use Rattle.std.specs.Prelude.{ℕ, ◌≡◌, ◌+◌, ◌≤◌, [], false, Result, Ok}
use Rattle.line_session.specs.Session.{Session}
use Rattle.line_session.specs.declared.status.Status.{Status}
use Rattle.line_session.specs.declared.status.Status.TheVariants.{Done, WriteFault, Memory}
use Rattle.line_session.specs.Task.{Transcript}
use Rattle.cpe_rows.specs.Rows.{Rows, no_rows}
use Rattle.cpe_records.specs.Reading.{record_of}
use Rattle.cpe_records.specs.Edited.{edited}
use Rattle.cpe_records.specs.declared.read.Record.{Record}
use Rattle.cpe_records.specs.declared.member.RecordFault.{RecordFault}
use Rattle.drill_lines.specs.declared.drilled.Drilled.{Drilled}
use Rattle.drill_lines.specs.Looks.{record_looks}
use Rattle.drill_lines.specs.Outcome.{rows_behind, refusals, findings}
use Rattle.drill_lines.specs.Summary.{summary, drill_text}

-- the outcome before the first record
abbrev pub undrilled : Drilled
undrilled = record { engine = no_rows; refused = 0; found = 0 }

-- the outcome after one more record
abbrev pub drilled : Drilled → Result Record RecordFault → Drilled
drilled before read = record {
  engine = edited before.engine read;
  refused = before.refused + refusals before.engine read;
  found = before.found + findings before.engine read;
}

abbrev pub drill_session : ℕ → Session Drilled
drill_session count = record {
  says = λ before number text. Ok ([], drilled before (record_of text));
  quiet = false;
  ends = λ behind. summary count behind.refused behind.found behind.engine;
  cost = λ before number text. record_looks before.engine (record_of text);
  end_cost = λ behind. 0;
}

-- what `drill` writes, with the status Done
abbrev pub drill_transcript : ℕ → Transcript
drill_transcript n = record { text = drill_text n; status = Done }

-- which rows are left: if memory ran out or a write failed, the rows that the first k lines leave, for some k;
-- otherwise the rows that all n lines leave
abbrev pub LeavesRows : ℕ → Rows → Status → Type 0
LeavesRows n rows WriteFault = (k : ℕ) × (k ≤ n) × (rows ≡ rows_behind k)
LeavesRows n rows Memory = (k : ℕ) × (k ≤ n) × (rows ≡ rows_behind k)
LeavesRows n rows status = rows ≡ rows_behind n
