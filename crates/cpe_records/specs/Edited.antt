-- The rows that records leave, one line after another.
use Rattle.std.specs.Prelude.{ℕ, List, [], ◌∷◌, Option, Some, None, Result, Ok, Err}
use Rattle.cpe_rows.specs.Rows.{Rows}
use Rattle.cpe_rows.specs.Step.{step}
use Rattle.cpe_rows.specs.declared.fault.EditFault.{EditFault}
use Rattle.cpe_records.specs.Reading.{record_of}
use Rattle.cpe_records.specs.declared.read.Record.{Record}
use Rattle.cpe_records.specs.declared.read.Record.TheVariants.{Edit, Query}
use Rattle.cpe_records.specs.declared.member.RecordFault.{RecordFault}

-- the rows after a step; a refused step leaves them unchanged
abbrev pub stepped : Rows → Result Rows EditFault → Rows
stepped rows (Ok now) = now
stepped rows (Err fault) = rows

-- the rows after a record
abbrev pub edited : Rows → Result Record RecordFault → Rows
edited rows (Ok (Edit e)) = stepped rows (step rows e)
edited rows (Ok (Query query)) = rows
edited rows (Err fault) = rows

-- the rows after a line; a line without bytes, and a line that is too long, is no record
abbrev pub line_edited : Rows → Option (List ℕ) → Rows
line_edited rows None = rows
line_edited rows (Some []) = rows
line_edited rows (Some (x ∷ xs)) = edited rows (record_of (x ∷ xs))
