-- How many looks at kept names a record may take.
use Rattle.std.specs.Prelude.{ℕ, List, [], ◌∷◌, Option, Some, None, Result, Ok, Err}
use Rattle.cpe_rows.specs.Rows.{Rows}
use Rattle.cpe_records.specs.Reading.{record_of}
use Rattle.cpe_records.specs.declared.read.Record.{Record}
use Rattle.cpe_records.specs.declared.read.Record.TheVariants.{Edit, Query}
use Rattle.cpe_records.specs.declared.member.RecordFault.{RecordFault}
use Rattle.cpe_engine.specs.Looks.{edit_looks, query_looks}

-- the most looks of a record's edit, or of its question, in these rows; a refused edit takes no look, and neither
-- does a line that is no record
abbrev pub record_looks : Rows → Result Record RecordFault → ℕ
record_looks rows (Ok (Edit e)) = edit_looks rows e
record_looks rows (Ok (Query query)) = query_looks rows query
record_looks rows (Err fault) = 0

-- the most looks of a line; a line without bytes is no record, and neither is a line that is too long
abbrev pub line_looks : Rows → Option (List ℕ) → ℕ
line_looks rows None = 0
line_looks rows (Some []) = 0
line_looks rows (Some (x ∷ xs)) = record_looks rows (record_of (x ∷ xs))
