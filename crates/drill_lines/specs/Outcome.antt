-- The outcome of the generated records, read one after the other: the rows that they leave, how many records are
-- refused, and how many entries the searches find.
use Rattle.std.specs.Prelude.{ℕ, zero, suc, ◌+◌, List, [], ◌∷◌, Result, Ok, Err, length}
use Rattle.line_session.specs.Folding.{folded_lines}
use Rattle.line_session.specs.Table.{made_lines}
use Rattle.cpe_rows.specs.Rows.{Rows, no_rows}
use Rattle.cpe_rows.specs.Step.{step}
use Rattle.cpe_rows.specs.Answers.{answer}
use Rattle.cpe_rows.specs.declared.fault.EditFault.{EditFault}
use Rattle.cpe_rows.specs.declared.reply.Reply.{Reply}
use Rattle.cpe_rows.specs.declared.reply.Reply.TheVariants.{Lookup, Search, Items, Chain, Show, Verdict}
use Rattle.cpe_records.specs.Reading.{record_of}
use Rattle.cpe_records.specs.Edited.{line_edited}
use Rattle.cpe_records.specs.declared.read.Record.{Record}
use Rattle.cpe_records.specs.declared.read.Record.TheVariants.{Edit, Query}
use Rattle.cpe_records.specs.declared.member.RecordFault.{RecordFault}
use Rattle.drill_lines.specs.Generated.{generated}

-- the rows that the first n lines leave
unfoldable pub rows_behind : ℕ → Rows
rows_behind n = folded_lines line_edited no_rows (made_lines generated n)

-- 1 if the edit is refused, and otherwise 0
abbrev pub if_refused : Result Rows EditFault → ℕ
if_refused (Ok next) = 0
if_refused (Err fault) = 1

-- 1 if the line is no record or its edit is refused, and otherwise 0
abbrev pub refusals : Rows → Result Record RecordFault → ℕ
refusals rows (Ok (Edit e)) = if_refused (step rows e)
refusals rows (Ok (Query query)) = 0
refusals rows (Err fault) = 1

-- the number of entries that an answer lists as found
abbrev pub found_by : Reply → ℕ
found_by (Lookup name state) = 0
found_by (Search name rows) = length rows
found_by (Items name items maybe) = 0
found_by (Chain name links ends) = 0
found_by (Show name entry) = 0
found_by (Verdict id truth) = 0

-- the number of entries that the record finds, if it is a search; otherwise 0
abbrev pub findings : Rows → Result Record RecordFault → ℕ
findings rows (Ok (Edit e)) = 0
findings rows (Ok (Query query)) = found_by (answer rows query)
findings rows (Err fault) = 0

-- `number` of the line's record in these rows; 0 for a line without bytes, which is no record
abbrev pub for_line : (Rows → Result Record RecordFault → ℕ) → Rows → List ℕ → ℕ
for_line number rows [] = 0
for_line number rows (x ∷ xs) = number rows (record_of (x ∷ xs))

-- the sum of `number` over the first n lines; each line counts in the rows that the earlier lines leave
unfoldable pub summed : (Rows → Result Record RecordFault → ℕ) → ℕ → ℕ
summed number zero = 0
summed number (suc n) = summed number n + for_line number (rows_behind n) (generated n)
