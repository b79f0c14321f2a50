-- Two conditions on lines, for the law about converted lines.
use Rattle.std.specs.Prelude.{◌≡◌, ℕ, List, Some, None, Ok, Err, ⊤}
use Rattle.std.specs.declared.option.Option.{Option}
use Rattle.std.specs.Str.{IsUtf8}
use Rattle.cpe_records.specs.Reading.{record_of}
use Rattle.cpe_records.specs.Taken.{IsFormedRecord}
use Rattle.record_writer.specs.WrittenRecord.{record_text}
use Rattle.cpe_records.specs.declared.read.Record.{Record}
use Rattle.convert_lines.specs.declared.reason.ConvertReason.TheVariants.{Grown}
use Rattle.convert_lines.specs.Convert.{converted}

-- `convert` refuses the line, because the written form of its record is too long
abbrev pub IsGrown : Option (List ℕ) → Type 0
IsGrown None = ⊥
IsGrown (Some text) = converted (record_of text) ≡ Err Grown

-- if the line is a record, the record is whole: its names are well-formed, its dates have the form of a date, and its
-- texts are UTF-8
abbrev pub IsWhole : Option (List ℕ) → Type 0
IsWhole None = ⊤
IsWhole (Some text) = (r : Record) → record_of text ≡ Ok r → IsFormedRecord r × IsUtf8 (record_text r)
