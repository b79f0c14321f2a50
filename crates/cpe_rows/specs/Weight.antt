-- The weight of the rows, which bounds their memory. Each row weighs 32, and each part of a row that is counted here
-- weighs 32 too. Each byte of their texts adds one. The text of a name is its formatted string.
use Rattle.std.specs.Prelude.{ℕ, ◌+◌, List, [], ◌∷◌, length, map}
use Rattle.std.specs.Option.{option_map_or}
use Rattle.cpe_name.specs.Eleven.{Values}
use Rattle.cpe_fs.specs.Grammar.{fs_text}
use Rattle.cpe_rows.specs.Rows.{Rows}
use Rattle.cpe_rows.specs.declared.truth.Truth.{Truth}
use Rattle.cpe_rows.specs.declared.entry.Entry.{Entry}
use Rattle.cpe_rows.specs.declared.entry.Note.{Note}
use Rattle.cpe_rows.specs.declared.entry.Deprecation.{Deprecation}
use Rattle.cpe_rows.specs.declared.statement.Statement.{Statement}
use Rattle.cpe_rows.specs.declared.test.CheckKey.{CheckKey}
use Rattle.cpe_rows.specs.declared.test.Test.{Test}
use Rattle.cpe_rows.specs.declared.test.Test.TheOpen.{Test-F}
use Rattle.cpe_rows.specs.declared.test.Test.TheFolds.{fold-Test}

abbrev pub total_weight : List ℕ → ℕ
total_weight [] = 0
total_weight (n ∷ ns) = n + total_weight ns

-- the weight of a row or part whose texts have this many bytes
abbrev pub weighs : ℕ → ℕ
weighs bytes = 32 + bytes

-- the weight of a successor, an item or a fact
abbrev pub name_weight : Values → ℕ
name_weight n = weighs (length (fs_text n))

abbrev pub note_weight : Note → ℕ
note_weight n = weighs (length n.date + length n.comment)

-- the weight of a deprecation's successors
abbrev pub deprecation_weight : Deprecation → ℕ
deprecation_weight d = total_weight (map name_weight d.successors)

-- the weight of the entry itself, of its notes, and of its successors
abbrev pub entry_weight : Entry → ℕ
entry_weight e =
    weighs (length (fs_text e.name) + length e.title + length e.provenance.submitter + length e.provenance.authority)
    + total_weight (map note_weight e.provenance.notes) + option_map_or deprecation_weight e.deprecation 0

-- the weight of a check in a test, or of a kept result
abbrev pub key_weight : CheckKey → ℕ
key_weight k = weighs (length k.system + length k.href + length k.id)

abbrev pub test_weight_step : Test-F ℕ → ℕ
test_weight_step (Test-F.Logic operator negate of) = weighs 0 + total_weight of
test_weight_step (Test-F.Fact name) = name_weight name
test_weight_step (Test-F.Check key) = key_weight key

abbrev pub test_weight : Test → ℕ
test_weight = fold-Test ℕ test_weight_step

abbrev pub statement_weight : Statement → ℕ
statement_weight s = weighs (length s.id + length s.title) + test_weight s.test

abbrev pub check_weight : (CheckKey × Truth) → ℕ
check_weight c = key_weight c.0

abbrev pub weight : Rows → ℕ
weight rows =
    total_weight (map entry_weight rows.entries) + total_weight (map name_weight rows.items)
    + total_weight (map statement_weight rows.statements) + total_weight (map check_weight rows.checks)
