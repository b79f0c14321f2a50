-- The lines that answer a question, the table of all verdicts, and the lines of the verdicts that an edit changes. A
-- name is written as its formatted string.
use Rattle.std.specs.Prelude.{ℕ, List, [], ◌++◌, length, codes, Option, Some, None, option_map, slice_get}
use Rattle.std.specs.List.{flat_map}
use Rattle.std.specs.Option.{option_map_or}
use Rattle.std.specs.Fmt.{decimal}
use Rattle.cpe_rows.specs.cpe_name.Eleven.{Values}
use Rattle.cpe_fs.specs.Grammar.{fs_text}
use Rattle.cpe_rows.specs.Rows.{Rows}
use Rattle.cpe_rows.specs.Verdict.{verdict}
use Rattle.cpe_rows.specs.declared.entry.Entry.{Entry}
use Rattle.cpe_rows.specs.declared.statement.Statement.{Statement}
use Rattle.cpe_rows.specs.declared.truth.Truth.{Truth}
use Rattle.cpe_rows.specs.declared.edit.Edit.{Edit}
use Rattle.cpe_rows.specs.declared.edit.Edit.TheVariants as edit
use Rattle.cpe_rows.specs.declared.reply.Changed.{Changed}
use Rattle.cpe_rows.specs.declared.reply.State.{State}
use Rattle.cpe_rows.specs.declared.reply.State.TheVariants.{Active, Deprecated}
use Rattle.cpe_rows.specs.declared.reply.Row.{Row}
use Rattle.cpe_rows.specs.declared.reply.Reply.{Reply}
use Rattle.cpe_rows.specs.declared.reply.Reply.TheVariants.{Lookup, Search, Items, Chain, Show, Verdict}
use Rattle.cpe_records.specs.Words.{kind_word, truth_word}
use Rattle.record_writer.specs.Written.{entry_text}

-- the state of an entry: `active`, or the kind of its deprecation
abbrev pub state_word : State → List ℕ
state_word Active = codes "active"
state_word (Deprecated kind) = kind_word kind

-- a name as it is written
unfoldable pub name_text : Values → List ℕ
name_text name = fs_text name

-- the line of a word and a name
abbrev pub name_line : List ℕ → Values → List ℕ
name_line word name = word ++ name_text name ++ codes "\n"

-- the line of a word, the name of an entry, and the state of the entry
abbrev pub row_line : List ℕ → Row → List ℕ
row_line word row = word ++ name_text row.name ++ codes " " ++ state_word row.state ++ codes "\n"

-- the first line of an answer: a word, the name, and the number of entries, or of covered items
abbrev pub count_line : List ℕ → Values → ℕ → List ℕ
count_line word name count = word ++ name_text name ++ codes " " ++ decimal count ++ codes "\n"

-- the first line of a chain: the name, the number of its entries, and the number of its ends
abbrev pub chain_line : Values → ℕ → ℕ → List ℕ
chain_line name links ends = codes "chain " ++ name_text name ++ codes " " ++ decimal links ++ codes " " ++ decimal ends ++ codes "\n"

-- the line of a question and what was found, or `absent` if nothing was found
abbrev pub found_line : List ℕ → Option (List ℕ) → List ℕ
found_line asked found = asked ++ codes " " ++ option_map_or (λ text. text) found (codes "absent") ++ codes "\n"

-- the line of an entry; if there is no entry, the line of the name and `absent`
abbrev pub found_entry_text : Values → Option Entry → List ℕ
found_entry_text name (Some entry) = codes "show " ++ entry_text entry ++ codes "\n"
found_entry_text name None = codes "show " ++ name_text name ++ codes " absent\n"

-- the line of a statement's id and verdict, or `absent` if there is no verdict
abbrev pub verdict_line : List ℕ → Option Truth → List ℕ
verdict_line id truth = found_line (codes "verdict " ++ id) (option_map truth_word truth)

-- the number of items that the name covers, then these items, then the items that the name may cover
abbrev pub items_text : Values → List Values → List Values → List ℕ
items_text name covered maybe =
    count_line (codes "items ") name (length covered) ++ flat_map (name_line (codes "item ")) covered
    ++ flat_map (name_line (codes "maybe ")) maybe

abbrev pub reply_text : Reply → List ℕ
reply_text (Lookup name state) = found_line (codes "lookup " ++ name_text name) (option_map state_word state)
reply_text (Search name rows) = count_line (codes "search ") name (length rows) ++ flat_map (row_line (codes "entry ")) rows
reply_text (Items name items maybe) = items_text name items maybe
reply_text (Chain name links ends) = chain_line name (length links) (length ends) ++ flat_map (row_line (codes "step ")) links ++ flat_map (name_line (codes "end ")) ends
reply_text (Show name entry) = found_entry_text name entry
reply_text (Verdict id truth) = verdict_line id truth

-- the line of a statement's verdict, as the answer to a question has it
abbrev pub statement_line : Rows → Statement → List ℕ
statement_line rows s = verdict_line s.id (Some (verdict rows s))

-- the number of statements, and then the verdict of each, in order
abbrev pub verdict_table : Rows → List ℕ
verdict_table rows = codes "verdicts " ++ decimal (length rows.statements) ++ codes "\n" ++ flat_map (statement_line rows) rows.statements

-- a truth, or `none` if there is no verdict
abbrev pub truth_or_none : Option Truth → List ℕ
truth_or_none truth = option_map_or truth_word truth (codes "none")

-- the line of a changed verdict: the number of the line that changed it, the id of the statement, and the truths
-- before and after
abbrev pub change_line : ℕ → List ℕ → Changed → List ℕ
change_line number id c =
    codes "changed " ++ decimal number ++ codes " " ++ id ++ codes " " ++ truth_or_none c.before ++ codes " " ++ truth_or_none c.after ++ codes "\n"

-- the id of the statement at a place; empty if there is no statement
abbrev pub statement_id : List Statement → ℕ → List ℕ
statement_id statements place = option_map_or (λ s. s.id) (slice_get statements place) []

-- the id of the statement that an edit removes, if it removes one
abbrev pub dropped_id : Edit → Option (List ℕ)
dropped_id (edit.DropStatement id) = Some id
dropped_id e = None

-- the id of a changed statement: if it has a verdict after the edit, the id of the statement at its place; otherwise
-- the id that the edit removed
abbrev pub changed_id : List Statement → Option (List ℕ) → Changed → List ℕ
changed_id statements dropped c = option_map_or (λ after. statement_id statements c.place) c.after (option_map_or (λ id. id) dropped [])

-- what an accepted edit writes for these changes; `number` is the number of the edit's line, and `next` are the rows
-- that the edit leaves
abbrev pub changes_text : ℕ → Rows → Edit → List Changed → List ℕ
changes_text number next e changes = flat_map (λ c. change_line number (changed_id next.statements (dropped_id e) c) c) changes
