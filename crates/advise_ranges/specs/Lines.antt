-- The lines that answer a question. A name is written as its formatted string.
use Rattle.std.specs.Prelude.{ℕ, List, ◌++◌, length, codes, Option, Some, None}
use Rattle.std.specs.List.{flat_map}
use Rattle.std.specs.Fmt.{decimal}
use Rattle.cpe_rows.specs.cpe_name.Eleven.{Values}
use Rattle.cpe_fs.specs.Grammar.{fs_text}
use Rattle.advise_ranges.specs.declared.edit.AdviceReply.{AdviceReply}
use Rattle.advise_ranges.specs.declared.edit.AdviceReply.TheVariants.{Affected, Advisories}

-- a name as it is written
unfoldable pub name_text : Values → List ℕ
name_text name = fs_text name

-- the end of a first line: the number of lines that follow
abbrev pub count_end : ℕ → List ℕ
count_end count = codes " " ++ decimal count ++ codes "\n"

abbrev pub item_line : Values → List ℕ
item_line name = codes "item " ++ name_text name ++ codes "\n"

abbrev pub advisory_line : List ℕ → List ℕ
advisory_line id = codes "advisory " ++ id ++ codes "\n"

-- the items that the advisory affects, or `absent` if there is no such advisory
abbrev pub affected_text : List ℕ → Option (List Values) → List ℕ
affected_text id (Some items) = codes "affected " ++ id ++ count_end (length items) ++ flat_map item_line items
affected_text id None = codes "affected " ++ id ++ codes " absent\n"

abbrev pub advice_reply_text : AdviceReply → List ℕ
advice_reply_text (Affected id items) = affected_text id items
advice_reply_text (Advisories name ids) = codes "advisories " ++ name_text name ++ count_end (length ids) ++ flat_map advisory_line ids
