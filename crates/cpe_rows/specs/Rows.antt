-- The rows that accepted edits leave, in the order in which they were added. Names are in lower case. The rows have no
-- numbers, indexes or verdicts.
use Rattle.std.specs.Prelude.{ℕ, List, [], ◌&&◌, Bool, Option, find}
use Rattle.std.specs.List.{list_any}
use Rattle.std.specs.Str.{bytes_eq}
use Rattle.cpe_name.specs.Eleven.{Values}
use Rattle.cpe_rows.specs.Names.{is_same}
use Rattle.cpe_rows.specs.declared.entry.Entry.{Entry}
use Rattle.cpe_rows.specs.declared.statement.Statement.{Statement}
use Rattle.cpe_rows.specs.declared.test.CheckKey.{CheckKey}
use Rattle.cpe_rows.specs.declared.truth.Truth.{Truth}

-- the entries of the dictionary, the items of the inventory, the statements, and the results that are kept for checks
pub record Rows : Type 0 where
  pub entries : List Entry
  pub items : List Values
  pub statements : List Statement
  pub checks : List (CheckKey × Truth)

abbrev pub no_rows : Rows
no_rows = record { entries = []; items = []; statements = []; checks = [] }

-- The entry has this name.
abbrev pub is_named : Values → Entry → Bool
is_named n e = is_same n e.name

-- the entry of this name, if there is one
abbrev pub entry_of : Rows → Values → Option Entry
entry_of rows n = find (is_named n) rows.entries

abbrev pub is_entry : Rows → Values → Bool
is_entry rows n = list_any (is_named n) rows.entries

abbrev pub is_item : Rows → Values → Bool
is_item rows n = list_any (is_same n) rows.items

-- The statement has this id.
abbrev pub has_id : List ℕ → Statement → Bool
has_id id s = bytes_eq s.id id

-- Some statement has this id.
abbrev pub is_statement : Rows → List ℕ → Bool
is_statement rows id = list_any (has_id id) rows.statements

-- Two keys have the same system, reference and id.
abbrev pub same_key : CheckKey → CheckKey → Bool
same_key a b = bytes_eq a.system b.system && (bytes_eq a.href b.href && bytes_eq a.id b.id)

-- The result has this key.
abbrev pub has_key : CheckKey → (CheckKey × Truth) → Bool
has_key k c = same_key k c.0

-- A result with this key is kept.
abbrev pub is_checked : Rows → CheckKey → Bool
is_checked rows k = list_any (has_key k) rows.checks
