-- Valid edits and queries: their names are in lower case, and ids and tests have their form.
use Rattle.std.specs.Prelude.{ℕ, ◌&&◌, List, length, Bool, true, false, nat_lt, nat_le, is_none}
use Rattle.std.specs.List.{list_all}
use Rattle.cpe_rows.specs.Names.{is_lower}
use Rattle.cpe_rows.specs.Shape.{depth_of, is_sound}
use Rattle.cpe_rows.specs.declared.limits.TheConstants.{MOST_LEVELS, MOST_ID_BYTES}
use Rattle.cpe_rows.specs.declared.test.Test.{Test, out-Test}
use Rattle.cpe_rows.specs.declared.test.Test.TheOpen.{Test-F}
use Rattle.cpe_rows.specs.declared.edit.Edit.{Edit}
use Rattle.cpe_rows.specs.declared.edit.Edit.TheVariants.{Entry, Item, DropItem, Deprecate, Amend, Restore, PutStatement, DropStatement, SetCheck, DropCheck}
use Rattle.cpe_rows.specs.declared.edit.Query.{Query}
use Rattle.cpe_rows.specs.declared.edit.Query.TheVariants as query

abbrev pub is_visible : ℕ → Bool
is_visible b = nat_le 33 b && nat_le b 126

-- The bytes are an id: visible characters, at least one and at most `MOST_ID_BYTES`.
abbrev pub is_id : List ℕ → Bool
is_id id = nat_lt 0 (length id) && nat_le (length id) MOST_ID_BYTES && list_all is_visible id

abbrev pub is_logic : Test-F Test → Bool
is_logic (Test-F.Logic operator negate of) = true
is_logic (Test-F.Fact name) = false
is_logic (Test-F.Check key) = false

-- The test may be that of a statement: it is logical, not too deep, and sound.
abbrev pub is_statement_test : Test → Bool
is_statement_test t = is_logic (out-Test t) && nat_le (depth_of t) MOST_LEVELS && is_sound t

abbrev pub is_valid_edit : Edit → Bool
is_valid_edit (Entry e) = is_lower e.name && is_none e.deprecation
is_valid_edit (Item name) = is_lower name
is_valid_edit (DropItem name) = is_lower name
is_valid_edit (Deprecate name deprecation date comment) = is_lower name && list_all is_lower deprecation.successors
is_valid_edit (Amend name deprecation date comment) = is_lower name && list_all is_lower deprecation.successors
is_valid_edit (Restore name date comment) = is_lower name
is_valid_edit (PutStatement s) = is_id s.id && is_statement_test s.test
is_valid_edit (DropStatement id) = is_id id
is_valid_edit (SetCheck key result) = true
is_valid_edit (DropCheck key) = true

abbrev pub is_valid_query : Query → Bool
is_valid_query (query.Lookup name) = is_lower name
is_valid_query (query.Search name active_only) = is_lower name
is_valid_query (query.Items name) = is_lower name
is_valid_query (query.Chain name) = is_lower name
is_valid_query (query.Show name) = is_lower name
is_valid_query (query.Verdict id) = is_id id
