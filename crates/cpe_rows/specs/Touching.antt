-- The facts and checks that an edit touches: their truth may change. The laws say that everything else is unchanged.
use Rattle.std.specs.Prelude.{List, Bool, false, ◌||◌, ◌++◌, filter, Option, Some, None}
use Rattle.std.specs.List.{list_any, flat_map}
use Rattle.cpe_name.specs.Eleven.{Values}
use Rattle.cpe_relation.specs.NameRelation.{covers}
use Rattle.cpe_relation.specs.Maybe.{maybe}
use Rattle.cpe_rows.specs.Rows.{Rows, same_key}
use Rattle.cpe_rows.specs.After.{after}
use Rattle.cpe_rows.specs.Chains.{leads_to, ends}
use Rattle.cpe_rows.specs.Verdict.{is_followed}
use Rattle.cpe_rows.specs.declared.entry.Entry.{Entry}
use Rattle.cpe_rows.specs.declared.edit.Edit.{Edit}
use Rattle.cpe_rows.specs.declared.edit.Edit.TheVariants as edit
use Rattle.cpe_rows.specs.declared.test.CheckKey.{CheckKey}
use Rattle.cpe_rows.specs.declared.test.Test.{Test}
use Rattle.cpe_rows.specs.declared.test.Test.TheOpen.{Test-F}
use Rattle.cpe_rows.specs.declared.test.Test.TheFolds.{fold-Test}
use Rattle.cpe_rows.specs.declared.statement.Mode.{Mode}
use Rattle.cpe_rows.specs.declared.statement.Mode.TheVariants.{Plain, Follow}
use Rattle.cpe_rows.specs.declared.statement.Statement.{Statement}

abbrev pub touches_step : (Values → Bool) → (CheckKey → Bool) → Test-F Bool → Bool
touches_step fact check (Test-F.Logic operator negate of) = list_any (λ touched. touched) of
touches_step fact check (Test-F.Fact name) = fact name
touches_step fact check (Test-F.Check key) = check key

-- Some fact or check of the test passes.
abbrev pub test_touches : (Values → Bool) → (CheckKey → Bool) → Test → Bool
test_touches fact check = fold-Test Bool (touches_step fact check)

-- The name covers the other name, or may cover it.
abbrev pub reaches : Values → Values → Bool
reaches name other = covers name other || maybe name other

-- The relation is true of the fact and the item: of their names as they are in mode `plain`, and of some of their ends
-- in mode `follow`.
abbrev pub is_related : (Values → Values → Bool) → List Entry → Mode → Values → Values → Bool
is_related relates entries Plain fact item = relates fact item
is_related relates entries Follow fact item = is_followed relates entries fact item

-- The fact covers the item, or may cover it.
abbrev pub touches_item : List Entry → Mode → Values → Values → Bool
touches_item entries mode fact item = is_related reaches entries mode fact item

-- the name of the entry whose deprecation the edit changes
abbrev pub deprecation_changed : Edit → Option Values
deprecation_changed (edit.Deprecate n d date comment) = Some n
deprecation_changed (edit.Amend n d date comment) = Some n
deprecation_changed (edit.Restore n date comment) = Some n
deprecation_changed e = None

-- the ends, before and after the edit, of the items that lead to the entry of this name
abbrev pub touched_ends : Rows → Rows → Values → List Values
touched_ends rows next n =
    flat_map (λ x. ends rows.entries x ++ ends next.entries x) (filter (λ x. leads_to rows.entries x n) rows.items)

-- In mode `follow`, the fact leads to the entry of this name, or one of its ends covers or may cover a touched end.
abbrev pub touches_deprecation : Rows → Rows → Values → Mode → Values → Bool
touches_deprecation rows next n Plain fact = false
touches_deprecation rows next n Follow fact =
    leads_to rows.entries fact n || list_any (λ f. list_any (reaches f) (touched_ends rows next n)) (ends rows.entries fact)

-- The edit touches the fact, in a statement of this mode.
abbrev pub touches_fact : Rows → Edit → Mode → Values → Bool
touches_fact rows (edit.Item n) mode fact = touches_item rows.entries mode fact n
touches_fact rows (edit.DropItem n) mode fact = touches_item rows.entries mode fact n
touches_fact rows (edit.Deprecate n d date comment) mode fact =
    touches_deprecation rows (after rows (edit.Deprecate n d date comment)) n mode fact
touches_fact rows (edit.Amend n d date comment) mode fact =
    touches_deprecation rows (after rows (edit.Amend n d date comment)) n mode fact
touches_fact rows (edit.Restore n date comment) mode fact =
    touches_deprecation rows (after rows (edit.Restore n date comment)) n mode fact
touches_fact rows e mode fact = false

-- The edit touches the check.
abbrev pub touches_check : Edit → CheckKey → Bool
touches_check (edit.SetCheck k t) key = same_key k key
touches_check (edit.DropCheck k) key = same_key k key
touches_check e key = false

-- The edit touches a fact or a check of the statement.
abbrev pub touches_statement : Rows → Edit → Statement → Bool
touches_statement rows e s = test_touches (touches_fact rows e s.mode) (touches_check e) s.test
