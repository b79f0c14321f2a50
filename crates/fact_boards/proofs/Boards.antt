-- Lemmas: the rows that the boards show after an edit.
use Rattle.std.proofs.Common.{◌≡◌, ◌≢◌, ℕ, length, true, cond, List, [], ◌++◌, refl, sym, ap, subst, ◌∙◌, arith, Some}
use Rattle.std.specs.Prelude.{filter, find, not}
use Rattle.std.specs.List.{flat_map, list_any, sum_by}
use Rattle.std.proofs.lemmas.List.Sums.{sum_by-append}
use Rattle.cpe_rows.specs.cpe_name.Eleven.{Values}
use Rattle.name_index.specs.Elements.{SameElements}
use Rattle.name_index.specs.declared.table.NameId.{NameId}
use Rattle.name_index.specs.Table.{Names, IsNameTable}
use Rattle.level_board.specs.Board.{MarksAreProbes, Board, IsEmptyBoard, KeepsLevels, SameBoard, Unmarks, find_times, or_none, times_seen as times_of, probe_at, probe_times, target_times}
use Rattle.level_board.specs.Rows.{Seen, has_number, unmarked}
use Rattle.std.proofs.lemmas.Bool.{false≢true}
use Rattle.level_board.proofs.Marks.{levels_same, levels_then}
use Rattle.std.proofs.Common.{Option, None}
use Rattle.cpe_rows.specs.After.{after}
use Rattle.cpe_rows.specs.FactNames.{fact_names}
use Rattle.cpe_rows.specs.Names.{is_same}
use Rattle.cpe_rows.specs.Rows.{Rows, has_id, no_rows}
use Rattle.cpe_rows.specs.declared.edit.Edit.{Edit}
use Rattle.cpe_rows.specs.declared.edit.Edit.TheVariants as edit
use Rattle.cpe_rows.specs.declared.statement.Mode.{Mode}
use Rattle.cpe_rows.specs.declared.statement.Mode.TheVariants.{Plain, Follow}
use Rattle.cpe_rows.specs.declared.statement.Statement.{Statement}
use Rattle.cpe_rows.specs.Touching.{deprecation_changed}
use Rattle.fact_laws.specs.Shown.{different, names_at, Shows}
use Rattle.fact_laws.proofs.Shown.{shows_none, shows_more, shows_fewer, shows_order, shows_same}
use Rattle.fact_laws.specs.Asked.{asked, statement_facts, names_of_facts, fresh_facts, is_referred, leads, same_mode, target_names}
use Rattle.fact_laws.proofs.Moves.{item_there, item_left, statement_asked, statement_asked_no_more, led_there, led_asked, plain_asked, plain_there}
use Rattle.fact_boards.specs.Lists.{Arrives, Asks, Departs, ProbesStay, TargetsStay, Unasks}
use Rattle.fact_boards.specs.Kept.{AreFactNames, board_of_mode, Boards, ends_of_led, KeepsBoardRoom, SameBoards, ShowRows, ShowsRows}

-- ---- one list of names that a board shows

probes_stay : (old new : Board) → ProbesStay old new → (names : Names) (list : List Values) → Shows names (probe_times old) list → Shows names (probe_times new) list
probes_stay old new stay names list s = shows_same names (probe_times old) (probe_times new) list stay.times s

targets_stay : (old new : Board) → TargetsStay old new → (names : Names) (list : List Values) → Shows names (target_times old) list → Shows names (target_times new) list
targets_stay old new stay names list s = shows_same names (target_times old) (target_times new) list (λ t. ap (λ (ts : List (ℕ × ℕ)). or_none (find_times ts t)) stay.targets) s

module _ (names : Names) (are : IsNameTable names) (old new : Board) (numbers : List NameId) (live : AreFactNames names numbers) (list other : List Values) where
  arrived : Arrives old new names numbers → SameElements (names_at names numbers ++ list) other → Shows names (target_times old) list → Shows names (target_times new) other
  arrived a same s = shows_order names (target_times new) (names_at names numbers ++ list) other same (shows_more names (target_times old) (target_times new) numbers list are live (λ t. omega (arith, a.times t)) s)

  left : Departs old new names numbers → SameElements list (names_at names numbers ++ other) → Shows names (target_times old) list → Shows names (target_times new) other
  left a same s = shows_fewer names (target_times old) (target_times new) numbers other are live (λ t. omega (arith, a.times t)) (shows_order names (target_times old) list (names_at names numbers ++ other) same s)

  now_asked : Asks old new names numbers → SameElements (names_at names numbers ++ list) other → Shows names (probe_times old) list → Shows names (probe_times new) other
  now_asked a same s = shows_order names (probe_times new) (names_at names numbers ++ list) other same (shows_more names (probe_times old) (probe_times new) numbers list are live (λ t. omega (arith, a.times t)) s)

  unasked : Unasks old new names numbers → SameElements list (names_at names numbers ++ other) → Shows names (probe_times old) list → Shows names (probe_times new) other
  unasked a same s = shows_fewer names (probe_times old) (probe_times new) numbers other are live (λ t. omega (arith, a.times t)) (shows_order names (probe_times old) list (names_at names numbers ++ other) same s)

-- ---- no rows, and unchanged boards

pub empty_asked : (board : Board) (names : Names) (mode : Mode) → IsEmptyBoard board → ShowsRows names board no_rows mode
empty_asked board names mode e = record {
  asked = shows_same names (λ id. 0) (probe_times board) [] (λ p. ap times_of (e.probes p)) (shows_none names);
  there = shows_same names (λ id. 0) (target_times board) [] e.targets (shows_none names);
}

pub itself : (board : Board) → SameBoard board board
itself board = record {
  probes = λ p. refl;
  targets = λ t. refl;
  probe_ids = refl;
  target_index = record { plain = refl; loose = refl; opens = refl; spare = omega arith; wide = omega arith };
  marks = refl;
  probe_room = omega arith;
  target_room = omega arith;
  wide = omega arith;
}

same_asked : (names : Names) (old new : Board) (rows : Rows) (mode : Mode) → SameBoard old new → ShowsRows names old rows mode → ShowsRows names new rows mode
same_asked names old new rows mode same s = record {
  asked = shows_same names (probe_times old) (probe_times new) (asked rows mode) (λ p. ap times_of (same.probes p)) s.asked;
  there = shows_same names (target_times old) (target_times new) (target_names rows mode) same.targets s.there;
}

pub same_boards : (names : Names) (old new : Boards) (rows : Rows) → SameBoards old new → ShowRows names old rows → ShowRows names new rows
same_boards names old new rows same s = record { plain = same_asked names old.plain new.plain rows Plain same.plain s.plain; follow = same_asked names old.follow new.follow rows Follow same.follow s.follow }

pub cleared_asked : (names : Names) (old new : Board) (rows : Rows) (mode : Mode) → Unmarks old new → ShowsRows names old rows mode → ShowsRows names new rows mode
cleared_asked names old new rows mode c s = record {
  asked = shows_same names (probe_times old) (probe_times new) (asked rows mode) (λ p. ap times_of (c.probes p) ∙ times_stay (probe_at old p)) s.asked;
  there = shows_same names (target_times old) (target_times new) (target_names rows mode) (λ t. ap (λ (ts : List (ℕ × ℕ)). or_none (find_times ts t)) c.targets) s.there;
}
  where
    times_stay : (o : Option Seen) → times_of (unmarked o) ≡ times_of o
    times_stay None = refl
    times_stay (Some s) = refl

-- ---- names that are added or removed, as targets or as probes

module _ (names : Names) (are : IsNameTable names) (old new : Board) (mode : Mode) (numbers : List NameId) (live : AreFactNames names numbers) (rows next : Rows) where
  pub arriving : Arrives old new names numbers → SameElements (names_at names numbers ++ target_names rows mode) (target_names next mode) → asked next mode ≡ asked rows mode → ShowsRows names old rows mode → ShowsRows names new next mode
  arriving a more same s = record {
    asked = subst (Shows names (probe_times new)) (sym same) (probes_stay old new a.stay names (asked rows mode) s.asked);
    there = arrived names are old new numbers live (target_names rows mode) (target_names next mode) a more s.there;
  }

  pub rest_goes : Departs old new names numbers → SameElements (target_names rows mode) (names_at names numbers ++ target_names next mode) → asked next mode ≡ asked rows mode → ShowsRows names old rows mode → ShowsRows names new next mode
  rest_goes a less same s = record {
    asked = subst (Shows names (probe_times new)) (sym same) (probes_stay old new a.stay names (asked rows mode) s.asked);
    there = left names are old new numbers live (target_names rows mode) (target_names next mode) a less s.there;
  }

  pub asks : Asks old new names numbers → SameElements (names_at names numbers ++ asked rows mode) (asked next mode) → target_names next mode ≡ target_names rows mode → ShowsRows names old rows mode → ShowsRows names new next mode
  asks a more same s = record {
    asked = now_asked names are old new numbers live (asked rows mode) (asked next mode) a more s.asked;
    there = subst (Shows names (target_times new)) (sym same) (targets_stay old new a.stay names (target_names rows mode) s.there);
  }

  pub unasks : Unasks old new names numbers → SameElements (asked rows mode) (names_at names numbers ++ asked next mode) → target_names next mode ≡ target_names rows mode → ShowsRows names old rows mode → ShowsRows names new next mode
  unasks a less same s = record {
    asked = unasked names are old new numbers live (asked rows mode) (asked next mode) a less s.asked;
    there = subst (Shows names (target_times new)) (sym same) (targets_stay old new a.stay names (target_names rows mode) s.there);
  }

-- a board also shows rows with the same names in another order
pub reordered : (names : Names) (board : Board) (mode : Mode) (rows next : Rows) → SameElements (asked rows mode) (asked next mode) → target_names next mode ≡ target_names rows mode → ShowsRows names board rows mode → ShowsRows names board next mode
reordered names board mode rows next same still s = record {
  asked = shows_order names (probe_times board) (asked rows mode) (asked next mode) same s.asked;
  there = subst (Shows names (target_times board)) (sym still) s.there;
}

-- the first part of a list is replaced by a list with the same elements
in_prefix : (new same list other : List Values) → SameElements new same → SameElements (same ++ list) other → SameElements (new ++ list) other
in_prefix new same list other e h f = omega (arith, e f, h f, sum_by-append f new list, sum_by-append f same list)

pub turned : (xs ys : List Values) → SameElements xs ys → SameElements ys xs
turned xs ys same f = sym (same f)

-- ---- items

pub item_more : (rows : Rows) (mode : Mode) (n : Values) (list : List Values) → list ≡ leads rows.entries mode n → SameElements (list ++ target_names rows mode) (target_names (after rows (edit.Item n)) mode)
item_more rows mode n list e = subst (λ (ns : List Values). SameElements (ns ++ target_names rows mode) (target_names (after rows (edit.Item n)) mode)) (sym e) (item_there rows mode n)

pub item_less : (rows : Rows) (mode : Mode) (n : Values) (list : List Values) → list_any (is_same n) rows.items ≡ true → list ≡ leads rows.entries mode n → SameElements (target_names rows mode) (list ++ target_names (after rows (edit.DropItem n)) mode)
item_less rows mode n list known e = subst (λ (ns : List Values). SameElements (target_names rows mode) (ns ++ target_names (after rows (edit.DropItem n)) mode)) (sym e) (item_left rows mode n known)

-- ---- statements

abbrev pub other_mode : Mode → Mode
other_mode Plain = Follow
other_mode Follow = Plain

no_facts : (mode : Mode) (others : List Statement) (s : Statement) → s.mode ≡ mode → fresh_facts (other_mode mode) others s ≡ []
no_facts mode others s e = ap (filter (λ fact. not (is_referred (other_mode mode) others fact))) (none mode e)
  where
    none : (mode : Mode) → s.mode ≡ mode → names_of_facts (other_mode mode) s ≡ []
    none Plain e = ap (λ (m : Mode). cond (same_mode Follow m) (different (fact_names s.test)) []) e
    none Follow e = ap (λ (m : Mode). cond (same_mode Plain m) (different (fact_names s.test)) []) e

pub statement_more : (rows : Rows) (mode : Mode) (s : Statement) (list : List Values) → SameElements list (flat_map (leads rows.entries mode) (fresh_facts mode rows.statements s))
    → SameElements (list ++ asked rows mode) (asked (after rows (edit.PutStatement s)) mode)
statement_more rows mode s list e = in_prefix list (flat_map (leads rows.entries mode) (fresh_facts mode rows.statements s)) (asked rows mode) (asked (after rows (edit.PutStatement s)) mode) e (statement_asked rows mode s)

pub statement_less : (rows : Rows) (mode : Mode) (id : List ℕ) (s : Statement) (list : List Values) → find (has_id id) rows.statements ≡ Some s
    → SameElements list (flat_map (leads rows.entries mode) (fresh_facts mode (after rows (edit.DropStatement id)).statements s)) → SameElements (asked rows mode) (list ++ asked (after rows (edit.DropStatement id)) mode)
statement_less rows mode id s list found e =
    let left_by : Rows = after rows (edit.DropStatement id) in
    let gone = flat_map (leads rows.entries mode) (fresh_facts mode left_by.statements s) in
    turned (list ++ asked left_by mode) (asked rows mode)
    (in_prefix list gone (asked left_by mode) (asked rows mode) e (turned (asked rows mode) (gone ++ asked left_by mode) (statement_asked_no_more rows mode id s found)))

-- a statement of one mode has no probes in the other mode
pub other_put : (rows : Rows) (mode : Mode) (s : Statement) → s.mode ≡ mode → SameElements (asked rows (other_mode mode)) (asked (after rows (edit.PutStatement s)) (other_mode mode))
other_put rows mode s own = statement_more rows (other_mode mode) s [] (λ f. sym (ap (λ (fs : List Values). sum_by f (flat_map (leads rows.entries (other_mode mode)) fs)) (no_facts mode rows.statements s own)))

pub other_dropped : (rows : Rows) (mode : Mode) (id : List ℕ) (s : Statement) → s.mode ≡ mode → find (has_id id) rows.statements ≡ Some s → SameElements (asked rows (other_mode mode)) (asked (after rows (edit.DropStatement id)) (other_mode mode))
other_dropped rows mode id s own found =
    let rest = (after rows (edit.DropStatement id)).statements in
    statement_less rows (other_mode mode) id s [] found (λ f. sym (ap (λ (fs : List Values). sum_by f (flat_map (leads rows.entries (other_mode mode)) fs)) (no_facts mode rest s own)))

-- ---- deprecations

-- some names are added first, and other names are removed then
moved : (from to from_names to_names list other : List Values) → SameElements from from_names → SameElements to to_names → SameElements (to_names ++ list) (from_names ++ other) → SameElements (to ++ list) (from ++ other)
moved from to from_names to_names list other f t same h = omega (arith, f h, t h, same h, sum_by-append h to list, sum_by-append h to_names list, sum_by-append h from other, sum_by-append h from_names other)

-- targets are added, then other targets removed, then probes added, then other probes removed
pub led : (names : Names) → IsNameTable names → (old may_come_in gone asks new : Board) (items_from items_to facts_from facts_to : List NameId) (rows next : Rows)
    → AreFactNames names items_from → AreFactNames names items_to → AreFactNames names facts_from → AreFactNames names facts_to
    → Arrives old may_come_in names items_to → Departs may_come_in gone names items_from → Asks gone asks names facts_to → Unasks asks new names facts_from
    → SameElements (names_at names items_to ++ target_names rows Follow) (names_at names items_from ++ target_names next Follow)
    → SameElements (names_at names facts_to ++ asked rows Follow) (names_at names facts_from ++ asked next Follow)
    → ShowsRows names old rows Follow → ShowsRows names new next Follow
led names are old may_come_in gone asks new items_from items_to facts_from facts_to rows next live_from live_to live_facts_from live_facts_to a l q u items_move facts_move s = record {
  asked = unasked names are asks new facts_from live_facts_from facts_more (asked next Follow) u facts_move
      (now_asked names are gone asks facts_to live_facts_to (asked rows Follow) facts_more q (λ f. refl) (probes_stay may_come_in gone l.stay names (asked rows Follow) (probes_stay old may_come_in a.stay names (asked rows Follow) s.asked)));
  there = targets_stay asks new u.stay names (target_names next Follow) (targets_stay gone asks q.stay names (target_names next Follow)
      (left names are may_come_in gone items_from live_from items_more (target_names next Follow) l items_move
      (arrived names are old may_come_in items_to live_to (target_names rows Follow) items_more a (λ f. refl) s.there)));
}
  where
    items_more : List Values
    items_more = names_at names items_to ++ target_names rows Follow

    facts_more : List Values
    facts_more = names_at names facts_to ++ asked rows Follow

module _ (rows : Rows) (e : Edit) (n : Values) (h : deprecation_changed e ≡ Some n) (from to : List Values) where
  pub items_lead : SameElements from (ends_of_led rows.entries rows.entries n rows.items) → SameElements to (ends_of_led rows.entries (after rows e).entries n rows.items) → SameElements (to ++ target_names rows Follow) (from ++ target_names (after rows e) Follow)
  items_lead f t = moved from to (ends_of_led rows.entries rows.entries n rows.items) (ends_of_led rows.entries (after rows e).entries n rows.items) (target_names rows Follow) (target_names (after rows e) Follow) f t (led_there rows e n h Follow)

  pub facts_lead : SameElements from (ends_of_led rows.entries rows.entries n (statement_facts Follow rows.statements)) → SameElements to (ends_of_led rows.entries (after rows e).entries n (statement_facts Follow rows.statements))
      → SameElements (to ++ asked rows Follow) (from ++ asked (after rows e) Follow)
  facts_lead f t = moved from to (ends_of_led rows.entries rows.entries n (statement_facts Follow rows.statements)) (ends_of_led rows.entries (after rows e).entries n (statement_facts Follow rows.statements)) (asked rows Follow) (asked (after rows e) Follow) f t (led_asked rows e n h Follow)

pub plain_stays : (names : Names) (board : Board) (rows : Rows) (e : Edit) (n : Values) → deprecation_changed e ≡ Some n → ShowsRows names board rows Plain → ShowsRows names board (after rows e) Plain
plain_stays names board rows e n h s = record {
  asked = subst (Shows names (probe_times board)) (sym (plain_asked rows e n h)) s.asked;
  there = subst (Shows names (target_times board)) (sym (plain_there rows e n h)) s.there;
}

-- ---- levels

pub levels_stay : (board : Board) → KeepsLevels board board
levels_stay board = levels_same board board (λ p. refl)

pub led_levels : (old may_come_in gone asks new : Board) (names : Names) (facts_from facts_to : List NameId) → ProbesStay old may_come_in → ProbesStay may_come_in gone → Asks gone asks names facts_to → Unasks asks new names facts_from → KeepsLevels old new
led_levels old may_come_in gone asks new names facts_from facts_to a l q u =
    levels_then old asks new (λ p some more. omega (arith, more, u.times p))
    (levels_then old gone asks (λ p some more. omega (arith, some, a.times p, l.times p)) (levels_then old may_come_in gone (λ p some more. omega (arith, some, a.times p)) a.levels l.levels) q.levels) u.levels

-- ---- marks

-- in an empty list of marks, each mark is a marked probe
pub settled_marked : (board : Board) → board.marks ≡ [] → MarksAreProbes board
settled_marked board e p has = absurd (false≢true (ap (λ (ms : List NameId). has_number ms p) (sym e) ∙ has))

-- ---- room

pub arrived_room : (old new : Board) (names : Names) (numbers : List NameId) → Arrives old new names numbers → KeepsBoardRoom old new 0 (length numbers)
arrived_room old new names numbers a = record { probe_room = omega (arith, a.stay.probe_room); target_room = omega (arith, a.room); wide = a.stay.wide }

pub left_room : (old new : Board) (names : Names) (numbers : List NameId) → Departs old new names numbers → KeepsBoardRoom old new 0 0
left_room old new names numbers a = record { probe_room = omega (arith, a.stay.probe_room); target_room = omega (arith, a.room); wide = a.stay.wide }

pub asked_room : (old new : Board) (names : Names) (numbers : List NameId) → Asks old new names numbers → KeepsBoardRoom old new (length numbers) 0
asked_room old new names numbers a = record { probe_room = omega (arith, a.room); target_room = omega (arith, a.stay.target_room); wide = a.stay.wide }

pub unasked_room : (old new : Board) (names : Names) (numbers : List NameId) → Unasks old new names numbers → KeepsBoardRoom old new 0 0
unasked_room old new names numbers a = record { probe_room = omega (arith, a.room); target_room = omega (arith, a.stay.target_room); wide = a.stay.wide }

pub led_room : (old may_come_in gone asks new : Board) (asked target_names : ℕ) → KeepsBoardRoom old may_come_in 0 target_names → KeepsBoardRoom may_come_in gone 0 0 → KeepsBoardRoom gone asks asked 0 → KeepsBoardRoom asks new 0 0 → KeepsBoardRoom old new asked target_names
led_room old may_come_in gone asks new asked target_names a l q u = record {
  probe_room = omega (arith, a.probe_room, l.probe_room, q.probe_room, u.probe_room);
  target_room = omega (arith, a.target_room, l.target_room, q.target_room, u.target_room);
  wide = u.wide ∙ q.wide ∙ l.wide ∙ a.wide;
}

pub cleared_room : (old new : Board) → Unmarks old new → KeepsBoardRoom old new 0 0
cleared_room old new c = record { probe_room = omega (arith, c.probe_room); target_room = omega (arith, c.target_room); wide = c.wide }

-- ---- both boards

pub each_mode : (P : Board → Type 0) (b : Boards) → P b.plain → P b.follow → (mode : Mode) → P (board_of_mode b mode)
each_mode P b p f Plain = p
each_mode P b p f Follow = f

-- if the board of one mode changes, the board of the other mode is unchanged
pub other_follow : (old new : Boards) (mode : Mode) → mode ≡ Plain → new.follow ≡ old.follow → (m : Mode) → m ≢ mode → board_of_mode new m ≡ board_of_mode old m
other_follow old new mode is same Plain ne = absurd (ne (sym is))
other_follow old new mode is same Follow ne = same

pub other_plain : (old new : Boards) (mode : Mode) → mode ≡ Follow → new.plain ≡ old.plain → (m : Mode) → m ≢ mode → board_of_mode new m ≡ board_of_mode old m
other_plain old new mode is same Plain ne = same
other_plain old new mode is same Follow ne = absurd (ne (sym is))
