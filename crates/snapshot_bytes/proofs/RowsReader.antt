-- Lemmas: the reader of all rows.
use Rattle.std.proofs.Common.{nat_le, ◌&&◌, ◌≤◌, arith, ◌≡◌, inl, inr, refl, sym, ◌∙◌, ap, subst, ℕ, zero, suc, Bool, true, false, cond, eqb, List, [], ◌++◌, length, slice_get, Option, Some, None, Result, Ok, Err}
use Rattle.std.specs.List.{AllByRecursion, flat_map}
use Rattle.std.specs.Str.{bytes_eq}
use Rattle.std.proofs.lemmas.Bool.{eqb-true, leb-true}
use Rattle.std.proofs.lemmas.Slice.Eq.{bytes_eq-Decides}
use Rattle.std.proofs.lemmas.List.{append-nil, nil_from_length}
use Rattle.cpe_rows.specs.cpe_name.Eleven.{Values}
use Rattle.cpe_rows.specs.declared.limits.TheConstants.{MOST_LEVELS, MOST_ENTRIES, MOST_ITEMS, MOST_STATEMENTS, MOST_CHECKS}
use Rattle.cpe_rows.specs.declared.statement.Statement.{Statement}
use Rattle.cpe_rows.specs.declared.statement.Mode.{Mode}
use Rattle.cpe_rows.specs.declared.statement.Mode.TheVariants.{Plain, Follow}
use Rattle.cpe_rows.specs.declared.test.Test.{Test}
use Rattle.snapshot_bytes.specs.declared.fault.LoadFault.{LoadFault}
use Rattle.snapshot_bytes.specs.declared.fault.LoadFault.TheVariants as load
use Rattle.snapshot_bytes.specs.declared.load.Head.{Head}
use Rattle.snapshot_bytes.specs.declared.rows.KeptResult.{KeptResult}
use Rattle.snapshot_bytes.specs.declared.rows.PlacedEntry.{PlacedEntry}
use Rattle.snapshot_bytes.specs.declared.rows.PlacedRows.{PlacedRows}
use Rattle.snapshot_bytes.specs.Parts.{number, name}
use Rattle.snapshot_bytes.specs.Snapshot.{mode_byte, entry_row, statement_row, result_row, mark, snapshot_of}
use Rattle.snapshot_bytes.specs.StoredRows.{IsNumber, IsSpelled, IsStoredEntry, IsStoredStatement, IsStoredResult, AreStored, Spells, Reads, SnapshotsAreClear, SnapshotsAreRead}
use Rattle.snapshot_bytes.specs.Reading.{◌>>=◌, IsReadAs, read_as, bytes_at, name_at, modes, entry_at, statement_from, statement_at, result_at, nothing_if, mark_at, is_few, read_when, head_from, numbers_at, head_at, rows_from, rows_at, read_whole, rows_of}
use Rattle.snapshot_bytes.proofs.Readers.{IsBytes, IsReader, bind_some, some_is, both_read, made_read, stored_read, many_read}
use Rattle.snapshot_bytes.proofs.PartReaders.{when_some, when_true, IsAny, IsLong, plain, bytes_read, number_read, text_read, name_read}
use Rattle.snapshot_bytes.proofs.RowReaders.{refit, tag_read, entry_read, result_read}
use Rattle.snapshot_bytes.proofs.TestReaders.{test_read}

-- ---- truths

and_first : (a b : Bool) → a && b ≡ true → a ≡ true
and_first true b e = refl
and_first false b e = absurd cc

and_second : (a b : Bool) → a && b ≡ true → b ≡ true
and_second true b e = e
and_second false b e = absurd cc

all_true : (a b c d : Bool) → a ≡ true → b ≡ true → c ≡ true → d ≡ true → a && (b && (c && d)) ≡ true
all_true a b c d p q r t = ap (λ x. x && (b && (c && d))) p ∙ (ap (λ x. x && (c && d)) q ∙ (ap (λ x. x && d) r ∙ t))

-- ---- statements

mode_again : (k : Mode) → slice_get modes (mode_byte k) ≡ Some k
mode_again Plain = refl
mode_again Follow = refl

abbrev statement_seen : Statement → List ℕ × (List ℕ × (Mode × Test))
statement_seen s = (s.id, (s.title, (s.mode, s.test)))

statement_read : IsReader IsStoredStatement statement_row statement_at
unfolding statement_at
statement_read =
    refit (made_read _ _ _ (both_read _ _ _ _ _ _ text_read (both_read _ _ _ _ _ _ text_read
    (both_read _ _ _ _ _ _ (tag_read modes mode_byte (refl, (refl, tt)) mode_again) (test_read MOST_LEVELS)))) statement_from statement_seen (λ x. refl) (λ y. refl))
    (λ s fits. record { id = fits.0; title = fits.1.0; test = fits.1.1.1 })
    (λ s fits. (fits.id, (fits.title, (tt, fits.test))))

-- ---- the head

same_bytes : (s t : List ℕ) → bytes_eq s t ≡ true → s ≡ t
same_bytes s t e = (bytes_eq-Decides s t).0 e

nothing_some : (b : Bool) (u : Unit {0}) → nothing_if b ≡ Some u → b ≡ true
nothing_some true u e = refl
nothing_some false u e = absurd cc

abbrev mark_of : Unit {0} → List ℕ
mark_of u = mark

mark_read : IsReader IsAny mark_of mark_at
unfolding mark_at
mark_read =
    refit (stored_read (IsLong 8) plain (bytes_at 8) (bytes_read 8) (λ s. nothing_if (bytes_eq s mark)) mark_of IsAny
    (λ s u fits e. (sym (same_bytes s mark (nothing_some (bytes_eq s mark) u e)), tt)) (λ u any. refl))
    (λ u fits. tt) (λ u fits. (refl, tt))

abbrev head_seen : Head → Unit {0} × (ℕ × (ℕ × (ℕ × ℕ)))
head_seen h = (tt, (h.entries, (h.items, (h.statements, h.results))))

abbrev FitHead : Head → Type 0
FitHead h = Unit {0} × (IsNumber h.entries × (IsNumber h.items × (IsNumber h.statements × IsNumber h.results)))

abbrev spell_head : Head → List ℕ
spell_head h = mark ++ (number h.entries ++ (number h.items ++ (number h.statements ++ number h.results)))

numbers_read : IsReader FitHead spell_head numbers_at
unfolding numbers_at
numbers_read =
    made_read _ _ _ (both_read _ _ _ _ _ _ mark_read (both_read _ _ _ _ _ _ number_read (both_read _ _ _ _ _ _ number_read (both_read _ _ _ _ _ _ number_read number_read))))
    head_from head_seen (λ x. refl) (λ y. refl)

abbrev IsFew : Head → Type 0
IsFew h = is_few h ≡ true

abbrev same_head : Head → Head
same_head h = h

head_read : IsReader (λ h. FitHead h × IsFew h) spell_head head_at
unfolding head_at
head_read =
    stored_read FitHead spell_head numbers_at numbers_read (read_when is_few) same_head IsFew
    (λ x y fits e. let w = when_some is_few x y e in (sym w.0, w.1)) (λ y few. when_true is_few y few)

-- ---- as many rows of each kind as the head says

abbrev rows_seen : PlacedRows → List PlacedEntry × (List Values × (List Statement × List KeptResult))
rows_seen rows = (rows.entries, (rows.items, (rows.statements, rows.results)))

abbrev spell_rows : PlacedRows → List ℕ
spell_rows rows = flat_map entry_row rows.entries ++ (flat_map name rows.items ++ (flat_map statement_row rows.statements ++ flat_map result_row rows.results))

abbrev FitRows : Head → PlacedRows → Type 0
FitRows h rows =
    ((length rows.entries ≡ h.entries) × AllByRecursion IsStoredEntry rows.entries)
    × (((length rows.items ≡ h.items) × AllByRecursion IsSpelled rows.items)
    × (((length rows.statements ≡ h.statements) × AllByRecursion IsStoredStatement rows.statements)
    × ((length rows.results ≡ h.results) × AllByRecursion IsStoredResult rows.results)))

rows_read : (h : Head) → IsReader (FitRows h) spell_rows (rows_at h)
unfolding rows_at
rows_read h =
    made_read _ _ _ (both_read _ _ _ _ _ _ (many_read IsStoredEntry entry_row entry_at entry_read h.entries)
    (both_read _ _ _ _ _ _ (many_read IsSpelled name name_at name_read h.items)
    (both_read _ _ _ _ _ _ (many_read IsStoredStatement statement_row statement_at statement_read h.statements)
    (many_read IsStoredResult result_row result_at result_read h.results))))
    rows_from rows_seen (λ x. refl) (λ y. refl)

-- ---- a whole snapshot

abbrev head_of : PlacedRows → Head
head_of rows = record { entries = length rows.entries; items = length rows.items; statements = length rows.statements; results = length rows.results }

heads_are : (h : Head) (rows : PlacedRows) → FitRows h rows → head_of rows ≡ h
heads_are h rows fits = λ i. record { entries = fits.0.0 i; items = fits.1.0.0 i; statements = fits.1.1.0.0 i; results = fits.1.1.1.0 i }

whole_some : {A : Type 0} (x : A × List ℕ) (y : A) → read_whole x ≡ Some y → (x.0 ≡ y) × (x.1 ≡ [])
whole_some x y e = go (eqb (length x.1) 0) refl e where
  go : (b : Bool) → eqb (length x.1) 0 ≡ b → cond b (Some x.0) None ≡ Some y → (x.0 ≡ y) × (x.1 ≡ [])
  go true is e = (some_is x.0 y e, nil_from_length x.1 (eqb-true (length x.1) 0 is))
  go false is e = absurd cc

stored_by : (h : Head) (rows : PlacedRows) → IsFew h → FitRows h rows → AreStored rows
stored_by h rows few fits =
    let all : is_few (head_of rows) ≡ true = ap is_few (heads_are h rows fits) ∙ few in
    let items = and_second (nat_le (length rows.entries) MOST_ENTRIES) _ all in
    let statements = and_second (nat_le (length rows.items) MOST_ITEMS) _ items in
    record {
      entries = (and_first (nat_le (length rows.entries) MOST_ENTRIES) _ all, fits.0.1);
      items = (and_first (nat_le (length rows.items) MOST_ITEMS) _ items, fits.1.0.1);
      statements = (and_first (nat_le (length rows.statements) MOST_STATEMENTS) _ statements, fits.1.1.0.1);
      results = (and_second (nat_le (length rows.statements) MOST_STATEMENTS) _ statements, fits.1.1.1.1);
    }

few_by : (rows : PlacedRows) → AreStored rows → IsFew (head_of rows)
few_by rows are = all_true _ _ _ _ are.entries.0 are.items.0 are.statements.0 are.results.0

number_by : (n most : ℕ) → most ≤ 2000000 → nat_le n most ≡ true → IsNumber n
number_by n most small below = omega (arith, small, leb-true n most below)

fit_by : (rows : PlacedRows) → AreStored rows → FitHead (head_of rows)
fit_by rows are = (
  tt,
  (
    number_by _ MOST_ENTRIES (omega arith) are.entries.0,
    (
      number_by _ MOST_ITEMS (omega arith) are.items.0,
      (number_by _ MOST_STATEMENTS (omega arith) are.statements.0, number_by _ MOST_CHECKS (omega arith) are.results.0),
    ),
  ),
)

pub rows_spelled : (bytes : List ℕ) (rows : PlacedRows) → IsBytes bytes → rows_of bytes ≡ Some rows → Spells rows bytes
unfolding rows_of
rows_spelled bytes rows are e =
    let a = bind_some (head_at bytes) (λ h. rows_at h.0 h.1 >>= λ x. read_whole x) rows e in
    let b = bind_some (rows_at a.0.0 a.0.1) (λ x. read_whole x) rows a.2 in
    let w = whole_some b.0 rows b.2 in
    let h = head_read.takes bytes a.0.0 a.0.1 are a.1 in
    let r = (rows_read a.0.0).takes a.0.1 b.0.0 b.0.1 h.are_bytes b.1 in
    let spelled : bytes ≡ snapshot_of b.0.0 =
    h.parts ∙ ap (λ (t : List ℕ). spell_head a.0.0 ++ t) (r.parts ∙ ap (λ (t : List ℕ). spell_rows b.0.0 ++ t) w.1 ∙ append-nil (spell_rows b.0.0))
    ∙ ap (λ k. spell_head k ++ spell_rows b.0.0) (sym (heads_are a.0.0 b.0.0 r.fits)) in
    subst (λ q. Spells q bytes) w.0 (stored_by a.0.0 b.0.0 h.fits.1 r.fits, spelled)

pub spelled_again : (rows : PlacedRows) → AreStored rows → rows_of (snapshot_of rows) ≡ Some rows
unfolding rows_of
spelled_again rows are =
    let h = head_read.again (head_of rows) (spell_rows rows) (fit_by rows are, few_by rows are) in
    let r : rows_at (head_of rows) (spell_rows rows) ≡ Some (rows, []) =
    ap (rows_at (head_of rows)) (sym (append-nil (spell_rows rows)))
    ∙ (rows_read (head_of rows)).again rows [] ((refl, are.entries.1), ((refl, are.items.1), ((refl, are.statements.1), (refl, are.results.1)))) in
    rw h (rw r refl)

pub spelled_are_read : (rows : PlacedRows) (bytes : List ℕ) → Spells rows bytes → rows_of bytes ≡ Some rows
spelled_are_read rows bytes spells = ap rows_of spells.1 ∙ spelled_again rows spells.0

-- ---- the laws of snapshots

pub clear : SnapshotsAreClear
clear rows others bytes one two = some_is rows others (sym (spelled_are_read rows bytes one) ∙ spelled_are_read others bytes two)

pub reads : (bytes : List ℕ) (result : Result PlacedRows LoadFault) → IsBytes bytes → IsReadAs result (rows_of bytes) → Reads bytes result
reads bytes (Ok rows) are said = rows_spelled bytes rows are said
reads bytes (Err load.NotSnapshot) are said = λ rows spells. none_is rows (sym said ∙ spelled_are_read rows bytes spells) where
  none_is : (x : PlacedRows) → ◌≡◌ {A = Option PlacedRows} None (Some x) → ⊥
  none_is x e = cc
reads bytes (Err load.Memory) are said = tt

pub read_again : SnapshotsAreRead
read_again rows (Ok found) read_as said = inl (ap (λ (r : PlacedRows). Ok r) (clear found rows (snapshot_of rows) said (read_as, refl)))
read_again rows (Err load.NotSnapshot) read_as said = absurd (said rows (read_as, refl))
read_again rows (Err load.Memory) read_as said = inr refl
