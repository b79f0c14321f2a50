-- Lemmas: a snapshot has at most 24 bytes more than the weight of its rows.
use Rattle.std.proofs.Common.{◌≡◌, sym, ◌∙◌, ap, subst, ℕ, zero, suc, ◌+◌, ◌≤◌, List, [], ◌∷◌, ◌++◌, length, map, Option, Some, None, arith}
use Rattle.std.specs.List.{AllByRecursion, flat_map}
use Rattle.std.specs.Option.{option_map, option_map_or}
use Rattle.std.proofs.lemmas.List.{length-append}
use Rattle.std.proofs.lemmas.List.Folds.{flat_map-map}
use Rattle.cpe_rows.specs.cpe_name.Eleven.{Values}
use Rattle.cpe_rows.specs.Weight.{total_weight, name_weight, note_weight, deprecation_weight, entry_weight, key_weight, test_weight, test_weight_step, statement_weight, check_weight}
use Rattle.cpe_rows.specs.declared.entry.Deprecation.{Deprecation}
use Rattle.cpe_rows.specs.declared.entry.Entry.{Entry}
use Rattle.cpe_rows.specs.declared.entry.Note.{Note}
use Rattle.cpe_rows.specs.declared.statement.Statement.{Statement}
use Rattle.cpe_rows.specs.declared.test.CheckKey.{CheckKey}
use Rattle.cpe_rows.specs.declared.test.Test.{Test, out-Test}
use Rattle.cpe_rows.specs.declared.test.Test.TheOpen.{Test-F}
use Rattle.cpe_rows.specs.declared.test.Test.TheViews.{roll-Test, roll-out-Test}
use Rattle.cpe_rows.specs.declared.test.Test.TheVariants.{rolls-Logic, rolls-Fact, rolls-Check}
use Rattle.cpe_rows.specs.declared.test.Test.TheFolds.{fold-roll-Test}
use Rattle.cpe_rows.specs.declared.truth.Truth.{Truth}
use Rattle.snapshot_bytes.specs.Parts.{number, text, name, list}
use Rattle.snapshot_bytes.specs.Snapshot.{note_row, deprecation_part, entry_row, key_part, test_part, statement_row, result_row, head, mode_byte, truth_byte}
use Rattle.snapshot_bytes.specs.StoredRows.{IsCountedList, IsStoredStep, IsStoredTest, IsStoredStatement}
use Rattle.snapshot_bytes.specs.States.{entry_place_in, placed_deprecation, placed_entry, placed_rows, result_of, SnapshotsAreShort, SnapshotsAreWithin}
use Rattle.snapshot_bytes.proofs.TestReaders.{part_logic, part_fact, part_check}
use Rattle.snapshot_bytes.proofs.StoredTextLemmas.{within, weight_logic, lawful_are_stored}

text_long : (s : List ℕ) → length (text s) ≡ 4 + length s
text_long s = omega arith

-- if each row has at most as many bytes as its weight, this is so of all rows together
short_rows : {A : Type 0} (spell : A → List ℕ) (w : A → ℕ) (xs : List A) → AllByRecursion (λ x. length (spell x) ≤ w x) xs → length (flat_map spell xs) ≤ total_weight (map w xs)
short_rows spell w [] each = omega arith
short_rows spell w (x ∷ xs) each = omega (arith, each.0, short_rows spell w xs each.1, length-append (spell x) (flat_map spell xs))

all_of : {A : Type 0} (P : A → Type 0) → ((x : A) → P x) → (xs : List A) → AllByRecursion P xs
all_of P h [] = tt
all_of P h (x ∷ xs) = (h x, all_of P h xs)

name_short : (n : Values) → length (name n) ≤ name_weight n
name_short n = omega arith

note_short : (n : Note) → length (note_row n) ≤ note_weight n
note_short n = omega (arith, length-append n.date (text n.comment), text_long n.comment)

place_short : (all : List Entry) (n : Values) → length (number (entry_place_in all n)) ≤ name_weight n
place_short all n = omega arith

deprecation_short : (all : List Entry) (d : Option Deprecation) → length (deprecation_part (option_map (placed_deprecation all) d)) ≤ 5 + option_map_or deprecation_weight d 0
deprecation_short all None = omega arith
deprecation_short all (Some d) =
    let places = short_rows (λ n. number (entry_place_in all n)) name_weight d.successors (all_of (λ n. length (number (entry_place_in all n)) ≤ name_weight n) (place_short all) d.successors) in
    omega (arith, places, ap length (flat_map-map number (entry_place_in all) d.successors))

entry_short : (all : List Entry) (e : Entry) → length (entry_row (placed_entry all e)) ≤ entry_weight e
entry_short all e =
    let p = e.provenance in
    let d = deprecation_part (option_map (placed_deprecation all) e.deprecation) in
    let notes = list note_row p.notes in
    let many = short_rows note_row note_weight p.notes (all_of (λ n. length (note_row n) ≤ note_weight n) note_short p.notes) in
    omega (
      arith,
      deprecation_short all e.deprecation,
      many,
      length-append (flat_map note_row p.notes) d,
      length-append p.authority (notes ++ d),
      length-append p.submitter (text p.authority ++ (notes ++ d)),
      length-append e.title (text p.submitter ++ (text p.authority ++ (notes ++ d))),
      length-append (name e.name) (text e.title ++ (text p.submitter ++ (text p.authority ++ (notes ++ d)))),
      text_long e.title,
    )

key_short : (k : CheckKey) → length (key_part k) + 20 ≤ key_weight k
key_short k = omega (arith, length-append k.system (text k.href ++ text k.id), length-append k.href (text k.id), text_long k.id)

-- ---- tests

each_short : (levels : ℕ) → ((t : Test) → IsStoredTest levels t → length (test_part t) ≤ test_weight t) → (of : List Test) → AllByRecursion (IsStoredTest levels) of
    → AllByRecursion (λ t. length (test_part t) ≤ test_weight t) of
each_short levels short [] stored = tt
each_short levels short (t ∷ of) stored = (short t stored.0, each_short levels short of stored.1)

step_short : (AreChildren : List Test → Type 0) (t : Test) → ((of : List Test) → AreChildren of → AllByRecursion (λ c. length (test_part c) ≤ test_weight c) of)
    → IsStoredStep AreChildren (out-Test t) → length (test_part t) ≤ test_weight t
step_short AreChildren t children stored = go (out-Test t) (roll-out-Test t) stored where
  go : (y : Test-F Test) → roll-Test y ≡ t → IsStoredStep AreChildren y → length (test_part t) ≤ test_weight t
  go (Test-F.Logic operator negate of) is fits =
      subst (λ u. length (test_part u) ≤ test_weight u) (sym (rolls-Logic operator negate of) ∙ is)
      (omega (arith, ap length (part_logic (operator, (negate, of))), weight_logic operator negate of, short_rows test_part test_weight of (children of fits)))
  go (Test-F.Fact n) is fits =
      subst (λ u. length (test_part u) ≤ test_weight u) is
      (omega (arith, ap (λ u. length (test_part u)) (rolls-Fact n), ap length (part_fact n), fold-roll-Test ℕ test_weight_step (Test-F.Fact n)))
  go (Test-F.Check k) is fits =
      subst (λ u. length (test_part u) ≤ test_weight u) is
      (omega (arith, ap (λ u. length (test_part u)) (rolls-Check k), ap length (part_check k), fold-roll-Test ℕ test_weight_step (Test-F.Check k), key_short k))

test_short : (levels : ℕ) (t : Test) → IsStoredTest levels t → length (test_part t) ≤ test_weight t
test_short zero t stored = step_short (λ of. ⊥) t (λ of none. absurd none) stored
test_short (suc levels) t stored = step_short (IsCountedList (IsStoredTest levels)) t (λ of counted. each_short levels (test_short levels) of counted.1) stored

statement_short : (s : Statement) → IsStoredStatement s → length (statement_row s) ≤ statement_weight s
statement_short s stored =
    omega (arith, test_short 32 s.test stored.test, length-append s.id (text s.title ++ (mode_byte s.mode ∷ test_part s.test)), length-append s.title (mode_byte s.mode ∷ test_part s.test))

statements_short : (ss : List Statement) → AllByRecursion IsStoredStatement ss → AllByRecursion (λ s. length (statement_row s) ≤ statement_weight s) ss
statements_short [] stored = tt
statements_short (s ∷ ss) stored = (statement_short s stored.0, statements_short ss stored.1)

result_short : (c : CheckKey × Truth) → length (result_row (result_of c)) ≤ check_weight c
result_short c = omega (arith, key_short c.0, length-append (key_part c.0) (truth_byte c.1 ∷ []))

-- ---- all rows

pub snapshots_are_short : SnapshotsAreShort
snapshots_are_short rows lawful texts =
    let stored = lawful_are_stored rows lawful texts in
    let es = short_rows (λ e. entry_row (placed_entry rows.entries e)) entry_weight rows.entries (all_of (λ e. length (entry_row (placed_entry rows.entries e)) ≤ entry_weight e) (entry_short rows.entries) rows.entries) in
    let ns = short_rows name name_weight rows.items (all_of (λ n. length (name n) ≤ name_weight n) name_short rows.items) in
    let ss = short_rows statement_row statement_weight rows.statements (statements_short rows.statements stored.statements.1) in
    let cs = short_rows (λ c. result_row (result_of c)) check_weight rows.checks (all_of (λ c. length (result_row (result_of c)) ≤ check_weight c) result_short rows.checks) in
    let entries : List ℕ = flat_map entry_row (map (placed_entry rows.entries) rows.entries) in
    let items : List ℕ = flat_map name rows.items in
    let statements : List ℕ = flat_map statement_row rows.statements in
    let results : List ℕ = flat_map result_row (map result_of rows.checks) in
    omega (
      arith,
      es,
      ns,
      ss,
      cs,
      ap length (flat_map-map entry_row (placed_entry rows.entries) rows.entries),
      ap length (flat_map-map result_row result_of rows.checks),
      length-append statements results,
      length-append items (statements ++ results),
      length-append entries (items ++ (statements ++ results)),
      length-append (head (placed_rows rows)) (entries ++ (items ++ (statements ++ results))),
    )

pub snapshots_are_within : SnapshotsAreWithin
snapshots_are_within rows lawful texts = omega (arith, snapshots_are_short rows lawful texts, within rows lawful.within)
