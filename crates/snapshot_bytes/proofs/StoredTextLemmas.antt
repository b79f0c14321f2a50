-- Lemmas: a lawful state whose texts are UTF-8 has a snapshot. Its parts are short enough, since their weight is at
-- least their length.
use Rattle.std.proofs.Common.{◌≡◌, refl, sym, ◌∙◌, ap, subst, ℕ, zero, suc, ◌+◌, ◌≤◌, ◌&&◌, Bool, true, false, nat_le, nat_lt, not, List, [], ◌∷◌, ◌++◌, length, map, Option, Some, None, if◌then◌else◌, arith}
use Rattle.std.specs.List.{AllByRecursion, flat_map, list_all}
use Rattle.std.specs.Option.{option_map, option_map_or}
use Rattle.std.proofs.lemmas.List.{length-map}
use Rattle.std.proofs.lemmas.List.Elements.{recursion_from_All}
use Rattle.std.proofs.lemmas.List.Folds.{flat_map-map}
use Rattle.std.proofs.lemmas.Bool.{le-leb}
use Rattle.std.proofs.lemmas.Bool.Decides.{nat_tests}
use Rattle.cpe_rows.specs.cpe_name.Eleven.{Values}
use Rattle.cpe_rows.specs.cpe_name.Names.{IsName}
use Rattle.cpe_rows.specs.Names.{is_lower, is_identifier, has_wildcards}
use Rattle.cpe_rows.specs.FactNames.{fact_names, fact_names_step}
use Rattle.cpe_rows.specs.Formed.{IsDated, IsFormedEntry, IsFormedStatement}
use Rattle.cpe_rows.specs.Lawful.{IsLawful, is_entry_name, is_lawful_statement}
use Rattle.cpe_rows.specs.Limits.{AreWithin}
use Rattle.cpe_rows.specs.Rows.{Rows, is_named}
use Rattle.cpe_rows.specs.Shape.{largest, depth_of, is_sound, sound_step}
use Rattle.cpe_rows.specs.Valid.{is_id, is_statement_test, is_logic}
use Rattle.cpe_rows.specs.Weight.{total_weight, weight, name_weight, note_weight, deprecation_weight, entry_weight, key_weight, test_weight, test_weight_step, statement_weight, check_weight}
use Rattle.cpe_rows.specs.declared.fault.Which.TheVariants as limit
use Rattle.cpe_rows.specs.declared.entry.Deprecation.{Deprecation}
use Rattle.cpe_rows.specs.declared.entry.Entry.{Entry}
use Rattle.cpe_rows.specs.declared.entry.Note.{Note}
use Rattle.cpe_rows.specs.declared.statement.Statement.{Statement}
use Rattle.cpe_rows.specs.declared.test.CheckKey.{CheckKey}
use Rattle.cpe_rows.specs.declared.test.Operator.{Operator}
use Rattle.cpe_rows.specs.declared.test.Test.{Test, Logic, out-Test}
use Rattle.cpe_rows.specs.declared.test.Test.TheOpen.{Test-F}
use Rattle.cpe_rows.specs.declared.test.Test.TheViews.{roll-Test, roll-out-Test}
use Rattle.cpe_rows.specs.declared.test.Test.TheVariants.{rolls-Logic}
use Rattle.cpe_rows.specs.declared.test.Test.TheFolds.{fold-roll-Test}
use Rattle.cpe_rows.specs.declared.truth.Truth.{Truth}
use Rattle.cpe_rows.proofs.Limited.{each_within}
use Rattle.cpe_rows.proofs.Within.{depth-logic}
use Rattle.cpe_rows.proofs.TestNames.{names-logic}
use Rattle.snapshot_bytes.specs.StoredRows.{IsNumber, IsSpelled, IsCountedList, IsStoredNote, IsStoredDeprecation, IsStoredEntry, IsStoredKey, IsStoredStep, IsStoredTest, IsStoredStatement, IsStoredResult, AreStored}
use Rattle.snapshot_bytes.specs.States.{IsString, IsTextEntry, IsTextKey, stored_keys_step, keys_of, IsTextStatement, AreTexts, entry_place_in, placed_deprecation, placed_entry, placed_rows, result_of, StatesHaveSnapshots}
use Rattle.snapshot_bytes.proofs.StateLemmas.{and_first, and_second, is_meant}

-- ---- sums

abbrev pub MOST : ℕ
MOST = 536870912

pub within : (rows : Rows) → AreWithin rows → weight rows ≤ MOST
within rows are = grind (arith, nat_tests, each_within rows are limit.Weight)

few_entries : (rows : Rows) → AreWithin rows → length rows.entries ≤ 2000000
few_entries rows are = grind (arith, nat_tests, each_within rows are limit.Entries)

module _ {A : Type 0} (w : A → ℕ) where
  -- each element is at most the sum
  each_below : (m : ℕ) (xs : List A) → total_weight (map w xs) ≤ m → AllByRecursion (λ x. w x ≤ m) xs
  each_below m [] le = tt
  each_below m (x ∷ xs) le = (omega (arith, le), each_below m xs (omega (arith, le)))

  -- the number of elements is at most the sum, if each element is at least 1
  few : ((x : A) → 1 ≤ w x) → (xs : List A) → length xs ≤ total_weight (map w xs)
  few some [] = omega arith
  few some (x ∷ xs) = omega (arith, some x, few some xs)

-- two properties of each element give a third property of each element
zipped : {A : Type 0} (P Q R : A → Type 0) → ((x : A) → P x → Q x → R x) → (xs : List A) → AllByRecursion P xs → AllByRecursion Q xs → AllByRecursion R xs
zipped P Q R h [] ps qs = tt
zipped P Q R h (x ∷ xs) ps qs = (h x ps.0 qs.0, zipped P Q R h xs ps.1 qs.1)

tested : {A : Type 0} (p : A → Bool) (xs : List A) → list_all p xs ≡ true → AllByRecursion (λ x. p x ≡ true) xs
tested p [] e = tt
tested p (x ∷ xs) e = (and_first (p x) (list_all p xs) e, tested p xs (and_second (p x) (list_all p xs) e))

mapped : {A B : Type 0} (P : B → Type 0) (f : A → B) (xs : List A) → AllByRecursion (λ x. P (f x)) xs → AllByRecursion P (map f xs)
mapped P f [] are = tt
mapped P f (x ∷ xs) are = (are.0, mapped P f xs are.1)

-- ---- entries

note_stored : (n : Note) → note_weight n ≤ MOST → IsDated n × IsString n.comment → IsStoredNote n
note_stored n light is = (is.0, (omega (arith, light), is.1))

notes_stored : (ns : List Note) → total_weight (map note_weight ns) ≤ MOST → AllByRecursion IsDated ns → AllByRecursion (λ (n : Note). IsString n.comment) ns → IsCountedList IsStoredNote ns
notes_stored ns light dated strings = (
  omega (arith, light, few note_weight (λ n. omega arith) ns),
  zipped (λ n. note_weight n ≤ MOST) (λ n. IsDated n × IsString n.comment) IsStoredNote note_stored ns (each_below note_weight MOST ns light)
      (zipped IsDated (λ n. IsString n.comment) (λ n. IsDated n × IsString n.comment) (λ n a b. (a, b)) ns dated strings),
)

place_below : (all : List Entry) (n : Values) → entry_place_in all n ≤ length all
place_below [] n = omega arith
place_below (e ∷ es) n = go (is_named n e) (place_below es n) where
  go : (b : Bool) → entry_place_in es n ≤ length es → (if b then 0 else suc (entry_place_in es n)) ≤ suc (length es)
  go true below = omega arith
  go false below = omega (arith, below)

places_stored : (all : List Entry) → length all ≤ 2000000 → (ns : List Values) → AllByRecursion IsNumber (map (entry_place_in all) ns)
places_stored all short [] = tt
places_stored all short (n ∷ ns) = (omega (arith, short, place_below all n), places_stored all short ns)

deprecation_stored : (all : List Entry) → length all ≤ 2000000 → (d : Option Deprecation) → option_map_or deprecation_weight d 0 ≤ MOST → IsStoredDeprecation (option_map (placed_deprecation all) d)
deprecation_stored all short None light = tt
deprecation_stored all short (Some d) light =
    (omega (arith, light, few name_weight (λ n. omega arith) d.successors, length-map d.successors (entry_place_in all)), places_stored all short d.successors)

entry_stored : (all : List Entry) → length all ≤ 2000000 → (e : Entry) → entry_weight e ≤ MOST → IsFormedEntry e → IsTextEntry e → is_entry_name e.name ≡ true → IsStoredEntry (placed_entry all e)
entry_stored all short e light formed texts named =
    let notes : total_weight (map note_weight e.provenance.notes) ≤ MOST = omega (arith, light) in
    let deprecation : option_map_or deprecation_weight e.deprecation 0 ≤ MOST = omega (arith, light) in
    let lower : is_lower e.name ≡ true = and_first (is_lower e.name) (is_identifier e.name) (and_first (is_lower e.name && is_identifier e.name) (not (has_wildcards e.name)) named) in
    record {
      name = (omega (arith, light), (formed.name, lower));
      title = (omega (arith, light), texts.title);
      submitter = (omega (arith, light), texts.submitter);
      authority = (omega (arith, light), texts.authority);
      notes = notes_stored e.provenance.notes notes (recursion_from_All IsDated e.provenance.notes formed.notes) texts.comments;
      deprecation = deprecation_stored all short e.deprecation deprecation;
    }

entries_stored : (all : List Entry) → length all ≤ 2000000 → (es : List Entry) → AllByRecursion (λ e. entry_weight e ≤ MOST) es → AllByRecursion IsFormedEntry es → AllByRecursion IsTextEntry es
    → AllByRecursion (λ (e : Entry). is_entry_name e.name ≡ true) es → AllByRecursion IsStoredEntry (map (placed_entry all) es)
entries_stored all short [] light formed texts named = tt
entries_stored all short (e ∷ es) light formed texts named =
    (entry_stored all short e light.0 formed.0 texts.0 named.0, entries_stored all short es light.1 formed.1 texts.1 named.1)

-- ---- items

item_stored : (n : Values) → name_weight n ≤ MOST → IsName n × (is_lower n ≡ true) → IsSpelled n
item_stored n light is = (omega (arith, light), is)

-- ---- keys

key_stored : (k : CheckKey) → key_weight k ≤ MOST → IsTextKey k → IsStoredKey k
key_stored k light texts = ((omega (arith, light), texts.system), (omega (arith, light), texts.href), (omega (arith, light), texts.id))

-- ---- tests

pub weight_logic : (operator : Operator) (negate : Bool) (of : List Test) → test_weight (Logic operator negate of) ≡ 32 + total_weight (map test_weight of)
weight_logic operator negate of = ap test_weight (sym (rolls-Logic operator negate of)) ∙ fold-roll-Test ℕ test_weight_step (Test-F.Logic operator negate of)

sound_logic : (operator : Operator) (negate : Bool) (of : List Test) → is_sound (Logic operator negate of) ≡ (nat_lt 0 (length (map is_sound of)) && list_all (λ b. b) (map is_sound of))
sound_logic operator negate of = ap is_sound (sym (rolls-Logic operator negate of)) ∙ fold-roll-Test Bool sound_step (Test-F.Logic operator negate of)

keys_logic : (operator : Operator) (negate : Bool) (of : List Test) → keys_of (Logic operator negate of) ≡ flat_map keys_of of
keys_logic operator negate of =
    ap keys_of (sym (rolls-Logic operator negate of))
    ∙ (fold-roll-Test (List CheckKey) stored_keys_step (Test-F.Logic operator negate of) ∙ flat_map-map (λ keys. keys) keys_of of)

-- the conditions for a test of at most this many levels
pub record IsFine (levels : ℕ) (t : Test) : Type 0 where
  pub light : test_weight t ≤ MOST
  pub depth : nat_le (depth_of t) levels ≡ true
  pub sound : is_sound t ≡ true
  pub named : AllByRecursion IsName (fact_names t)
  pub keyed : AllByRecursion IsTextKey (keys_of t)

appended : {A : Type 0} (P : A → Type 0) (xs ys : List A) → AllByRecursion P (xs ++ ys) → AllByRecursion P xs × AllByRecursion P ys
appended P [] ys are = (tt, are)
appended P (x ∷ xs) ys are = let others = appended P xs ys are.1 in ((are.0, others.0), others.1)

-- the children of a logical test meet the conditions, with one level less
children_fine : (levels : ℕ) (of : List Test) → total_weight (map test_weight of) ≤ MOST → nat_le (largest (map depth_of of)) levels ≡ true → list_all (λ b. b) (map is_sound of) ≡ true
    → AllByRecursion IsName (flat_map fact_names of) → AllByRecursion IsTextKey (flat_map keys_of of) → AllByRecursion (IsFine levels) of
children_fine levels [] light depth sound named keyed = tt
children_fine levels (t ∷ of) light depth sound named keyed =
    let names = appended IsName (fact_names t) (flat_map fact_names of) named in
    let keys = appended IsTextKey (keys_of t) (flat_map keys_of of) keyed in (
      record {
        light = omega (arith, light);
        depth = grind (arith, nat_tests, depth);
        sound = and_first (is_sound t) (list_all (λ b. b) (map is_sound of)) sound;
        named = names.0;
        keyed = keys.0;
      },
      children_fine levels of (omega (arith, light)) (grind (arith, nat_tests, depth)) (and_second (is_sound t) (list_all (λ b. b) (map is_sound of)) sound) names.1 keys.1,
    )

each_stored : (levels : ℕ) → ((t : Test) → IsFine levels t → IsStoredTest levels t) → (of : List Test) → AllByRecursion (IsFine levels) of → AllByRecursion (IsStoredTest levels) of
each_stored levels stored [] fine = tt
each_stored levels stored (t ∷ of) fine = (stored t fine.0, each_stored levels stored of fine.1)

weighs_some : (t : Test) → 1 ≤ test_weight t
weighs_some t = go (out-Test t) (roll-out-Test t) where
  go : (y : Test-F Test) → roll-Test y ≡ t → 1 ≤ test_weight t
  go (Test-F.Logic operator negate of) is = subst (λ u. 1 ≤ test_weight u) is (omega (arith, fold-roll-Test ℕ test_weight_step (Test-F.Logic operator negate of)))
  go (Test-F.Fact n) is = subst (λ u. 1 ≤ test_weight u) is (omega (arith, fold-roll-Test ℕ test_weight_step (Test-F.Fact n)))
  go (Test-F.Check k) is = subst (λ u. 1 ≤ test_weight u) is (omega (arith, fold-roll-Test ℕ test_weight_step (Test-F.Check k)))

logic_fine : (levels : ℕ) (operator : Operator) (negate : Bool) (of : List Test) → IsFine (suc levels) (Logic operator negate of) → AllByRecursion (IsFine levels) of
logic_fine levels operator negate of fine =
    let light : total_weight (map test_weight of) ≤ MOST = omega (arith, fine.light, weight_logic operator negate of) in
    let depth : nat_le (suc (largest (map depth_of of))) (suc levels) ≡ true = ap (λ n. nat_le n (suc levels)) (sym (depth-logic operator negate of)) ∙ fine.depth in
    children_fine levels of light (grind (arith, nat_tests, depth))
    (and_second (nat_lt 0 (length (map is_sound of))) (list_all (λ b. b) (map is_sound of)) (sym (sound_logic operator negate of) ∙ fine.sound))
    (subst (AllByRecursion IsName) (names-logic operator negate of) fine.named)
    (subst (AllByRecursion IsTextKey) (keys_logic operator negate of) fine.keyed)

no_levels : (operator : Operator) (negate : Bool) (of : List Test) → IsFine 0 (Logic operator negate of) → ⊥
no_levels operator negate of fine =
    let depth : nat_le (suc (largest (map depth_of of))) 0 ≡ true = ap (λ n. nat_le n 0) (sym (depth-logic operator negate of)) ∙ fine.depth in
    grind (arith, nat_tests, depth)

-- one level of a test, if the children meet their condition
step_stored : (AreChildren : List Test → Type 0) (levels : ℕ) (t : Test)
    → ((operator : Operator) (negate : Bool) (of : List Test) → IsFine levels (Logic operator negate of) → AreChildren of) → IsFine levels t → IsStoredStep AreChildren (out-Test t)
step_stored AreChildren levels t logic fine = go (out-Test t) (roll-out-Test t) where
  go : (y : Test-F Test) → roll-Test y ≡ t → IsStoredStep AreChildren y
  go (Test-F.Logic operator negate of) is = logic operator negate of (subst (IsFine levels) (sym is ∙ rolls-Logic operator negate of) fine)
  go (Test-F.Fact n) is =
      let f : IsFine levels (roll-Test (Test-F.Fact n)) = subst (IsFine levels) (sym is) fine in
      let named : AllByRecursion IsName (n ∷ []) = subst (AllByRecursion IsName) (fold-roll-Test (List Values) fact_names_step (Test-F.Fact n)) f.named in
      (omega (arith, f.light, fold-roll-Test ℕ test_weight_step (Test-F.Fact n)), (named.0, sym (fold-roll-Test Bool sound_step (Test-F.Fact n)) ∙ f.sound))
  go (Test-F.Check k) is =
      let f : IsFine levels (roll-Test (Test-F.Check k)) = subst (IsFine levels) (sym is) fine in
      let keyed : AllByRecursion IsTextKey (k ∷ []) = subst (AllByRecursion IsTextKey) (fold-roll-Test (List CheckKey) stored_keys_step (Test-F.Check k)) f.keyed in
      key_stored k (omega (arith, f.light, fold-roll-Test ℕ test_weight_step (Test-F.Check k))) keyed.0

test_stored : (levels : ℕ) (t : Test) → IsFine levels t → IsStoredTest levels t
test_stored zero t fine = step_stored (λ of. ⊥) 0 t no_levels fine
test_stored (suc levels) t fine =
    step_stored (IsCountedList (IsStoredTest levels)) (suc levels) t
    (λ operator negate of is.
    (omega (arith, is.light, weight_logic operator negate of, few test_weight weighs_some of), each_stored levels (test_stored levels) of (logic_fine levels operator negate of is))) fine

-- ---- statements

statement_stored : (s : Statement) → statement_weight s ≤ MOST → IsFormedStatement s × (is_lawful_statement s ≡ true) → IsTextStatement s → IsStoredStatement s
statement_stored s light is texts =
    let tests : is_statement_test s.test ≡ true = and_second (is_id s.id) (is_statement_test s.test) is.1 in
    let shape = and_first (is_logic (out-Test s.test) && nat_le (depth_of s.test) 32) (is_sound s.test) tests in
    record {
      id = (omega (arith, light), texts.id);
      title = (omega (arith, light), texts.title);
      test = test_stored 32 s.test (record {
        light = omega (arith, light);
        depth = and_second (is_logic (out-Test s.test)) (nat_le (depth_of s.test) 32) shape;
        sound = and_second (is_logic (out-Test s.test) && nat_le (depth_of s.test) 32) (is_sound s.test) tests;
        named = recursion_from_All IsName (fact_names s.test) is.0;
        keyed = texts.keys;
      });
    }

statements_stored : (ss : List Statement) → AllByRecursion (λ s. statement_weight s ≤ MOST) ss → AllByRecursion IsFormedStatement ss → AllByRecursion (λ s. is_lawful_statement s ≡ true) ss
    → AllByRecursion IsTextStatement ss → AllByRecursion IsStoredStatement ss
statements_stored [] light formed lawful texts = tt
statements_stored (s ∷ ss) light formed lawful texts = (statement_stored s light.0 (formed.0, lawful.0) texts.0, statements_stored ss light.1 formed.1 lawful.1 texts.1)

-- ---- all rows

results_stored : (cs : List (CheckKey × Truth)) → AllByRecursion (λ c. check_weight c ≤ MOST) cs → AllByRecursion (λ (c : CheckKey × Truth). IsTextKey c.0) cs → AllByRecursion IsStoredResult (map result_of cs)
results_stored [] light texts = tt
results_stored (c ∷ cs) light texts = (key_stored c.0 light.0 texts.0, results_stored cs light.1 texts.1)

few_items : (rows : Rows) → AreWithin rows → length rows.items ≤ 1000000
few_items rows are = grind (arith, nat_tests, each_within rows are limit.Items)

few_statements : (rows : Rows) → AreWithin rows → length rows.statements ≤ 100000
few_statements rows are = grind (arith, nat_tests, each_within rows are limit.Statements)

few_checks : (rows : Rows) → AreWithin rows → length rows.checks ≤ 100000
few_checks rows are = grind (arith, nat_tests, each_within rows are limit.Checks)

pub lawful_are_stored : (rows : Rows) → IsLawful rows → AreTexts rows → AreStored (placed_rows rows)
lawful_are_stored rows lawful texts =
    let light : weight rows ≤ MOST = within rows lawful.within in
    let short : length rows.entries ≤ 2000000 = few_entries rows lawful.within in
    record {
      entries = (
        le-leb _ _ (omega (arith, short, length-map rows.entries (placed_entry rows.entries))),
        entries_stored rows.entries short rows.entries (each_below entry_weight MOST rows.entries (omega (arith, light)))
            (recursion_from_All IsFormedEntry rows.entries lawful.formed.entries) texts.entries (tested (λ e. is_entry_name e.name) rows.entries lawful.dictionary.names),
      );
      items = (
        le-leb _ _ (few_items rows lawful.within),
        zipped (λ n. name_weight n ≤ MOST) (λ n. IsName n × (is_lower n ≡ true)) IsSpelled item_stored rows.items (each_below name_weight MOST rows.items (omega (arith, light)))
            (zipped IsName (λ n. is_lower n ≡ true) (λ n. IsName n × (is_lower n ≡ true)) (λ n a b. (a, b)) rows.items
            (recursion_from_All IsName rows.items lawful.formed.items) (tested is_lower rows.items lawful.item_names)),
      );
      statements = (
        le-leb _ _ (few_statements rows lawful.within),
        statements_stored rows.statements (each_below statement_weight MOST rows.statements (omega (arith, light)))
            (recursion_from_All IsFormedStatement rows.statements lawful.formed.statements) (tested is_lawful_statement rows.statements lawful.lawful_statements) texts.statements,
      );
      results = (
        le-leb _ _ (omega (arith, few_checks rows lawful.within, length-map rows.checks result_of)),
        results_stored rows.checks (each_below check_weight MOST rows.checks (omega (arith, light))) texts.checks,
      );
    }

pub states_have_snapshots : StatesHaveSnapshots
states_have_snapshots rows lawful texts = (placed_rows rows, is_meant rows lawful, (lawful_are_stored rows lawful texts, refl))
