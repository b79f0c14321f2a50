-- Lemmas: states, and the rows with places that represent them.
use Rattle.std.proofs.Common.{◌≡◌, refl, sym, ◌∙◌, ap, subst, ℕ, zero, suc, ◌+◌, arith, ◌&&◌, ◌||◌, Bool, true, false, cond, not, List, [], ◌∷◌, map, Option, Some, None, slice_get}
use Rattle.std.specs.Option.{option_map}
use Rattle.std.specs.List.{list_any, list_all, position_from}
use Rattle.std.proofs.lemmas.Iterator.Adapters.{position_from-zero}
use Rattle.cpe_rows.specs.cpe_name.Eleven.{Values}
use Rattle.cpe_rows.proofs.NameTests.{same_is}
use Rattle.cpe_rows.specs.Rows.{Rows, is_named}
use Rattle.cpe_rows.specs.Chains.{successors_of}
use Rattle.cpe_rows.specs.Lawful.{IsLawful, are_different, has_successors}
use Rattle.cpe_rows.specs.declared.entry.Deprecation.{Deprecation}
use Rattle.cpe_rows.specs.declared.entry.Entry.{Entry}
use Rattle.cpe_rows.specs.declared.test.CheckKey.{CheckKey}
use Rattle.cpe_rows.specs.declared.truth.Truth.{Truth}
use Rattle.snapshot_bytes.specs.declared.rows.KeptResult.{KeptResult}
use Rattle.snapshot_bytes.specs.declared.rows.PlacedDeprecation.{PlacedDeprecation}
use Rattle.snapshot_bytes.specs.declared.rows.PlacedEntry.{PlacedEntry}
use Rattle.snapshot_bytes.specs.declared.rows.PlacedRows.{PlacedRows}
use Rattle.snapshot_bytes.specs.Snapshot.{snapshot_of}
use Rattle.snapshot_bytes.specs.States.{OneByOne, IsNamed, AreNamed, IsMeantDeprecation, IsMeant, AreMeantEntries, AreMeant, pair_of_result, entry_place_in, placed_deprecation, placed_entry, placed_rows, result_of, StatesAreClear, StatesHaveOne, PlacesArePositions}
use Rattle.snapshot_bytes.proofs.Readers.{some_is}
use Rattle.snapshot_bytes.proofs.RowsReader.{clear}

-- ---- rows with places represent only one state

once : {A B : Type 0} (Belongs : A → B → Type 0) → ((x : A) (y z : B) → Belongs x y → Belongs x z → y ≡ z)
    → (xs : List A) (ys zs : List B) → OneByOne Belongs xs ys → OneByOne Belongs xs zs → ys ≡ zs
once Belongs one [] [] [] a b = refl
once Belongs one [] [] (z ∷ zs) a b = absurd b
once Belongs one [] (y ∷ ys) zs a b = absurd a
once Belongs one (x ∷ xs) [] zs a b = absurd a
once Belongs one (x ∷ xs) (y ∷ ys) [] a b = absurd b
once Belongs one (x ∷ xs) (y ∷ ys) (z ∷ zs) a b =
    let first : y ≡ z = one x y z a.0 b.0 in
    let others = once Belongs one xs ys zs a.1 b.1 in
    λ i. first i ∷ others i

named_once : (es : List PlacedEntry) (ks : List ℕ) (ns ms : List Values) → AreNamed es ks ns → AreNamed es ks ms → ns ≡ ms
named_once es = once (IsNamed es) (λ k n m a b. some_is n m (sym a ∙ b))

pub deprecation_once : (es : List PlacedEntry) (p : Option PlacedDeprecation) (d f : Option Deprecation) → IsMeantDeprecation es p d → IsMeantDeprecation es p f → d ≡ f
deprecation_once es None None None a b = refl
deprecation_once es None None (Some f) a b = absurd b
deprecation_once es None (Some d) f a b = absurd a
deprecation_once es (Some p) None f a b = absurd a
deprecation_once es (Some p) (Some d) None a b = absurd b
deprecation_once es (Some p) (Some d) (Some f) a b =
    let kinds = sym a.0 ∙ b.0 in
    let names = named_once es p.successors d.successors f.successors a.1 b.1 in
    λ i. Some (record { kind = kinds i; successors = names i })

entry_once : (es : List PlacedEntry) (p : PlacedEntry) (e f : Entry) → IsMeant es p e → IsMeant es p f → e ≡ f
entry_once es p e f a b =
    let names = sym a.name ∙ b.name in
    let titles = sym a.title ∙ b.title in
    let provenances = sym a.provenance ∙ b.provenance in
    let deprecations = deprecation_once es p.deprecation e.deprecation f.deprecation a.deprecation b.deprecation in
    λ i. record { name = names i; title = titles i; provenance = provenances i; deprecation = deprecations i }

entries_once : (all ps : List PlacedEntry) (es fs : List Entry) → AreMeantEntries all ps es → AreMeantEntries all ps fs → es ≡ fs
entries_once all = once (IsMeant all) (entry_once all)

pub one_state : (p : PlacedRows) (rows others : Rows) → AreMeant p rows → AreMeant p others → rows ≡ others
one_state p rows others a b =
    let entries = entries_once p.entries p.entries rows.entries others.entries a.entries b.entries in
    let items = sym a.items ∙ b.items in
    let statements = sym a.statements ∙ b.statements in
    let checks = sym a.checks ∙ b.checks in
    λ i. record { entries = entries i; items = items i; statements = statements i; checks = checks i }

pub states_are_clear : StatesAreClear
states_are_clear rows others bytes a b =
    one_state a.0 rows others a.1 (subst (λ p. AreMeant p others) (sym (clear a.0 b.0 bytes a.2 b.2)) b.1)

-- ---- each state has rows with places

pub and_first : (a b : Bool) → a && b ≡ true → a ≡ true
and_first true b e = refl
and_first false b e = absurd cc

pub and_second : (a b : Bool) → a && b ≡ true → b ≡ true
and_second true b e = e
and_second false b e = absurd cc

-- the entry of a name is at the name's place
at_place : (all es : List Entry) (n : Values) → list_any (is_named n) es ≡ true → option_map (λ e. e.name) (slice_get (map (placed_entry all) es) (entry_place_in es n)) ≡ Some n
at_place all [] n any = absurd cc
at_place all (e ∷ es) n any = go (is_named n e) refl (at_place all es n) where
  go : (b : Bool) → is_named n e ≡ b → (list_any (is_named n) es ≡ true → option_map (λ f. f.name) (slice_get (map (placed_entry all) es) (entry_place_in es n)) ≡ Some n) → option_map (λ f. f.name) (slice_get (map (placed_entry all) (e ∷ es)) (cond b 0 (suc (entry_place_in es n)))) ≡ Some n
  go true is later = ap (λ m. Some m) (sym ((same_is n e.name).0 is))
  go false is later = later (ap (λ b. b || list_any (is_named n) es) (sym is) ∙ any)

all_named : (all : List Entry) (ns : List Values) → list_all (λ s. list_any (is_named s) all) ns ≡ true → AreNamed (map (placed_entry all) all) (map (entry_place_in all) ns) ns
all_named all [] are = tt
all_named all (n ∷ ns) are = (
  at_place all all n (and_first (list_any (is_named n) all) (list_all (λ s. list_any (is_named s) all) ns) are),
  all_named all ns (and_second (list_any (is_named n) all) (list_all (λ s. list_any (is_named s) all) ns) are),
)

meant_deprecation : (all : List Entry) (d : Option Deprecation) (e : Entry) → e.deprecation ≡ d → has_successors all e ≡ true
    → IsMeantDeprecation (map (placed_entry all) all) (option_map (placed_deprecation all) d) d
meant_deprecation all None e is has = tt
meant_deprecation all (Some d) e is has =
    (refl, all_named all d.successors (ap (λ o. list_all (λ s. list_any (is_named s) all) (successors_of (record { name = e.name; title = e.title; provenance = e.provenance; deprecation = o }))) (sym is) ∙ has))

meant_entries : (all es : List Entry) → list_all (has_successors all) es ≡ true → AreMeantEntries (map (placed_entry all) all) (map (placed_entry all) es) es
meant_entries all [] are = tt
meant_entries all (e ∷ es) are = (
  record { name = refl; title = refl; provenance = refl; deprecation = meant_deprecation all e.deprecation e refl (and_first (has_successors all e) (list_all (has_successors all) es) are) },
  meant_entries all es (and_second (has_successors all e) (list_all (has_successors all) es) are),
)

pairs_back : (cs : List (CheckKey × Truth)) → map pair_of_result (map result_of cs) ≡ cs
pairs_back [] = refl
pairs_back (c ∷ cs) = ap (λ (ds : List (CheckKey × Truth)). c ∷ ds) (pairs_back cs)

pub is_meant : (rows : Rows) → IsLawful rows → AreMeant (placed_rows rows) rows
is_meant rows lawful = record { entries = meant_entries rows.entries rows.entries lawful.dictionary.successors; items = refl; statements = refl; checks = pairs_back rows.checks }

-- ---- a state has only one list of rows with places

abbrev pub name_at : List PlacedEntry → ℕ → Option Values
name_at ps k = option_map (λ e. e.name) (slice_get ps k)

none_is : (n : Values) → ◌≡◌ {A = Option Values} None (Some n) → ⊥
none_is n e = cc

false_is : false ≡ true → ⊥
false_is e = cc

-- the name at a place is the name of an entry
is_among : (all ps : List PlacedEntry) (es : List Entry) (k : ℕ) (n : Values) → AreMeantEntries all ps es → name_at ps k ≡ Some n → list_any (is_named n) es ≡ true
is_among all [] es zero n are at = absurd (none_is n at)
is_among all [] es (suc k) n are at = absurd (none_is n at)
is_among all (p ∷ ps) [] k n are at = absurd are
is_among all (p ∷ ps) (e ∷ es) zero n are at =
    ap (λ b. b || list_any (is_named n) es) ((same_is n e.name).1 (sym (some_is p.name n at) ∙ are.0.name))
is_among all (p ∷ ps) (e ∷ es) (suc k) n are at = go (is_named n e) (is_among all ps es k n are.1 at) where
  go : (b : Bool) → list_any (is_named n) es ≡ true → b || list_any (is_named n) es ≡ true
  go true later = refl
  go false later = later

-- if the names are different, a name is at its own place only
is_place : (all ps : List PlacedEntry) (es : List Entry) (k : ℕ) (n : Values) → AreMeantEntries all ps es → are_different (λ e. is_named e.name) es ≡ true
    → name_at ps k ≡ Some n → k ≡ entry_place_in es n
is_place all [] es zero n are differ at = absurd (none_is n at)
is_place all [] es (suc k) n are differ at = absurd (none_is n at)
is_place all (p ∷ ps) [] k n are differ at = absurd are
is_place all (p ∷ ps) (e ∷ es) zero n are differ at =
    sym (ap (λ b. cond b 0 (suc (entry_place_in es n))) ((same_is n e.name).1 (sym (some_is p.name n at) ∙ are.0.name)))
is_place all (p ∷ ps) (e ∷ es) (suc k) n are differ at =
    go (is_named n e) refl (is_place all ps es k n are.1 (and_second (not (list_any (is_named e.name) es)) (are_different (λ f. is_named f.name) es) differ) at)
    (is_among all ps es k n are.1 at) (and_first (not (list_any (is_named e.name) es)) (are_different (λ f. is_named f.name) es) differ)
  where
    go : (b : Bool) → is_named n e ≡ b → k ≡ entry_place_in es n → list_any (is_named n) es ≡ true → not (list_any (is_named e.name) es) ≡ true → suc k ≡ cond b 0 (suc (entry_place_in es n))
    go true is later among apart =
        absurd (false_is (sym (ap not (ap (λ m. list_any (is_named m) es) (sym ((same_is n e.name).0 is)) ∙ among)) ∙ apart))
    go false is later among apart = ap suc later

module _ (all : List PlacedEntry) (es : List Entry) (are : AreMeantEntries all all es) (differ : are_different (λ e. is_named e.name) es ≡ true) where
  places_are : (ks : List ℕ) (ns : List Values) → AreNamed all ks ns → ks ≡ map (entry_place_in es) ns
  places_are [] [] named = refl
  places_are [] (n ∷ ns) named = absurd named
  places_are (k ∷ ks) [] named = absurd named
  places_are (k ∷ ks) (n ∷ ns) named =
      let first : k ≡ entry_place_in es n = is_place all all es k n are differ named.0 in
      let others = places_are ks ns named.1 in
      λ i. first i ∷ others i

  deprecation_is : (p : Option PlacedDeprecation) (d : Option Deprecation) → IsMeantDeprecation all p d → p ≡ option_map (placed_deprecation es) d
  deprecation_is None None meant = refl
  deprecation_is None (Some d) meant = absurd meant
  deprecation_is (Some p) None meant = absurd meant
  deprecation_is (Some p) (Some d) meant =
      let kinds = meant.0 in
      let places = places_are p.successors d.successors meant.1 in
      λ i. Some (record { kind = kinds i; successors = places i })

  entry_is : (p : PlacedEntry) (e : Entry) → IsMeant all p e → p ≡ placed_entry es e
  entry_is p e meant =
      let names = meant.name in
      let titles = meant.title in
      let provenances = meant.provenance in
      let deprecations = deprecation_is p.deprecation e.deprecation meant.deprecation in
      λ i. record { name = names i; title = titles i; provenance = provenances i; deprecation = deprecations i }

  entries_are : (ps : List PlacedEntry) (fs : List Entry) → AreMeantEntries all ps fs → ps ≡ map (placed_entry es) fs
  entries_are [] [] meant = refl
  entries_are [] (f ∷ fs) meant = absurd meant
  entries_are (p ∷ ps) [] meant = absurd meant
  entries_are (p ∷ ps) (f ∷ fs) meant =
      let first = entry_is p f meant.0 in
      let others = entries_are ps fs meant.1 in
      λ i. first i ∷ others i

results_back : (rs : List KeptResult) → map result_of (map pair_of_result rs) ≡ rs
results_back [] = refl
results_back (r ∷ rs) = ap (λ (us : List KeptResult). r ∷ us) (results_back rs)

pub placed_is : (p : PlacedRows) (rows : Rows) → are_different (λ e. is_named e.name) rows.entries ≡ true → AreMeant p rows → p ≡ placed_rows rows
placed_is p rows differ meant =
    let entries = entries_are p.entries rows.entries meant.entries differ p.entries rows.entries meant.entries in
    let items = meant.items in
    let statements = meant.statements in
    let results = sym (results_back p.results) ∙ ap (map result_of) meant.checks in
    λ i. record { entries = entries i; items = items i; statements = statements i; results = results i }

pub states_have_one : StatesHaveOne
states_have_one rows bytes lawful snap = snap.2.1 ∙ ap snapshot_of (placed_is snap.0 rows lawful.dictionary.names_differ snap.1)

-- ---- the place at which a search finds an entry

found_from : (es : List Entry) (n : Values) (i k : ℕ) → position_from (is_named n) i es ≡ Some k → entry_place_in es n + i ≡ k
found_from [] n i k found = absurd (nothing k found) where
  nothing : (m : ℕ) → ◌≡◌ {A = Option ℕ} None (Some m) → ⊥
  nothing m e = cc
found_from (e ∷ es) n i k found = go (is_named n e) refl found (found_from es n (i + 1) k) where
  go : (b : Bool) → is_named n e ≡ b → cond b (Some i) (position_from (is_named n) (i + 1) es) ≡ Some k → (position_from (is_named n) (i + 1) es ≡ Some k → entry_place_in es n + (i + 1) ≡ k)
      → cond b 0 (suc (entry_place_in es n)) + i ≡ k
  go true is at later = omega (arith, some_is i k at)
  go false is at later = omega (arith, later at)

pub places_are_positions : PlacesArePositions
places_are_positions es n k found = omega (arith, found_from es n 0 k (sym (position_from-zero (is_named n) es) ∙ found))
