-- Lemmas: a certificate that is good for a statement of lawful rows has the form of a line. The names in it are those
-- of the rows and of the statement.
use Rattle.std.proofs.Common.{◌≡◌, inl, inr, ℕ, suc, ◌≤◌, List, [], ◌∷◌, length, nat_lt, nat_le, Bool, true, ◌&&◌, not, Option, Some, None, option_map, map, refl, ap, sym, ◌∙◌, subst, arith}
use Rattle.std.specs.Prelude.{All}
use Rattle.std.specs.List.{list_all, list_any, flat_map}
use Rattle.std.proofs.lemmas.Bool.{and_parts, and_from}
use Rattle.std.proofs.lemmas.Bool.Decides.{nat_tests}
use Rattle.std.proofs.lemmas.List.Elements.{All-nil, All-cons, All-head, All-tail, All-append}
use Rattle.cpe_rows.specs.cpe_name.Eleven.{Values}
use Rattle.cpe_rows.specs.cpe_name.Names.{IsName}
use Rattle.cpe_rows.specs.Names.{is_lower, is_identifier, has_wildcards}
use Rattle.cpe_rows.specs.Rows.{Rows, is_named}
use Rattle.cpe_rows.specs.Reach.{Among}
use Rattle.cpe_rows.specs.Chains.{successors_of}
use Rattle.cpe_rows.specs.FactNames.{fact_names, fact_names_step}
use Rattle.cpe_rows.specs.Formed.{IsFormedEntry, IsFormedStatement}
use Rattle.cpe_rows.specs.Lawful.{IsLawful, is_entry_name, has_successors, is_lawful_statement}
use Rattle.cpe_rows.specs.Shape.{largest, depth_of, depth_step, is_sound as is_sound_test, sound_step as sound_test_step}
use Rattle.cpe_rows.specs.Valid.{is_id, is_logic, is_statement_test}
use Rattle.cpe_rows.specs.declared.entry.Entry.{Entry}
use Rattle.cpe_rows.specs.declared.limits.TheConstants.{MOST_LEVELS}
use Rattle.cpe_rows.specs.declared.statement.Mode.{Mode}
use Rattle.cpe_rows.specs.declared.statement.Mode.TheVariants.{Plain, Follow}
use Rattle.cpe_rows.specs.declared.statement.Statement.{Statement}
use Rattle.cpe_rows.specs.declared.test.CheckKey.{CheckKey}
use Rattle.cpe_rows.specs.declared.test.Operator.{Operator}
use Rattle.cpe_rows.specs.declared.test.Test.{Test, roll-Test, out-Test}
use Rattle.cpe_rows.specs.declared.test.Test.TheOpen.{Test-F}
use Rattle.cpe_rows.specs.declared.test.Test.TheFolds.{fold-roll-Test, ind-Test, map-Test}
use Rattle.cpe_rows.specs.declared.truth.Truth.{Truth}
use Rattle.cpe_rows.specs.declared.truth.Truth.TheVariants.{True, False, Error, Unknown}
use Rattle.cpe_rows.proofs.NameTests.{same_is}
use Rattle.cpe_rows.proofs.Paths.{some_element}
use Rattle.certificate_check.specs.Good.{AreGood, GoodLogic, HasTraces, GoodPair, GoodFact, GoodCheck, good_step, GoodFor, Good}
use Rattle.certificate_check.specs.Traces.{Precedes, IsPath, BeginsWithName, IsTrace}
use Rattle.certificate_check.specs.declared.certificate.Why.{Why, out-Why, roll-Why}
use Rattle.certificate_check.specs.declared.certificate.Why.TheOpen.{Why-F}
use Rattle.certificate_check.specs.declared.certificate.Why.TheViews.{roll-out-Why}
use Rattle.certificate_check.specs.declared.certificate.Why.TheFolds.{fold-roll-Why, map-Why}
use Rattle.certificate_check.proofs.GoodLevels.{good-level}
use Rattle.certificate_records.specs.Levels.{given_levels, levels, levels_step}
use Rattle.certificate_records.specs.Whole.{why_names, names_step, HasNames, are_named, is_sound_why, sound_why_step, is_formed}
use Rattle.certificate_records.proofs.Names.{given_names, all_parts}
use Rattle.certificate_records.proofs.WhysRead.{sound_at}
use Rattle.certificate_records.proofs.Mapped.{mapped}

all_among : {A : Type 0} (p : A → Bool) (xs : List A) (x : A) → list_all p xs ≡ true → Among xs x → p x ≡ true
all_among p [] x h m = absurd m
all_among p (y ∷ xs) x h (inl is) = sym (ap p is) ∙ (and_parts (p y) (list_all p xs) h).0
all_among p (y ∷ xs) x h (inr m) = all_among p xs x (and_parts (p y) (list_all p xs) h).1 m

each_among : {A : Type 0} (P : A → Type 0) (xs : List A) (x : A) → All P xs → Among xs x → P x
each_among P [] x h m = absurd m
each_among P (y ∷ xs) x h (inl is) = subst P is (All-head P y xs h)
each_among P (y ∷ xs) x h (inr m) = each_among P xs x (All-tail P y xs h) m

-- a name that rows may have: well-formed and in lower case
abbrev IsKept : Values → Type 0
IsKept n = (is_lower n ≡ true) × IsName n

-- a list of such names, at least one
abbrev AreKept : List Values → Type 0
AreKept ns = (are_named ns ≡ true) × All IsName ns

one_kept : (n : Values) → IsKept n → AreKept (n ∷ [])
one_kept n h = (and_from (is_lower n) true h.0 refl, All-cons IsName n [] h.1 (All-nil IsName))

more_kept : (n m : Values) (ns : List Values) → IsKept n → AreKept (m ∷ ns) → AreKept (n ∷ m ∷ ns)
more_kept n m ns h k = (and_from (is_lower n) (list_all is_lower (m ∷ ns)) h.0 k.0, All-cons IsName n (m ∷ ns) h.1 k.1)

module _ (rows : Rows) (lawful : IsLawful rows) (mode : Mode) where
  successor_kept : (n m : Values) → Precedes rows.entries n m → IsKept m
  successor_kept n m p =
      let e = p.0 in
      let all = all_among (has_successors rows.entries) rows.entries e lawful.dictionary.successors p.1 in
      let there = all_among (λ s. list_any (is_named s) rows.entries) (successors_of e) m all p.3 in
      let found = some_element (is_named m) rows.entries there in
      let named = all_among (λ (f : Entry). is_entry_name f.name) rows.entries found.0 lawful.dictionary.names found.1 in
      let parts = and_parts (is_lower found.0.name && is_identifier found.0.name) (not (has_wildcards found.0.name)) named in
      let low = (and_parts (is_lower found.0.name) (is_identifier found.0.name) parts.0).0 in (
        ap is_lower ((same_is m found.0.name).0 found.2) ∙ low,
        each_among IsName (successors_of e) m (each_among IsFormedEntry rows.entries e lawful.formed.entries p.1).successors p.3,
      )

  path_kept : (n : Values) (ns : List Values) → IsKept n → IsPath rows.entries (n ∷ ns) → AreKept (n ∷ ns)
  path_kept n [] h p = one_kept n h
  path_kept n (m ∷ ns) h p = more_kept n m ns h (path_kept m ns (successor_kept n m p.0) p.1)

  begins_kept : (n : Values) (ns : List Values) → IsKept n → BeginsWithName n ns → IsPath rows.entries ns → AreKept ns
  begins_kept n [] h b p = absurd b
  begins_kept n (m ∷ ns) h b p = path_kept m ns (subst IsKept (sym b) h) p

  trace_kept : (n : Values) (ns : List Values) → IsKept n → IsTrace rows mode n ns → AreKept ns
  trace_kept n ns h t = by_mode mode t where
    by_mode : (m : Mode) → IsTrace rows m n ns → AreKept ns
    by_mode Plain t = subst AreKept (sym t) (one_kept n h)
    by_mode Follow (inl t) = begins_kept n ns h t.0 t.1
    by_mode Follow (inr t) = subst AreKept (sym t.0) (one_kept n h)

  item_kept : (n : Values) → Among rows.items n → IsKept n
  item_kept n m = (all_among is_lower rows.items n lawful.item_names m, each_among IsName rows.items n lawful.formed.items m)

  -- ---- levels

  -- the certificate has the form of a line, and at most this many levels
  pub record IsSmall (most : ℕ) (w : Why) : Type 0 where
    pub sound : is_sound_why w ≡ true
    pub named : HasNames w
    pub small : levels w ≤ most

  sound_level : (y : Why-F Why) → is_sound_why (roll-Why y) ≡ sound_why_step (map-Why Why Bool is_sound_why y)
  sound_level y = fold-roll-Why Bool sound_why_step y

  names_level : (y : Why-F Why) → why_names (roll-Why y) ≡ names_step (map-Why Why (List Values) why_names y)
  names_level y = fold-roll-Why (List Values) names_step y

  levels_level : (y : Why-F Why) → levels (roll-Why y) ≡ levels_step (map-Why Why ℕ levels y)
  levels_level y = fold-roll-Why ℕ levels_step y

  small_level : (most : ℕ) (y : Why-F Why) → sound_why_step (map-Why Why Bool is_sound_why y) ≡ true → All IsName (names_step (map-Why Why (List Values) why_names y))
      → levels_step (map-Why Why ℕ levels y) ≤ most → IsSmall most (roll-Why y)
  small_level most y s n l = record {
    sound = sound_level y ∙ s;
    named = subst (All IsName) (sym (names_level y)) n;
    small = subst (λ k. k ≤ most) (sym (levels_level y)) l;
  }

  abbrev Small : Test → Type 0
  Small t = is_sound_test t ≡ true → All IsName (fact_names t) → (w : Why) → GoodFor rows mode t w → IsSmall (depth_of t) w

  abbrev Shown : Type 0
  Shown = (t : Test) × Small t

  abbrev tests : List Shown → List Test
  tests es = map (λ (e : Shown). e.0) es

  pub record AreSmall (most : ℕ) (of : List (Option Why)) : Type 0 where
    pub sound : list_all sound_at (map (option_map is_sound_why) of) ≡ true
    pub named : All IsName (flat_map given_names (map (option_map why_names) of))
    pub small : largest (map given_levels (map (option_map levels) of)) ≤ most

  each_small : (es : List Shown) (of : List (Option Why)) → list_all (λ b. b) (map is_sound_test (tests es)) ≡ true
      → All IsName (flat_map (λ ns. ns) (map fact_names (tests es))) → AreGood (GoodFor rows mode) (tests es) of → AreSmall (largest (map depth_of (tests es))) of
  each_small [] [] s n g = record { sound = refl; named = All-nil IsName; small = omega arith }
  each_small [] (w ∷ of) s n g = absurd g
  each_small (e ∷ es) [] s n g = absurd g
  each_small (e ∷ es) (None ∷ of) s n g =
      let p = and_parts (is_sound_test e.0) (list_all (λ b. b) (map is_sound_test (tests es))) s in
      let q = all_parts IsName (fact_names e.0) (flat_map (λ ns. ns) (map fact_names (tests es))) n in
      let rest = each_small es of p.1 q.1 g in
      record { sound = rest.sound; named = rest.named; small = omega (arith, rest.small) }
  each_small (e ∷ es) (Some w ∷ of) s n g =
      let p = and_parts (is_sound_test e.0) (list_all (λ b. b) (map is_sound_test (tests es))) s in
      let q = all_parts IsName (fact_names e.0) (flat_map (λ ns. ns) (map fact_names (tests es))) n in
      let one = e.1 p.0 q.0 w g.0 in
      let rest = each_small es of p.1 q.1 g.1 in
      record {
        sound = and_from (is_sound_why w) _ one.sound rest.sound;
        named = All-append IsName (why_names w) (flat_map given_names (map (option_map why_names) of)) one.named rest.named;
        small = omega (arith, one.small, rest.small);
      }

  fit_small : {relates : Values → Values → Bool} (name : Values) (truth : Truth) (fact item : List Values) → IsKept name
      → HasTraces relates rows mode name fact item → IsSmall 0 (roll-Why (Why-F.Pair truth fact item))
  fit_small name truth fact item h g =
      let f = trace_kept name fact h g.fact_trace in
      let i = trace_kept g.start item (item_kept g.start g.is_item) g.item_trace in
      small_level 0 (Why-F.Pair truth fact item) (and_from (are_named fact) (are_named item) f.0 i.0) (All-append IsName fact item f.1 i.1) (omega arith)

  pair_small : (name : Values) (truth : Truth) (fact item : List Values) → IsKept name → GoodPair rows mode name truth fact item
      → IsSmall 0 (roll-Why (Why-F.Pair truth fact item))
  pair_small name True fact item h g = fit_small name True fact item h g
  pair_small name False fact item h g = absurd g
  pair_small name Error fact item h g = absurd g
  pair_small name Unknown fact item h g = fit_small name Unknown fact item h g.0

  fact_small : (name : Values) (w : Why-F Why) → IsKept name → GoodFact rows mode name w → IsSmall 0 (roll-Why w)
  fact_small name (Why-F.Logic truth of) h g = absurd g
  fact_small name (Why-F.Pair truth fact item) h g = pair_small name truth fact item h g
  fact_small name (Why-F.Plain truth) h g = small_level 0 (Why-F.Plain truth) refl (All-nil IsName) (omega arith)

  check_small : (key : CheckKey) (w : Why-F Why) → GoodCheck rows key w → IsSmall 0 (roll-Why w)
  check_small key (Why-F.Logic truth of) g = absurd g
  check_small key (Why-F.Pair truth fact item) g = absurd g
  check_small key (Why-F.Plain truth) g = small_level 0 (Why-F.Plain truth) refl (All-nil IsName) (omega arith)

  logic_small : (operator : Operator) (negate : Bool) (es : List Shown) (w : Why-F Why) → list_all (λ b. b) (map is_sound_test (tests es)) ≡ true
      → All IsName (flat_map (λ ns. ns) (map fact_names (tests es))) → GoodLogic (GoodFor rows mode) operator negate (tests es) w
      → IsSmall (suc (largest (map depth_of (tests es)))) (roll-Why w)
  logic_small operator negate es (Why-F.Logic truth of) s n g =
      let all = each_small es of s n g.0 in
      small_level (suc (largest (map depth_of (tests es)))) (Why-F.Logic truth of) (ap sound_why_step (mapped is_sound_why truth of) ∙ all.sound)
      (subst (All IsName) (sym (ap names_step (mapped why_names truth of))) all.named)
      (subst (λ k. k ≤ suc (largest (map depth_of (tests es)))) (sym (ap levels_step (mapped levels truth of))) (omega (arith, all.small)))
  logic_small operator negate es (Why-F.Pair truth fact item) s n g = absurd g
  logic_small operator negate es (Why-F.Plain truth) s n g = absurd g

  -- lemma: a good certificate has this property (`IsSmall`) if its top level is good and this implies the property
  lifted : (y : Test-F Test) (w : Why) (most : ℕ) → depth_step (map-Test Test ℕ depth_of y) ≡ most
      → (good_step rows mode Test (λ t. t) (GoodFor rows mode) y w → IsSmall most (roll-Why (out-Why w)))
      → GoodFor rows mode (roll-Test y) w → IsSmall (depth_of (roll-Test y)) w
  lifted y w most deep small g =
      subst (λ n. IsSmall n w) (sym (fold-roll-Test ℕ depth_step y ∙ deep))
      (subst (IsSmall most) (roll-out-Why w) (small (subst (λ (G : Type 0). G) (good-level rows mode y w) g)))

  rolled : (y : Test-F Shown) → Small (roll-Test (map-Test Shown Test (λ e. e.0) y))
  rolled (Test-F.Logic operator negate es) s n w =
      let y : Test-F Test = Test-F.Logic operator negate (tests es) in
      let parts = and_parts (nat_lt 0 (length (map is_sound_test (tests es)))) (list_all (λ b. b) (map is_sound_test (tests es)))
      (sym (fold-roll-Test Bool sound_test_step y) ∙ s) in
      lifted y w (suc (largest (map depth_of (tests es)))) refl
      (logic_small operator negate es (out-Why w) parts.1 (subst (All IsName) (fold-roll-Test (List Values) fact_names_step y) n))
  rolled (Test-F.Fact name) s n w =
      let y : Test-F Test = Test-F.Fact name in
      let named = subst (All IsName) (fold-roll-Test (List Values) fact_names_step y) n in
      lifted y w 0 refl (fact_small name (out-Why w) (sym (fold-roll-Test Bool sound_test_step y) ∙ s, All-head IsName name [] named))
  rolled (Test-F.Check key) s n w = lifted (Test-F.Check key) w 0 refl (check_small key (out-Why w))

  pub small : (t : Test) → Small t
  small = ind-Test Small (λ x y is. subst (λ z. Small (roll-Test z)) is (rolled y))

-- ---- a statement

module _ (rows : Rows) (lawful : IsLawful rows) (s : Statement) (there : Among rows.statements s) (w : Why) (good : Good rows s w) where
  statement_parts : (is_id s.id ≡ true) × (is_statement_test s.test ≡ true)
  statement_parts = and_parts (is_id s.id) (is_statement_test s.test) (all_among is_lawful_statement rows.statements s lawful.lawful_statements there)

  test_parts : (nat_le (depth_of s.test) MOST_LEVELS ≡ true) × (is_sound_test s.test ≡ true)
  test_parts =
      let p = and_parts (is_logic (out-Test s.test) && nat_le (depth_of s.test) MOST_LEVELS) (is_sound_test s.test) statement_parts.1 in
      ((and_parts (is_logic (out-Test s.test)) (nat_le (depth_of s.test) MOST_LEVELS) p.0).1, p.1)

  it_is_small : IsSmall rows lawful s.mode (depth_of s.test) w
  it_is_small = small rows lawful s.mode s.test test_parts.1 (each_among IsFormedStatement rows.statements s lawful.formed.statements there) w good

  shallow : (n m : ℕ) → n ≤ m → nat_le m 32 ≡ true → nat_le n 32 ≡ true
  shallow n m h k = grind (arith, nat_tests)

  pub good_is_formed : is_formed (record { id = s.id; why = w }) ≡ true
  good_is_formed =
      let it = it_is_small in
      and_from (is_id s.id) (nat_le (levels w) MOST_LEVELS && is_sound_why w) statement_parts.0
      (and_from (nat_le (levels w) MOST_LEVELS) (is_sound_why w) (shallow (levels w) (depth_of s.test) it.small test_parts.0) it.sound)

  pub good_has_names : HasNames w
  good_has_names = it_is_small.named
