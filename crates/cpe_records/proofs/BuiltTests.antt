-- Lemmas: each name and each key of a check in a test was read from the record.
use Rattle.std.proofs.Common.{◌≡◌, ℕ, ◌+◌, List, [], ◌∷◌, ◌++◌, Bool, true, false, map, nat_le, Option, Some, None, IfSome, if◌then◌else◌, codes, sym, ap, ◌∙◌, subst}
use Rattle.std.specs.Prelude.{Result, Ok, Err, IfOk, is_some}
use Rattle.std.specs.List.{AllByRecursion, flat_map}
use Rattle.std.specs.Ordering.{nat_cmp, match_ordering}
use Rattle.std.specs.declared.cmp.Ordering.{Ordering}
use Rattle.std.specs.declared.cmp.Ordering.TheVariants.{Less, Equal, Greater}
use Rattle.std.specs.Cmp.Lexicographic.{slice_cmp}
use Rattle.std.proofs.lemmas.List.Folds.{flat_map-map}
use Rattle.serde_json.specs.Data.{Data, null, boolean, number, string, array, object, Items, no_items, item, Members, no_members, member}
use Rattle.serde_json.specs.Find.{get_member, get}
use Rattle.cpe_rows.specs.cpe_name.Eleven.{Values}
use Rattle.cpe_rows.specs.cpe_name.Names.{IsName}
use Rattle.cpe_rows.specs.declared.limits.TheConstants.{MOST_LEVELS}
use Rattle.cpe_rows.specs.declared.test.CheckKey.{CheckKey}
use Rattle.cpe_rows.specs.declared.test.Operator.{Operator}
use Rattle.cpe_rows.specs.declared.test.Test as test
use Rattle.cpe_records.specs.Forms.{required_member, member_at, flag_or_false}
use Rattle.cpe_records.specs.Keys.{key_of}
use Rattle.cpe_records.specs.Names.{name_of_data, at_spot}
use Rattle.cpe_records.specs.Tests.{operator_in, key_in, logic_in, leaf_by, leaf_read, draft_of, children_in, drafts_in, drafts_of, is_logic_test, draft_depth, within_test_limit, in_turn, name_step, names_from, test_in, test_at}
use Rattle.cpe_records.specs.declared.draft.Draft.{Draft, Logic, Fact, Check}
use Rattle.cpe_records.specs.declared.draft.Draft.TheOpen.{Draft-F}
use Rattle.cpe_records.specs.declared.draft.Draft.TheViews.{roll-Draft}
use Rattle.cpe_records.specs.declared.draft.Draft.TheVariants.{rolls-Logic, rolls-Fact, rolls-Check}
use Rattle.cpe_records.specs.declared.draft.Draft.TheFolds.{fold-Draft, fold-roll-Draft, ind-Draft, map-Draft}
use Rattle.cpe_records.specs.declared.format.Format.{Format}
use Rattle.cpe_records.specs.declared.member.Member.TheVariants as part
use Rattle.cpe_records.specs.declared.member.NameSpot.TheVariants as spot
use Rattle.cpe_records.specs.declared.member.NotName.{NotName}
use Rattle.cpe_records.specs.declared.member.RecordFault.{RecordFault}
use Rattle.cpe_records.specs.declared.member.RecordFault.TheVariants as fault
use Rattle.cpe_records.proofs.InTurn.{names_from-logic}
use Rattle.cpe_records.proofs.NamesRead.{IsNamed, name_in_named, at_spot_named}
use Rattle.cpe_records.proofs.ReadLemmas.{then_if, behind_if, required_if}

-- ---- lists of lists

pub all_joined : {A : Type 0} (P : A → Type 0) (xs ys : List A) → AllByRecursion P xs → AllByRecursion P ys → AllByRecursion P (xs ++ ys)
all_joined P [] ys h k = k
all_joined P (x ∷ xs) ys h k = (h.0, all_joined P xs ys h.1 k)

parts_of : {A : Type 0} (P : A → Type 0) (xs ys : List A) → AllByRecursion P (xs ++ ys) → AllByRecursion P xs × AllByRecursion P ys
parts_of P [] ys h = (tt, h)
parts_of P (x ∷ xs) ys h = let rest = parts_of P xs ys h.1 in ((h.0, rest.0), rest.1)

-- ---- drafts

abbrev names_in_step : Draft-F (List (Result Values NotName)) → List (Result Values NotName)
names_in_step (Draft-F.Logic operator negate of) = flat_map (λ names. names) of
names_in_step (Draft-F.Fact name) = name ∷ []
names_in_step (Draft-F.Check key) = []

abbrev names_in : Draft → List (Result Values NotName)
names_in = fold-Draft (List (Result Values NotName)) names_in_step

abbrev keys_in_step : Draft-F (List CheckKey) → List CheckKey
keys_in_step (Draft-F.Logic operator negate of) = flat_map (λ keys. keys) of
keys_in_step (Draft-F.Fact name) = []
keys_in_step (Draft-F.Check key) = key ∷ []

abbrev keys_in : Draft → List CheckKey
keys_in = fold-Draft (List CheckKey) keys_in_step

names_in-logic : (o : Operator) (b : Bool) (of : List Draft) → names_in (Logic o b of) ≡ flat_map names_in of
names_in-logic o b of = ap names_in (sym (rolls-Logic o b of)) ∙ (fold-roll-Draft (List (Result Values NotName)) names_in_step (Draft-F.Logic o b of) ∙ flat_map-map (λ names. names) names_in of)

names_in-fact : (name : Result Values NotName) → names_in (Fact name) ≡ name ∷ []
names_in-fact name = ap names_in (sym (rolls-Fact name)) ∙ fold-roll-Draft (List (Result Values NotName)) names_in_step (Draft-F.Fact name)

names_in-check : (key : CheckKey) → names_in (Check key) ≡ []
names_in-check key = ap names_in (sym (rolls-Check key)) ∙ fold-roll-Draft (List (Result Values NotName)) names_in_step (Draft-F.Check key)

keys_in-logic : (o : Operator) (b : Bool) (of : List Draft) → keys_in (Logic o b of) ≡ flat_map keys_in of
keys_in-logic o b of = ap keys_in (sym (rolls-Logic o b of)) ∙ (fold-roll-Draft (List CheckKey) keys_in_step (Draft-F.Logic o b of) ∙ flat_map-map (λ keys. keys) keys_in of)

keys_in-fact : (name : Result Values NotName) → keys_in (Fact name) ≡ []
keys_in-fact name = ap keys_in (sym (rolls-Fact name)) ∙ fold-roll-Draft (List CheckKey) keys_in_step (Draft-F.Fact name)

keys_in-check : (key : CheckKey) → keys_in (Check key) ≡ key ∷ []
keys_in-check key = ap keys_in (sym (rolls-Check key)) ∙ fold-roll-Draft (List CheckKey) keys_in_step (Draft-F.Check key)

-- Three properties are related here. A property of values passes to the values inside them. It implies a property of
-- the keys of checks that are read from such values. A property of tests is true of all tests that are built from names
-- and such keys.
module _ (Of : Data → Type 0) (OfItems : Items → Type 0) (OfMembers : Members → Type 0) (in_array : (ds : Items) → Of (array ds) → OfItems ds) (in_object : (ms : Members) → Of (object ms) → OfMembers ms)
    (in_items : (d : Data) (ds : Items) → OfItems (item d ds) → Of d × OfItems ds) (in_members : (k : List ℕ) (d : Data) (ms : Members) → OfMembers (member k d ms) → Of d × OfMembers ms)
    (IsKey : CheckKey → Type 0) (key_is : (d : Data) → Of d → IfOk (key_in d) IsKey)
    (Built : test.Test → Type 0) (of_logic : (o : Operator) (b : Bool) (ts : List test.Test) → AllByRecursion Built ts → Built (test.Logic o b ts))
    (of_fact : (w : Values) → IsName w → Built (test.Fact w)) (of_check : (key : CheckKey) → IsKey key → Built (test.Check key)) where
  -- each name of the draft is well-formed, and each key of a check has its property
  abbrev IsWhole : Draft → Type 0
  IsWhole d = AllByRecursion IsNamed (names_in d) × AllByRecursion IsKey (keys_in d)

  joined_names : (ds : List Draft) → AllByRecursion IsWhole ds → AllByRecursion IsNamed (flat_map names_in ds)
  joined_names [] h = tt
  joined_names (d ∷ ds) h = all_joined IsNamed (names_in d) (flat_map names_in ds) h.0.0 (joined_names ds h.1)

  joined_keys : (ds : List Draft) → AllByRecursion IsWhole ds → AllByRecursion IsKey (flat_map keys_in ds)
  joined_keys [] h = tt
  joined_keys (d ∷ ds) h = all_joined IsKey (keys_in d) (flat_map keys_in ds) h.0.1 (joined_keys ds h.1)

  logic_whole : (o : Operator) (b : Bool) (ds : List Draft) → AllByRecursion IsWhole ds → IsWhole (Logic o b ds)
  logic_whole o b ds h = (
    subst (AllByRecursion IsNamed) (sym (names_in-logic o b ds)) (joined_names ds h),
    subst (AllByRecursion IsKey) (sym (keys_in-logic o b ds)) (joined_keys ds h),
  )

  fact_whole : (name : Result Values NotName) → IsNamed name → IsWhole (Fact name)
  fact_whole name h = (
    subst (AllByRecursion IsNamed) (sym (names_in-fact name)) (h, tt),
    subst (AllByRecursion IsKey) (sym (keys_in-fact name)) tt,
  )

  check_whole : (key : CheckKey) → IsKey key → IsWhole (Check key)
  check_whole key h = (
    subst (AllByRecursion IsNamed) (sym (names_in-check key)) tt,
    subst (AllByRecursion IsKey) (sym (keys_in-check key)) (h, tt),
  )

  -- ---- how drafts are read

  members_have : (k : List ℕ) (ms : Members) → OfMembers ms → IfSome (get_member k ms) Of
  members_have k no_members h = tt
  members_have k (member l e ms) h = by (in_members l e ms h).0 (members_have k ms (in_members l e ms h).1) (slice_cmp nat_cmp k l) where
    by : Of e → IfSome (get_member k ms) Of → (o : Ordering) → IfSome (match_ordering o (get_member k ms) (Some e) (get_member k ms)) Of
    by here more Less = more
    by here more Equal = here
    by here more Greater = more

  get_has : (k : List ℕ) (d : Data) → Of d → IfSome (get k d) Of
  get_has k null h = tt
  get_has k (boolean b) h = tt
  get_has k (number n) h = tt
  get_has k (string s) h = tt
  get_has k (array ds) h = tt
  get_has k (object ms) h = members_have k ms (in_object ms h)

  logic_is : (d : Data) (r : Result (List Draft) RecordFault) → IfOk r (AllByRecursion IsWhole) → IfOk (logic_in d r) IsWhole
  unfolding logic_in
  logic_is d (Err e) h = tt
  logic_is d (Ok []) h = tt
  logic_is d (Ok (x ∷ xs)) h =
      behind_if IsWhole (operator_in d) _ (λ o. behind_if IsWhole (flag_or_false part.Test (codes "negate") d) _ (λ b. logic_whole o b (x ∷ xs) h))

  leaf_is : (f : Format) (fact check : Option Data) → IfSome check Of → IfOk (leaf_by f fact check) IsWhole
  leaf_is f (Some fact) check h = then_if IsNamed IsWhole (required_member part.Test (name_of_data f fact)) _ (required_if IsNamed part.Test (name_of_data f fact) (name_in_named f fact)) fact_whole
  leaf_is f None (Some check) h = then_if IsKey IsWhole (key_in check) _ (key_is check h) check_whole
  leaf_is f None None h = tt

  by_is : (f : Format) (d : Data) → Of d → (op : Bool) (r : Result (List Draft) RecordFault) → IfOk r (AllByRecursion IsWhole) → IfOk (if op then logic_in d r else leaf_read f d) IsWhole
  by_is f d h true r k = logic_is d r k
  by_is f d h false r k = leaf_is f (get (codes "fact") d) (get (codes "check") d) (get_has (codes "check") d h)

  chosen : (o : Ordering) (r s : Result (List Draft) RecordFault) → IfOk r (AllByRecursion IsWhole) → IfOk s (AllByRecursion IsWhole) → IfOk (match_ordering o r s r) (AllByRecursion IsWhole)
  chosen Less r s h k = h
  chosen Equal r s h k = k
  chosen Greater r s h k = h

  mutual
    draft_is : (f : Format) (d : Data) → Of d → IfOk (draft_of f d) IsWhole
    draft_is f null h = tt
    draft_is f (boolean b) h = tt
    draft_is f (number n) h = tt
    draft_is f (string s) h = tt
    draft_is f (array ds) h = tt
    draft_is f (object ms) h = by_is f (object ms) h (is_some (get (codes "op") (object ms))) (children_in f ms) (children_are f ms (in_object ms h))

    children_are : (f : Format) (ms : Members) → OfMembers ms → IfOk (children_in f ms) (AllByRecursion IsWhole)
    children_are f no_members h = tt
    children_are f (member k d ms) h = chosen (slice_cmp nat_cmp (codes "of") k) (children_in f ms) (drafts_in f d) (children_are f ms (in_members k d ms h).1) (drafts_in_are f d (in_members k d ms h).0)

    drafts_in_are : (f : Format) (d : Data) → Of d → IfOk (drafts_in f d) (AllByRecursion IsWhole)
    drafts_in_are f null h = tt
    drafts_in_are f (boolean b) h = tt
    drafts_in_are f (number n) h = tt
    drafts_in_are f (string s) h = tt
    drafts_in_are f (array ds) h = drafts_are f ds (in_array ds h)
    drafts_in_are f (object ms) h = tt

    drafts_are : (f : Format) (ds : Items) → OfItems ds → IfOk (drafts_of f ds) (AllByRecursion IsWhole)
    drafts_are f no_items h = tt
    drafts_are f (item d ds) h =
        then_if IsWhole (AllByRecursion IsWhole) (draft_of f d) _ (draft_is f d (in_items d ds h).0)
        (λ t one. then_if (AllByRecursion IsWhole) (AllByRecursion IsWhole) (drafts_of f ds) _ (drafts_are f ds (in_items d ds h).1) (λ ts more. (one, more)))

  abbrev Reads : Draft → Type 0
  Reads d = (n : ℕ) → IsWhole d → IfOk (names_from d n) (λ r. Built r.0)

  abbrev Shown : Type 0
  Shown = (d : Draft) × Reads d

  abbrev drafts : List Shown → List Draft
  drafts es = map (λ e. e.0) es

  abbrev TestsAre : List test.Test × ℕ → Type 0
  TestsAre r = AllByRecursion Built r.0

  turns : (es : List Shown) (n : ℕ) → AllByRecursion IsWhole (drafts es) → IfOk (in_turn (map names_from (drafts es)) n) TestsAre
  turns [] n h = tt
  turns (e ∷ es) n h =
      then_if (λ r. Built r.0) TestsAre (names_from e.0 n) _ (e.1 n h.0)
      (λ x one. then_if TestsAre TestsAre (in_turn (map names_from (drafts es)) x.1) (λ xs. Ok (x.0 ∷ xs.0, xs.1)) (turns es x.1 h.1) (λ xs more. (one, more)))

  -- lemma: `IsWhole` is true of the children, if it is true of all their names and keys
  children_whole : (ds : List Draft) → AllByRecursion IsNamed (flat_map names_in ds) → AllByRecursion IsKey (flat_map keys_in ds) → AllByRecursion IsWhole ds
  children_whole [] names keys = tt
  children_whole (d ∷ ds) names keys =
      let n = parts_of IsNamed (names_in d) (flat_map names_in ds) names in
      let k = parts_of IsKey (keys_in d) (flat_map keys_in ds) keys in
      ((n.0, k.0), children_whole ds n.1 k.1)

  logic_reads : (o : Operator) (b : Bool) (es : List Shown) → Reads (Logic o b (drafts es))
  logic_reads o b es n whole =
      let ds = drafts es in
      let all = children_whole ds (subst (AllByRecursion IsNamed) (names_in-logic o b ds) whole.0) (subst (AllByRecursion IsKey) (keys_in-logic o b ds) whole.1) in
      subst (λ r. IfOk r (λ x. Built x.0)) (sym (names_from-logic o b ds n))
      (then_if TestsAre (λ x. Built x.0) (in_turn (map names_from ds) n) (λ r. Ok (test.Logic o b r.0, r.1)) (turns es n all) (λ r h. of_logic o b r.0 h))

  abbrev Namer : Type 0
  Namer = ℕ → Result (test.Test × ℕ) RecordFault

  fact_reads : (name : Result Values NotName) → Reads (Fact name)
  fact_reads name n whole =
      let h = (subst (AllByRecursion IsNamed) (names_in-fact name) whole.0).0 in
      subst (λ r. IfOk r (λ x. Built x.0))
      (sym (ap (λ d. names_from d n) (sym (rolls-Fact name)) ∙ ap (λ (f : Namer). f n) (fold-roll-Draft Namer name_step (Draft-F.Fact name))))
      (then_if IsName (λ x. Built x.0) (at_spot (spot.Fact n) name) (λ w. Ok (test.Fact w, n + 1)) (at_spot_named (spot.Fact n) name h) of_fact)

  check_reads : (key : CheckKey) → Reads (Check key)
  check_reads key n whole =
      let h = (subst (AllByRecursion IsKey) (keys_in-check key) whole.1).0 in
      subst (λ r. IfOk r (λ x. Built x.0))
      (sym (ap (λ d. names_from d n) (sym (rolls-Check key)) ∙ ap (λ (f : Namer). f n) (fold-roll-Draft Namer name_step (Draft-F.Check key))))
      (of_check key h)

  rolled : (y : Draft-F Shown) → Reads (roll-Draft (map-Draft Shown Draft (λ e. e.0) y))
  rolled (Draft-F.Logic o b es) = subst Reads (sym (rolls-Logic o b (drafts es))) (logic_reads o b es)
  rolled (Draft-F.Fact name) = subst Reads (sym (rolls-Fact name)) (fact_reads name)
  rolled (Draft-F.Check key) = subst Reads (sym (rolls-Check key)) (check_reads key)

  reads : (d : Draft) → Reads d
  reads = ind-Draft Reads (λ x y is. subst (λ z. Reads (roll-Draft z)) is (rolled y))

  -- ---- the whole test

  within_is : (d : Draft) → IsWhole d → IfOk (within_test_limit d) IsWhole
  within_is d h = by (nat_le (draft_depth d) MOST_LEVELS) where
    by : (b : Bool) → IfOk (if b then Ok d else Err fault.TooDeep) IsWhole
    by true = h
    by false = tt

  logic_there : (d : Data) → Of d → IfOk (is_logic_test d) Of
  logic_there d h = by (is_some (get (codes "op") d)) where
    by : (b : Bool) → IfOk (if b then Ok d else Err (fault.Member part.Test)) Of
    by true = h
    by false = tt

  test_in_is : (f : Format) (d : Data) → Of d → IfOk (test_in f d) Built
  unfolding test_in
  test_in_is f d h =
      then_if Of Built (is_logic_test d) _ (logic_there d h)
      (λ l has. then_if IsWhole Built (draft_of f l) _ (draft_is f l has)
      (λ t whole. then_if IsWhole Built (within_test_limit t) _ (within_is t whole)
      (λ s shallow. then_if (λ r. Built r.0) Built (names_from s 1) (λ r. Ok r.0) (reads s 1 shallow) (λ r k. k))))

  pub test_built : (f : Format) (d : Data) → Of d → IfOk (test_at f d) Built
  test_built f d h =
      then_if Of Built (required_member part.Test (member_at part.Test d)) (test_in f) (required_if Of part.Test (member_at part.Test d) (get_has (key_of part.Test) d h)) (test_in_is f)
