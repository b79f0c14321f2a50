-- The items that lead to ends which pass are those of which an end passes.
use Rattle.std.proofs.Common.{◌≡◌, ◌≤◌, ◌+◌, ℕ, zero, suc, Bool, true, false, not, cond, ◌||◌, ◌&&◌, List, [], ◌∷◌, count_by, filter, Option, Some, None, refl, sym, ap, subst, ◌∙◌, inl, inr, arith, eq-eqb}
use Rattle.std.specs.Prelude.{IsSome, is_none, nat_eq, nat_lt}
use Rattle.std.specs.Cmp.{both_ways}
use Rattle.std.specs.List.{flat_map, list_any, sum_by}
use Rattle.std.proofs.lemmas.Bool.{and_parts, not-true, or_cases, or_left, or_right, true≢false}
use Rattle.std.proofs.lemmas.List.Folds.{list_any-append}
use Rattle.std.proofs.lemmas.List.Sums.{sum_by-cons}
use Rattle.std.specs.Cmp.Derive.{both_true}
use Rattle.name_index.specs.Elements.{SameElements}
use Rattle.name_index.proofs.Sums.{filter_same}
use Rattle.name_index.proofs.Postings.{sum_map}
use Rattle.cpe_rows.specs.cpe_name.Eleven.{Values}
use Rattle.cpe_rows.specs.cpe_name.Equal.{same_name}
use Rattle.cpe_rows.specs.Chains.{chain, ends, is_active, leads_to}
use Rattle.cpe_rows.specs.Lawful.{are_different, IsLawful}
use Rattle.cpe_rows.specs.Names.{is_same}
use Rattle.cpe_rows.specs.Rows.{is_named, Rows}
use Rattle.cpe_rows.specs.declared.entry.Entry.{Entry}
use Rattle.cpe_rows.specs.declared.statement.Mode.{Mode}
use Rattle.cpe_rows.specs.declared.statement.Mode.TheVariants.{Plain, Follow}
use Rattle.cpe_rows.proofs.NameTests.{same_is}
use Rattle.name_index.specs.Index.{ids, name_id, times_held}
use Rattle.name_index.specs.Table.{IsNameTable, find_kept, Kept, Names, kept_at}
use Rattle.name_index.specs.declared.table.NameId.{NameId}
use Rattle.name_index.specs.declared.products.Side.TheVariants as side
use Rattle.facts.specs.level_board.Targets.{is_met}
use Rattle.cpe_rows.specs.cpe_values.declared.value.Value.{Value}
use Rattle.facts.specs.fact_laws.Shown.{different, meets_on, names_at, names_in, near_names, one_if_some, Shows, times_named}
use Rattle.facts.proofs.fact_laws.Different.{counts_same, held_different, near_different, one_once, one_some}
use Rattle.facts.proofs.fact_laws.Sources.{apart_once}
use Rattle.facts.specs.level_board.Board.{Board, AreHeldIds, target_ids, target_times}
use Rattle.facts.specs.fact_laws.Asked.{entry_names, leads, source_names, target_names}
use Rattle.facts.proofs.fact_laws.Counted.{same_test}
use Rattle.facts.proofs.fact_laws.Facts.{any_same}
use Rattle.name_registry.specs.Registered.{items_leading, PutsItemsInOrder, Registered}
use Rattle.fact_boards.specs.Kept.{AreFactNames, board_of_mode, Boards}
use Rattle.verdicts.specs.Items.{AreItemsTo, ArePassing, items_of_fact}
use Rattle.verdicts.proofs.UnledLemmas.{AreActive, none_active, own_end}

-- ---- lists that have a name

module _ {A : Type 0} (q : A → Bool) where
  -- some element of many lists passes if one of the lists has one that does
  any_flat : {B : Type 0} (g : B → List A) (xs : List B) → list_any q (flat_map g xs) ≡ list_any (λ x. list_any q (g x)) xs
  any_flat g [] = refl
  any_flat g (x ∷ xs) = list_any-append q (g x) (flat_map g xs) ∙ ap (λ (b : Bool). list_any q (g x) || b) (any_flat g xs)

  any_filter : (p : A → Bool) (xs : List A) → list_any q (filter p xs) ≡ list_any (λ x. p x && q x) xs
  any_filter p [] = refl
  any_filter p (x ∷ xs) = by (p x) (any_filter p xs)
    where
      by : (b : Bool) → list_any q (filter p xs) ≡ list_any (λ y. p y && q y) xs → list_any q (cond b (x ∷ filter p xs) (filter p xs)) ≡ ((b && q x) || list_any (λ y. p y && q y) xs)
      by true later = ap (λ (b : Bool). q x || b) later
      by false later = later

-- the list has the name
abbrev Has : Values → List Values → Type 0
Has n list = list_any (is_same n) list ≡ true

-- some name of a list passes exactly if the list has a name that passes
some : (q : Values → Bool) (list : List Values) → list_any q list ≡ true → (n : Values) × (q n ≡ true) × Has n list
some q [] h = absurd (true≢false (sym h))
some q (x ∷ list) h = elim (or_cases (q x) (list_any q list) h) [
  | inl here ↦ (x, here, or_left (is_same x x) (list_any (is_same x) list) ((same_is x x).1 refl))
  | inr later ↦ let found = some q list later in (found.0, found.1, or_right (is_same found.0 x) (list_any (is_same found.0) list) found.2)
]

passes : (q : Values → Bool) (n : Values) (list : List Values) → q n ≡ true → Has n list → list_any q list ≡ true
passes q n [] t h = absurd (true≢false (sym h))
passes q n (x ∷ list) t h = elim (or_cases (is_same n x) (list_any (is_same n) list) h) [
  | inl here ↦ or_left (q x) (list_any q list) (ap q (sym ((same_is n x).0 here)) ∙ t)
  | inr later ↦ or_right (q x) (list_any q list) (passes q n list t later)
]

-- it is the same to have each name once
any_different : (q : Values → Bool) (list : List Values) → list_any q (different list) ≡ list_any q list
any_different q [] = refl
any_different q (x ∷ list) = by (list_any (same_name x) list) refl (any_different q list)
  where
    among : list_any (same_name x) list ≡ true → q x ≡ true → list_any q list ≡ true
    among has t = passes q x list t (ap (λ (p : Values → Bool). list_any p list) (λ j y. same_test x y j) ∙ has)

    same : (b : Bool) → q x ≡ b → list_any (same_name x) list ≡ true → list_any q list ≡ (b || list_any q list)
    same true t has = among has t
    same false t has = refl

    by : (b : Bool) → list_any (same_name x) list ≡ b → list_any q (different list) ≡ list_any q list → list_any q (cond b (different list) (x ∷ different list)) ≡ (q x || list_any q list)
    by true has later = later ∙ same (q x) refl has
    by false has later = ap (λ (b : Bool). q x || b) later

-- ---- what leads to an end

named_map : (n : Values) (es : List Entry) → list_any (is_same n) (entry_names es) ≡ list_any (is_named n) es
named_map n [] = refl
named_map n (e ∷ es) = ap (λ (b : Bool). is_same n e.name || b) (named_map n es)

kept_any : (q p : Entry → Bool) (es : List Entry) → list_any q (filter p es) ≡ true → list_any q es ≡ true
kept_any q p [] h = h
kept_any q p (e ∷ es) h = by (p e) h (kept_any q p es)
  where
    by : (b : Bool) → list_any q (cond b (e ∷ filter p es) (filter p es)) ≡ true → (list_any q (filter p es) ≡ true → list_any q es ≡ true) → (q e || list_any q es) ≡ true
    by true at rest = elim (or_cases (q e) (list_any q (filter p es)) at) [ inl here ↦ or_left (q e) (list_any q es) here | inr later ↦ or_right (q e) (list_any q es) (rest later) ]
    by false at rest = or_right (q e) (list_any q es) (rest at)

-- an entry that is an end of some name is active, since names differ
among_active : (n : Values) (p : Entry → Bool) (es : List Entry) → are_different (λ (e : Entry). is_named e.name) es ≡ true → list_any (is_named n) (filter is_active (filter p es)) ≡ true → AreActive n es
among_active n p [] differ among = tt
among_active n p (e ∷ es) differ among = by (is_named n e) refl (among_active n p es)
  where
    parts : (not (list_any (is_named e.name) es) ≡ true) × (are_different (λ (x : Entry). is_named x.name) es ≡ true)
    parts = and_parts (not (list_any (is_named e.name) es)) (are_different (λ (x : Entry). is_named x.name) es) differ

    rest : list_any (is_named n) (filter is_active (filter p es)) ≡ true → list_any (is_named n) es ≡ true
    rest h = kept_any (is_named n) p es (kept_any (is_named n) is_active (filter p es) h)

    first : (a b : Bool) → p e ≡ a → is_active e ≡ b → list_any (is_named n) es ≡ false → list_any (is_named n) (filter is_active (cond a (e ∷ filter p es) (filter p es))) ≡ true → is_active e ≡ true
    first true true kept active none h = active
    first true false kept active none h =
        absurd (true≢false (sym (rest (sym (ap (λ (b : Bool). list_any (is_named n) (cond b (e ∷ filter is_active (filter p es)) (filter is_active (filter p es)))) active) ∙ h)) ∙ none))
    first false b kept active none h = absurd (true≢false (sym (rest h) ∙ none))

    later : (a b : Bool) → is_named n e ≡ false → list_any (is_named n) (filter is_active (cond a (e ∷ filter p es) (filter p es))) ≡ true → is_active e ≡ b → list_any (is_named n) (filter is_active (filter p es)) ≡ true
    later true true other h active = or_rest (sym (ap (λ (b : Bool). list_any (is_named n) (cond b (e ∷ filter is_active (filter p es)) (filter is_active (filter p es)))) active) ∙ h)
      where
        or_rest : (is_named n e || list_any (is_named n) (filter is_active (filter p es))) ≡ true → list_any (is_named n) (filter is_active (filter p es)) ≡ true
        or_rest o = sym (ap (λ (b : Bool). b || list_any (is_named n) (filter is_active (filter p es))) other) ∙ o
    later true false other h active = sym (ap (λ (b : Bool). list_any (is_named n) (cond b (e ∷ filter is_active (filter p es)) (filter is_active (filter p es)))) active) ∙ h
    later false b other h active = h

    by : (b : Bool) → is_named n e ≡ b → (are_different (λ (x : Entry). is_named x.name) es ≡ true → list_any (is_named n) (filter is_active (filter p es)) ≡ true → AreActive n es) → AreActive n (e ∷ es)
    by true is step =
        let none : list_any (is_named n) es ≡ false = ap (λ (m : Values). list_any (is_named m) es) ((same_is n e.name).0 is) ∙ not-true (list_any (is_named e.name) es) parts.0 in
        ((λ t. first (p e) (is_active e) refl refl none among), none_active n es none)
    by false is step = ((λ t. absurd (true≢false (sym t ∙ is))), step parts.1 (later (p e) (is_active e) is among refl))

module _ (es : List Entry) (differ : are_different (λ (e : Entry). is_named e.name) es ≡ true) where
  -- the ends of a name that is an entry, and of one that is none
  entry_end : (i f : Values) → list_any (is_named i) es ≡ true → Has f (ends es i) → Has f (entry_names (filter is_active (chain es i)))
  entry_end i f entry end = ap (λ (b : Bool). list_any (is_same f) (cond b (entry_names (filter is_active (chain es i))) (i ∷ []))) (sym entry) ∙ end

  other_end : (i f : Values) → list_any (is_named i) es ≡ false → Has f (ends es i) → f ≡ i
  other_end i f none end = elim (or_cases (is_same f i) false (ap (λ (b : Bool). list_any (is_same f) (cond b (entry_names (filter is_active (chain es i))) (i ∷ []))) (sym none) ∙ end)) [ inl same ↦ (same_is f i).0 same | inr never ↦ absurd cc ]

  -- an entry that is an end is active
  active_end : (i f : Values) → Has f (ends es i) → list_any (is_named f) es ≡ true → AreActive f es
  active_end i f end entry = by (list_any (is_named i) es) refl
    where
      by : (b : Bool) → list_any (is_named i) es ≡ b → AreActive f es
      by true is = among_active f _ es differ (sym (named_map f (filter is_active (chain es i))) ∙ entry_end i f is end)
      by false is = absurd (true≢false (sym entry ∙ (ap (λ (n : Values). list_any (is_named n) es) (other_end i f is end) ∙ is)))

  -- the names whose entries lead to an entry's, or the name alone
  abbrev sources : Values → List Values
  sources f = cond (list_any (is_named f) es) (source_names es f) (f ∷ [])

  source_leads : (i f : Values) (some_es : List Entry) → Has i (entry_names (filter (λ (e : Entry). leads_to es e.name f) some_es)) → leads_to es i f ≡ true
  source_leads i f [] h = absurd (true≢false (sym h))
  source_leads i f (e ∷ more) h = by (leads_to es e.name f) refl h (source_leads i f more)
    where
      by : (b : Bool) → leads_to es e.name f ≡ b → Has i (entry_names (cond b (e ∷ filter (λ (x : Entry). leads_to es x.name f) more) (filter (λ (x : Entry). leads_to es x.name f) more)))
          → (Has i (entry_names (filter (λ (x : Entry). leads_to es x.name f) more)) → leads_to es i f ≡ true) → leads_to es i f ≡ true
      by true led at step = elim (or_cases (is_same i e.name) (list_any (is_same i) (entry_names (filter (λ (x : Entry). leads_to es x.name f) more))) at) [
        | inl here ↦ ap (λ (n : Values). leads_to es n f) ((same_is i e.name).0 here) ∙ led
        | inr later ↦ step later
      ]
      by false led at step = step at

  leads_source : (i f : Values) (some_es : List Entry) → list_any (is_named i) some_es ≡ true → leads_to es i f ≡ true → Has i (entry_names (filter (λ (e : Entry). leads_to es e.name f) some_es))
  leads_source i f [] there_ led = absurd (true≢false (sym there_))
  leads_source i f (e ∷ more) there_ led = elim (or_cases (is_named i e) (list_any (is_named i) more) there_) [
    | inl here ↦
        subst (λ (b : Bool). Has i (entry_names (cond b (e ∷ filter (λ (x : Entry). leads_to es x.name f) more) (filter (λ (x : Entry). leads_to es x.name f) more))))
        (sym (ap (λ (n : Values). leads_to es n f) (sym ((same_is i e.name).0 here)) ∙ led))
        (or_left (is_same i e.name) (list_any (is_same i) (entry_names (filter (λ (x : Entry). leads_to es x.name f) more))) here)
    | inr later ↦ by (leads_to es e.name f) (leads_source i f more later led)
  ]
    where
      by : (b : Bool) → Has i (entry_names (filter (λ (x : Entry). leads_to es x.name f) more)) → Has i (entry_names (cond b (e ∷ filter (λ (x : Entry). leads_to es x.name f) more) (filter (λ (x : Entry). leads_to es x.name f) more)))
      by true h = or_right (is_same i e.name) (list_any (is_same i) (entry_names (filter (λ (x : Entry). leads_to es x.name f) more))) h
      by false h = h

  -- a name that is an end of some name is an end of exactly its sources
  end_of_source : (i f j : Values) → Has f (ends es j) → Has i (sources f) → Has f (ends es i)
  end_of_source i f j end source = by (list_any (is_named f) es) refl source
    where
      alone : i ≡ f → list_any (is_named i) es ≡ false → Has f (ends es i)
      alone is none = subst (λ (b : Bool). Has f (cond b (entry_names (filter is_active (chain es i))) (i ∷ []))) (sym none) (or_left (is_same f i) false ((same_is f i).1 (sym is)))

      by : (b : Bool) → list_any (is_named f) es ≡ b → Has i (cond b (source_names es f) (f ∷ [])) → Has f (ends es i)
      by true entry at = own_end es f i (active_end j f end entry) (source_leads i f es at)
      by false none at = elim (or_cases (is_same i f) false at) [
        | inl same ↦ let is = (same_is i f).0 same in alone is (ap (λ (n : Values). list_any (is_named n) es) is ∙ none)
        | inr never ↦ absurd cc
      ]

  source_of_end : (i f : Values) → Has f (ends es i) → Has i (sources f)
  source_of_end i f end = by (list_any (is_named i) es) refl
    where
      by : (b : Bool) → list_any (is_named i) es ≡ b → Has i (sources f)
      by true entry =
          let led = kept_any (is_named f) is_active (chain es i) (sym (named_map f (filter is_active (chain es i))) ∙ entry_end i f entry end) in
          subst (λ (b : Bool). Has i (cond b (source_names es f) (f ∷ []))) (sym (kept_any (is_named f) _ es led)) (leads_source i f es entry led)
      by false none =
          let is = other_end i f none end in
          subst (λ (b : Bool). Has i (cond b (source_names es f) (f ∷ []))) (sym (ap (λ (n : Values). list_any (is_named n) es) is ∙ none)) (or_left (is_same i f) false ((same_is i f).1 (sym is)))

  -- ---- so the items that lead to ends which pass

  module _ (items : List Values) (p : Values → Bool) (found : List Values) (same : SameElements (filter p (different (flat_map (ends es) items))) found) where
    -- the found names are the ends that pass
    found_is : (n : Values) → list_any (is_same n) found ≡ list_any (λ f. p f && is_same n f) (flat_map (ends es) items)
    found_is n = sym (any_same (is_same n) (filter p (different (flat_map (ends es) items))) found same) ∙ any_filter (is_same n) p (different (flat_map (ends es) items)) ∙ any_different (λ f. p f && is_same n f) (flat_map (ends es) items)

    led : (n : Values) → list_any (is_same n) items ≡ true → list_any (is_same n) (flat_map (items_leading es items) found) ≡ list_any p (ends es n)
    led n item = both_ways (list_any (is_same n) (flat_map (items_leading es items) found)) (list_any p (ends es n)) there_is is_there
      where
        there_is : list_any (is_same n) (flat_map (items_leading es items) found) ≡ true → list_any p (ends es n) ≡ true
        there_is h =
            let w = some (λ f. list_any (is_same n) (items_leading es items f)) found (sym (any_flat (is_same n) (items_leading es items) found) ∙ h) in
            let f = w.0 in
            let v = some (λ x. p x && is_same f x) (flat_map (ends es) items) (sym (found_is f) ∙ w.2) in
            let both = and_parts (p v.0) (is_same f v.0) v.1 in
            let is = (same_is f v.0).0 both.1 in
            let j = some (λ x. list_any (is_same v.0) (ends es x)) items (sym (any_flat (is_same v.0) (ends es) items) ∙ v.2) in
            let source = some (λ x. list_any (is_same x) items && is_same n x) (sources f) (sym (any_filter (is_same n) (λ x. list_any (is_same x) items) (sources f)) ∙ w.1) in
            let own = (same_is n source.0).0 (and_parts (list_any (is_same source.0) items) (is_same n source.0) source.1).1 in
            passes p f (ends es n) (ap p is ∙ both.0)
            (end_of_source n f j.0 (subst (λ (x : Values). Has x (ends es j.0)) (sym is) j.1) (subst (λ (x : Values). Has x (sources f)) (sym own) source.2))

        is_there : list_any p (ends es n) ≡ true → list_any (is_same n) (flat_map (items_leading es items) found) ≡ true
        is_there h =
            let w = some p (ends es n) h in
            let f = w.0 in
            let all : Has f (flat_map (ends es) items) = any_flat (is_same f) (ends es) items ∙ passes (λ x. list_any (is_same f) (ends es x)) n items w.2 item in
            let among : Has f found = found_is f ∙ passes (λ x. p x && is_same f x) f (flat_map (ends es) items) (both_true w.1 ((same_is f f).1 refl)) all in
            any_flat (is_same n) (items_leading es items) found
            ∙ passes (λ x. list_any (is_same n) (items_leading es items x)) f found
            (any_filter (is_same n) (λ x. list_any (is_same x) items) (sources f) ∙ passes (λ x. list_any (is_same x) items && is_same n x) n (sources f) (both_true item ((same_is n n).1 refl)) (source_of_end n f w.2))
            among

-- ---- in mode plain each item leads to itself

plain_there : (es : List Entry) (items : List Values) → flat_map (leads es Plain) items ≡ items
plain_there es [] = refl
plain_there es (n ∷ items) = ap (λ (ns : List Values). n ∷ ns) (plain_there es items)

-- each item is there once
each_once : (rows : Rows) → are_different is_same rows.items ≡ true → SameElements (different (target_names rows Plain)) rows.items
each_once rows differ = counts_same (different (target_names rows Plain)) rows.items
    (λ n. one_once n (target_names rows Plain) ∙ ap (λ (ns : List Values). one_if_some (times_named n ns)) (plain_there rows.entries rows.items) ∙ exact (times_named n rows.items) (apart_once n rows.items differ))
  where
    exact : (t : ℕ) → t ≤ 1 → one_if_some t ≡ t
    exact zero h = refl
    exact (suc t) h = omega (arith, h, one_some (suc t) (omega arith))

-- the items that pass are those that lead to a name that passes
led_plain : (items : List Values) (p : Values → Bool) (found : List Values) → SameElements (filter p items) found → (n : Values) → list_any (is_same n) items ≡ true → list_any (is_same n) found ≡ list_any p (n ∷ [])
led_plain items p found same n item =
    sym (any_same (is_same n) (filter p items) found same) ∙ any_filter (is_same n) p items ∙ both_ways (list_any (λ x. p x && is_same n x) items) (p n || false) is_there there_is
  where
    is_there : list_any (λ x. p x && is_same n x) items ≡ true → (p n || false) ≡ true
    is_there h =
        let x = some (λ x. p x && is_same n x) items h in
        let both = and_parts (p x.0) (is_same n x.0) x.1 in
        or_left (p n) false (ap p ((same_is n x.0).0 both.1) ∙ both.0)

    there_is : (p n || false) ≡ true → list_any (λ x. p x && is_same n x) items ≡ true
    there_is h = elim (or_cases (p n) false h) [ inl here ↦ passes (λ x. p x && is_same n x) n items (both_true here ((same_is n n).1 refl)) item | inr never ↦ absurd cc ]

-- so the items that lead in either mode to names that pass
pub led_in : (rows : Rows) (mode : Mode) (p : Values → Bool) (found : List Values) → IsLawful rows → SameElements (filter p (different (target_names rows mode))) found → AreItemsTo rows mode p (items_of_fact rows.entries rows.items mode found)
led_in rows Plain p found lawful same = led_plain rows.items p found (λ f. sym (filter_same p (different (target_names rows Plain)) rows.items (each_once rows lawful.items_differ) f) ∙ same f)
led_in rows Follow p found lawful same = led rows.entries lawful.dictionary.names_differ rows.items p found same

-- ---- names by their numbers

names_of_those : (names : Names) (p : Values → Bool) (held : List (ℕ × ℕ)) → names_at names (filter (λ (id : NameId). p (kept_at names id.0).name) (ids held)) ≡ filter p (names_in names held)
names_of_those names p [] = refl
names_of_those names p (x ∷ held) = by (p (kept_at names x.0).name) (names_of_those names p held)
  where
    by : (b : Bool) → names_at names (filter (λ (id : NameId). p (kept_at names id.0).name) (ids held)) ≡ filter p (names_in names held)
        → names_at names (cond b (name_id x.0 ∷ filter (λ (id : NameId). p (kept_at names id.0).name) (ids held)) (filter (λ (id : NameId). p (kept_at names id.0).name) (ids held)))
        ≡ cond b ((kept_at names x.0).name ∷ filter p (names_in names held)) (filter p (names_in names held))
    by true later = ap (λ (ns : List Values). (kept_at names x.0).name ∷ ns) later
    by false later = later

-- numbers found of a lent board are those of the board
pub passing_there : (shown table : Names) (lent boards : Boards) (mode : Mode) (p : Values → Bool) (found : List NameId) → shown ≡ table → lent ≡ boards → ArePassing shown (board_of_mode lent mode) p found → ArePassing table (board_of_mode boards mode) p found
passing_there shown table lent boards mode p found same same_boards met = subst (λ (t : Names). ArePassing t (board_of_mode boards mode) p found) same (subst (λ (b : Boards). ArePassing shown (board_of_mode b mode) p found) same_boards met)

-- the numbers found of a board's targets have those names of the list that pass
pub found_names : (names : Names) (board : Board) (list : List Values) (p : Values → Bool) (found : List NameId) → IsNameTable names → AreHeldIds board → Shows names (target_times board) list → ArePassing names board p found
    → SameElements (filter p (different list)) (names_at names found)
found_names names board list p found are on shows same f =
    sym (filter_same p (names_in names (target_ids board)) (different list) (held_different names (target_times board) list (target_ids board) are on.targets shows) f)
    ∙ ap (sum_by f) (sym (names_of_those names p (target_ids board)))
    ∙ sum_map f (λ (id : NameId). (kept_at names id.0).name) (filter (λ (id : NameId). p (kept_at names id.0).name) (ids (target_ids board)))
    ∙ same (λ (id : NameId). f (kept_at names id.0).name)
    ∙ sym (sum_map f (λ (id : NameId). (kept_at names id.0).name) found)

-- so numbers found of the plain board are those of the items that pass
module _ (names : Names) (board : Board) (rows : Rows) (are : IsNameTable names) (on : AreHeldIds board) (shows : Shows names (target_times board) (target_names rows Plain)) (differ : are_different is_same rows.items ≡ true) where
  pub items_passing : (p : Values → Bool) (found : List NameId) → ArePassing names board p found → SameElements (filter p rows.items) (names_at names found)
  items_passing p found met f = sym (filter_same p (different (target_names rows Plain)) rows.items (each_once rows differ) f) ∙ found_names names board (target_names rows Plain) p found are on shows met f

  -- and as many targets are met as items
  pub items_near : (asked : Value) → count_by (is_met names asked) (ids (target_ids board)) ≡ near_names side.Source asked rows.items
  items_near asked =
      near_different names (target_times board) (target_names rows Plain) (target_ids board) are on.targets shows side.Source asked
      ∙ each_once rows differ (λ (n : Values). cond (meets_on side.Source asked n.product) 1 0)

-- a registry puts them in order
pub items_ordered : (r : Registered) (rows : Rows) (p : Values → Bool) (found ids : List NameId) (items : List Values) → rows.items ≡ r.items → ids ≡ found → SameElements (filter p rows.items) (names_at r.table found) → PutsItemsInOrder r ids items → items ≡ filter p rows.items
items_ordered r rows p found ids items same are passing puts =
    puts p
    (subst (λ (all : List Values). SameElements (filter p all) (names_at r.table ids)) same
    (subst (λ (xs : List NameId). SameElements (filter p rows.items) (names_at r.table xs)) (sym are) passing))
    ∙ ap (filter p) (sym same)

-- numbers that were found are live
module _ (names : Names) where
  abbrev dead : NameId → Bool
  dead id = is_none (find_kept names id.0)

  some_dead : (q : NameId → Bool) (xs : List (ℕ × ℕ)) → list_any dead (filter q (ids xs)) ≡ true → (i : ℕ) × (find_kept names i ≡ None) × (1 ≤ times_held xs i)
  some_dead q [] h = absurd (true≢false (sym h))
  some_dead q (x ∷ xs) h = by (q (name_id x.0)) h (some_dead q xs)
    where
      first : (i : ℕ) → times_held (x ∷ xs) i ≡ cond (nat_eq i x.0) 1 0 + times_held xs i
      first i = sum_by-cons (λ (y : ℕ × ℕ). cond (nat_eq i y.0) 1 0) x xs

      later : (i : ℕ) × (find_kept names i ≡ None) × (1 ≤ times_held xs i) → (i : ℕ) × (find_kept names i ≡ None) × (1 ≤ times_held (x ∷ xs) i)
      later found = (found.0, found.1, omega (arith, first found.0, found.2))

      none_is : (o : Option Kept) → find_kept names x.0 ≡ o → is_none o ≡ true → find_kept names x.0 ≡ None
      none_is None e t = e
      none_is (Some k) e t = absurd (true≢false (sym t))

      by : (b : Bool) → list_any dead (cond b (name_id x.0 ∷ filter q (ids xs)) (filter q (ids xs))) ≡ true → (list_any dead (filter q (ids xs)) ≡ true → (i : ℕ) × (find_kept names i ≡ None) × (1 ≤ times_held xs i))
          → (i : ℕ) × (find_kept names i ≡ None) × (1 ≤ times_held (x ∷ xs) i)
      by true h step = elim (or_cases (dead (name_id x.0)) (list_any dead (filter q (ids xs))) h) [
        | inl here ↦ (x.0, none_is (find_kept names x.0) refl here, omega (arith, first x.0, ap {B = ℕ} (λ (b : Bool). cond b 1 0) (eq-eqb x.0 x.0 refl)))
        | inr rest ↦ later (step rest)
      ]
      by false h step = later (step h)

  all_live : (found : List NameId) → list_any dead found ≡ false → AreFactNames names found
  all_live [] h = tt
  all_live (x ∷ found) h = (is (find_kept names x.0) refl parts.0, all_live found parts.1)
    where
      split : (a b : Bool) → (a || b) ≡ false → (a ≡ false) × (b ≡ false)
      split true b e = absurd (true≢false e)
      split false b e = (refl, e)

      parts : (dead x ≡ false) × (list_any dead found ≡ false)
      parts = split (dead x) (list_any dead found) h

      is : (o : Option Kept) → find_kept names x.0 ≡ o → is_none o ≡ false → IsSome o
      is None e f = absurd (true≢false f)
      is (Some k) e f = refl

  pub found_live : (board : Board) (list : List Values) (q : NameId → Bool) (found : List NameId) → AreHeldIds board → Shows names (target_times board) list → SameElements (filter q (ids (target_ids board))) found → AreFactNames names found
  found_live board list q found on shows same = all_live found (sym (any_same dead (filter q (ids (target_ids board))) found same) ∙ by (list_any dead (filter q (ids (target_ids board)))) refl)
    where
      by : (b : Bool) → list_any dead (filter q (ids (target_ids board))) ≡ b → b ≡ false
      by true e =
          let found_ = some_dead q (target_ids board) e in
          absurd (omega (arith, found_.2, on.targets found_.0, ap {B = ℕ} (λ (n : ℕ). cond (nat_lt 0 n) 1 0) (shows.nowhere found_.0 found_.1)))
      by false e = refl
