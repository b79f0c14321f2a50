-- Lemmas: the numbers of the successors of deprecations that entries may have.
use Rattle.std.proofs.Common.{◌≡◌, ℕ, ◌+◌, Bool, true, false, if◌then◌else◌, is_none, ◌&&◌, List, [], ◌∷◌, ◌++◌, append_assoc, drop, length, map, nat_eq, position, refl, sym, ap, ◌∙◌, Option, Some, None}
use Rattle.std.specs.Prelude.{is_some}
use Rattle.std.specs.List.{list_all}
use Rattle.std.proofs.lemmas.Option.{same_Some}
use Rattle.cpe_rows.specs.cpe_name.Eleven.{Values}
use Rattle.cpe_rows.specs.Faults.{is_count, repeated_from}
use Rattle.cpe_rows.specs.Lawful.{are_different}
use Rattle.cpe_rows.specs.Names.{is_same}
use Rattle.cpe_rows.specs.Rows.{is_named}
use Rattle.cpe_rows.specs.declared.entry.Deprecation.{Deprecation}
use Rattle.cpe_rows.specs.declared.entry.Entry.{Entry}
use Rattle.cpe_dictionary.specs.Faults.{RepeatsByNumber}
use Rattle.cpe_dictionary.specs.Given.{are_entries, may_have_deprecation}
use Rattle.cpe_dictionary.specs.Numbers.{numbers_of}
use Rattle.cpe_dictionary.specs.Plans.{numbered_successors}
use Rattle.cpe_dictionary.proofs.EntryLemmas.{there_by_name}
use Rattle.cpe_dictionary.proofs.GivenGraph.{different_is}

-- ---- a value that exists only if a test passes

module _ {A : Type 0} where
  abbrev pub only_if : Bool → A → Option A
  only_if b x = if b then Some x else None

  pub none_if : (b : Bool) (x : A) → b ≡ false → None ≡ only_if b x
  none_if b x h = sym (ap (λ (c : Bool). only_if c x) h)

  pub some_if : (b : Bool) (x y : A) → b ≡ true → y ≡ x → Some y ≡ only_if b x
  some_if b x y h e = ap Some e ∙ sym (ap (λ (c : Bool). only_if c x) h)

  pub if_none : (b : Bool) (x : A) → None ≡ only_if b x → b ≡ false
  if_none true x h = let wrong : ⊥ = cc in absurd wrong
  if_none false x h = refl

  pub if_some : (b : Bool) (x y : A) → Some y ≡ only_if b x → (b ≡ true) × (y ≡ x)
  if_some true x y h = (refl, same_Some y x h)
  if_some false x y h = let wrong : ⊥ = cc in absurd wrong

-- ---- names, one by one

module _ (es : List Entry) (ns : List Values) (i : ℕ) (n : Values) (first : drop i ns ≡ n ∷ drop (i + 1) ns) where
  entries_first : are_entries es (drop i ns) ≡ (is_some (position (is_named n) es) && are_entries es (drop (i + 1) ns))
  entries_first = ap (are_entries es) first ∙ ap (λ (b : Bool). b && are_entries es (drop (i + 1) ns)) (sym (there_by_name n es))

  pub absent_here : position (is_named n) es ≡ None → are_entries es (drop i ns) ≡ false
  absent_here h = entries_first ∙ ap (λ (o : Option ℕ). is_some o && are_entries es (drop (i + 1) ns)) h

  pub present_here : (k : ℕ) → position (is_named n) es ≡ Some k → are_entries es (drop i ns) ≡ are_entries es (drop (i + 1) ns)
  present_here k h = entries_first ∙ ap (λ (o : Option ℕ). is_some o && are_entries es (drop (i + 1) ns)) h

-- ---- one deprecation

module _ (es : List Entry) (d : Deprecation) (ns : List Values) (good : Bool) (named : ns ≡ d.successors) (counted : good ≡ is_count d.kind (length ns)) where
  count_is : is_count d.kind (length d.successors) ≡ good
  count_is = ap (λ (ms : List Values). is_count d.kind (length ms)) (sym named) ∙ sym counted

  may_be : good ≡ true → may_have_deprecation es (Some d) ≡ (are_entries es d.successors && are_different is_same d.successors)
  may_be h = ap (λ (b : Bool). b && (are_entries es d.successors && are_different is_same d.successors)) (count_is ∙ h)

  module _ (ks : List ℕ) (h : good ≡ true) (found : Some ks ≡ only_if (are_entries es ns) (numbers_of es ns)) where
    numbers_found : ks ≡ numbers_of es d.successors
    numbers_found = (if_some (are_entries es ns) (numbers_of es ns) ks found).1 ∙ ap (numbers_of es) named

    entries_found : are_entries es d.successors ≡ true
    entries_found = ap (are_entries es) (sym named) ∙ (if_some (are_entries es ns) (numbers_of es ns) ks found).0

    may_if : RepeatsByNumber → may_have_deprecation es (Some d) ≡ is_none (repeated_from nat_eq [] 1 ks)
    may_if repeats =
        may_be h
        ∙ ap (λ (b : Bool). b && are_different is_same d.successors) entries_found
        ∙ different_is d.successors
        ∙ ap is_none (repeats es d.successors entries_found ∙ ap (repeated_from nat_eq [] 1) (sym numbers_found))

    pub answer_found : RepeatsByNumber → (o : Option (List ℕ)) → o ≡ only_if (is_none (repeated_from nat_eq [] 1 ks)) ks
        → o ≡ only_if (may_have_deprecation es (Some d)) (numbers_of es d.successors)
    answer_found repeats o is = is ∙ (λ i. only_if (sym (may_if repeats) i) (numbers_found i))

-- ---- deprecations, one by one

module _ (es : List Entry) (ds : List (Option Deprecation)) (i : ℕ) (d : Option Deprecation) (first : drop i ds ≡ d ∷ drop (i + 1) ds) where
  may_first : list_all (may_have_deprecation es) (drop i ds) ≡ (may_have_deprecation es d && list_all (may_have_deprecation es) (drop (i + 1) ds))
  may_first = ap (list_all (may_have_deprecation es)) first

  pub may_not_here : may_have_deprecation es d ≡ false → list_all (may_have_deprecation es) (drop i ds) ≡ false
  may_not_here h = may_first ∙ ap (λ (b : Bool). b && list_all (may_have_deprecation es) (drop (i + 1) ds)) h

  pub may_here : may_have_deprecation es d ≡ true → list_all (may_have_deprecation es) (drop i ds) ≡ list_all (may_have_deprecation es) (drop (i + 1) ds)
  may_here h = may_first ∙ ap (λ (b : Bool). b && list_all (may_have_deprecation es) (drop (i + 1) ds)) h

  pub numbered_more : (done : List (Option (List ℕ))) → done ++ map (numbered_successors es) (drop i ds) ≡ map (numbered_successors es) ds
      → (done ++ numbered_successors es d ∷ []) ++ map (numbered_successors es) (drop (i + 1) ds) ≡ map (numbered_successors es) ds
  numbered_more done before =
      append_assoc done (numbered_successors es d ∷ []) (map (numbered_successors es) (drop (i + 1) ds))
      ∙ ap (λ (rest : List (Option Deprecation)). done ++ map (numbered_successors es) rest) (sym first)
      ∙ before
