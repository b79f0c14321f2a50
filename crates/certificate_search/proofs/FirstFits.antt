-- Lemmas: the first fit of a fact is the first fit of the first item that has a fit.
use Rattle.std.proofs.Common.{◌≡◌, ℕ, ◌+◌, List, Bool, true, false, cond, Option, Some, None, IfSome, filter, find, flat_map, option_map, is_some, drop, slice_get, refl, ap, sym, ◌∙◌}
use Rattle.std.specs.Cmp.{both_ways as same_tests}
use Rattle.std.specs.List.{list_any}
use Rattle.std.specs.Borrow.{Bor}
use Rattle.std.specs.Option.{option_and_then, option_copied}
use Rattle.cpe_rows.specs.cpe_name.Eleven.{Values}
use Rattle.cpe_rows.specs.Chains.{ends}
use Rattle.cpe_rows.specs.Verdict.{is_followed}
use Rattle.cpe_rows.specs.declared.entry.Entry.{Entry}
use Rattle.cpe_rows.proofs.Paths.{element_passes, some_element}
use Rattle.certificate_check.specs.declared.certificate.Why.{Why}
use Rattle.certificate_check.proofs.Loops.{drop_at, drop_past}
use Rattle.certificate_search.specs.Choices.{Fit, fits_at, first_fit}
use Rattle.certificate_search.proofs.Ways.{found_among}
use Rattle.certificate_search.proofs.Firsts.{first_append, first_kept, some_found, first_map, some_map, first_of_all, some_of_all}

-- lemma: a pair is found in either order of the two loops
any_swap : {A B : Type 0} (r : A → B → Bool) (xs : List A) (ys : List B)
    → list_any (λ x. list_any (λ y. r x y) ys) xs ≡ list_any (λ y. list_any (λ x. r x y) xs) ys
any_swap r xs ys = same_tests (list_any (λ x. list_any (λ y. r x y) ys) xs) (list_any (λ y. list_any (λ x. r x y) xs) ys)
    (λ h. let x = some_element (λ x. list_any (λ y. r x y) ys) xs h in
    let y = some_element (λ y. r x.0 y) ys x.2 in
    element_passes (λ y. list_any (λ x. r x y) xs) ys y.0 y.1 (element_passes (λ a. r a y.0) xs x.0 x.1 y.2))
    (λ h. let y = some_element (λ y. list_any (λ x. r x y) xs) ys h in
    let x = some_element (λ x. r x y.0) xs y.2 in
    element_passes (λ x. list_any (λ y. r x y) ys) xs x.0 x.1 (element_passes (λ b. r x.0 b) ys y.0 y.1 x.2))

module _ (relates : Values → Values → Bool) (fact_ends : List Values) (item : Values) where
  abbrev pub fit : Values → Values → Fit
  fit e f = record { item = item; item_end = e; fact_end = f }

  pub first_at : (e : Values) → slice_get (fits_at relates fact_ends item e) 0 ≡ option_map (fit e) (find (λ f. relates f e) fact_ends)
  first_at e = first_map (fit e) (filter (λ f. relates f e) fact_ends) ∙ ap (option_map (fit e)) (first_kept (λ f. relates f e) fact_ends)

  pub some_at : (e : Values) → is_some (slice_get (fits_at relates fact_ends item e) 0) ≡ list_any (λ f. relates f e) fact_ends
  some_at e =
      ap is_some (first_at e)
      ∙ (some_map (fit e) (find (λ f. relates f e) fact_ends) ∙ some_found (λ f. relates f e) fact_ends)

module _ (relates : Values → Values → Bool) (es : List Entry) (fact : Values) where
  abbrev pub of_item : Values → List Fit
  of_item i = flat_map (fits_at relates (ends es fact) i) (ends es i)

  pub some_of : (i : Values) → is_some (slice_get (of_item i) 0) ≡ is_followed relates es fact i
  some_of i =
      some_of_all (fits_at relates (ends es fact) i) (ends es i)
      ∙ (ap (λ (p : Values → Bool). list_any p (ends es i)) (λ j e. some_at relates (ends es fact) i e j)
      ∙ any_swap (λ e f. relates f e) (ends es i) (ends es fact))

  pub first_fit_is : (items : List Values)
      → first_fit relates es items fact ≡ option_and_then (λ i. slice_get (of_item i) 0) (find (is_followed relates es fact) items)
  first_fit_is items =
      first_of_all of_item items
      ∙ ap (λ (p : Values → Bool). option_and_then (λ i. slice_get (of_item i) 0) (find p items)) (λ j i. some_of i j)

  pub some_fit_is : (items : List Values) → is_some (first_fit relates es items fact) ≡ list_any (is_followed relates es fact) items
  some_fit_is items = some_of_all of_item items ∙ ap (λ (p : Values → Bool). list_any p items) (λ j i. some_of i j)

  -- lemma: the first item that has a fit has the first fit
  by_item : (items : List Values) (item : Values) → find (is_followed relates es fact) items ≡ Some item
      → (g : Option Fit → Why) (w : Why) → IfSome (slice_get (of_item item) 0) (λ fit. w ≡ g (Some fit)) → w ≡ g (first_fit relates es items fact)
  by_item items item found g w h = go (slice_get (of_item item) 0) refl h where
    at : first_fit relates es items fact ≡ slice_get (of_item item) 0
    at = first_fit_is items ∙ ap (option_and_then (λ i. slice_get (of_item i) 0)) found

    some : is_some (slice_get (of_item item) 0) ≡ true
    some = some_of item ∙ (found_among (is_followed relates es fact) items item found).1

    go : (o : Option Fit) → slice_get (of_item item) 0 ≡ o → IfSome o (λ fit. w ≡ g (Some fit)) → w ≡ g (first_fit relates es items fact)
    go (Some fit) e k = k ∙ ap g (sym (at ∙ e))
    go None e k = let clash : false ≡ true = sym (ap is_some e) ∙ some in absurd (let v : ⊥ = cc in v)

  -- lemma: the first fit of an item, from the item's ends and those of the fact
  pub first_by_ends : (i : Values) (o : Option Fit) (fact_ends item_ends : List Values) → fact_ends ≡ ends es fact → item_ends ≡ ends es i
      → o ≡ slice_get (flat_map (fits_at relates fact_ends i) item_ends) 0 → o ≡ slice_get (of_item i) 0
  first_by_ends i o fact_ends item_ends of_fact of_it first = first ∙ (λ j. slice_get (flat_map (fits_at relates (of_fact j) i) (of_it j)) 0)

  -- lemmas: the first fit from a reference to the first item, and the case of a fact without a fit
  pub by_lent : (items : List Values) (o : Option (Bor Values)) (item : Bor Values) → option_copied o ≡ find (is_followed relates es fact) items → o ≡ Some item
      → (g : Option Fit → Why) (w : Why) → IfSome (slice_get (of_item item.now) 0) (λ fit. w ≡ g (Some fit)) → w ≡ g (first_fit relates es items fact)
  by_lent items o item found is = by_item items item.now (sym found ∙ ap option_copied is)

  pub by_none : (items : List Values) (o : Option (Bor Values)) → option_copied o ≡ find (is_followed relates es fact) items → o ≡ None
      → None ≡ first_fit relates es items fact
  by_none items o found is = sym (first_fit_is items ∙ ap (option_and_then (λ i. slice_get (of_item i) 0)) (sym found ∙ ap option_copied is))

-- a loop over the ends of an item
module _ (relates : Values → Values → Bool) (fact_ends : List Values) (item : Values) (item_ends : List Values) (k : ℕ) where
  abbrev pub fits_of : List Values → List Fit
  fits_of ends = flat_map (fits_at relates fact_ends item) ends

  -- no end before this one has a fit
  abbrev pub IsFirst : Type 0
  IsFirst = slice_get (fits_of (drop k item_ends)) 0 ≡ slice_get (fits_of item_ends) 0

  at_end : (e : Values) → slice_get item_ends k ≡ Some e
      → slice_get (fits_of (drop k item_ends)) 0
      ≡ cond (is_some (slice_get (fits_at relates fact_ends item e) 0)) (slice_get (fits_at relates fact_ends item e) 0) (slice_get (fits_of (drop (k + 1) item_ends)) 0)
  at_end e at =
      ap (λ (es : List Values). slice_get (fits_of es) 0) (drop_at item_ends k e at)
      ∙ first_append (fits_at relates fact_ends item e) (fits_of (drop (k + 1) item_ends))

  pub fit_here : (e f : Values) → IsFirst → slice_get item_ends k ≡ Some e → find (λ n. relates n e) fact_ends ≡ Some f
      → slice_get (fits_of item_ends) 0 ≡ Some (fit relates fact_ends item e f)
  fit_here e f first at h =
      sym first ∙ (at_end e at
      ∙ ap (λ (o : Option Fit). cond (is_some o) o (slice_get (fits_of (drop (k + 1) item_ends)) 0)) (first_at relates fact_ends item e
      ∙ ap (option_map (fit relates fact_ends item e)) h))

  pub fit_next : (e : Values) → IsFirst → slice_get item_ends k ≡ Some e → find (λ n. relates n e) fact_ends ≡ None
      → slice_get (fits_of (drop (k + 1) item_ends)) 0 ≡ slice_get (fits_of item_ends) 0
  fit_next e first at h =
      sym (at_end e at
      ∙ ap (λ (o : Option Fit). cond (is_some o) o (slice_get (fits_of (drop (k + 1) item_ends)) 0)) (first_at relates fact_ends item e
      ∙ ap (option_map (fit relates fact_ends item e)) h)) ∙ first

  pub fit_none : IsFirst → slice_get item_ends k ≡ None → None ≡ slice_get (fits_of item_ends) 0
  fit_none first at = sym (ap (λ (es : List Values). slice_get (fits_of es) 0) (drop_past item_ends k at)) ∙ first
