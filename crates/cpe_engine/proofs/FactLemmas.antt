-- Facts, and the items that decide their truth.
use Rattle.std.proofs.Common.{not, cond, ltb, ℕ, ◌≡◌, ◌≤◌, ◌||◌, List, [], Bool, true, false, Option, Some, None, find, is_some, length, position, slice_get, refl, ap, sym, ◌∙◌}
use Rattle.std.specs.List.{position_or_len}
use Rattle.std.proofs.lemmas.Bool.{ltb-false}
use Rattle.std.proofs.lemmas.List.Folds.{find_at}
use Rattle.std.proofs.lemmas.Option.{same_Some, slice_get_past}
use Rattle.std.specs.Option.{option_copied, option_map_or}
use Rattle.std.specs.Borrow.{Bor}
use Rattle.cpe_rows.specs.cpe_name.Eleven.{Values}
use Rattle.cpe_rows.specs.cpe_relation.NameRelation.{covers}
use Rattle.cpe_rows.specs.cpe_relation.Maybe.{maybe}
use Rattle.cpe_rows.specs.Rows.{Rows}
use Rattle.cpe_rows.specs.declared.entry.Entry.{Entry}
use Rattle.cpe_rows.specs.declared.entry.Deprecation.{Deprecation}
use Rattle.cpe_rows.specs.Truth.{same_truth}
use Rattle.cpe_rows.specs.Verdict.{fact_truth, finds_item, is_followed, truth}
use Rattle.cpe_rows.specs.declared.statement.Mode.{Mode}
use Rattle.cpe_rows.specs.declared.truth.Truth.TheVariants.{True, False}
use Rattle.certificate_search.specs.certificate_check.Leading.{followed}
use Rattle.certificate_search.specs.certificate_check.Relates.{related, is_ruled_out}
use Rattle.certificate_search.specs.certificate_check.declared.relates.Relates.{Relates}
use Rattle.certificate_search.specs.certificate_check.declared.relates.Relates.TheVariants.{Covers, MayCover}
use Rattle.certificate_search.proofs.certificate_check.Facts.{found_is}
use Rattle.certificate_search.proofs.Firsts.{some_found}

or_nothing : (b : Bool) → (b || false) ≡ b
or_nothing true = refl
or_nothing false = refl

-- in mode `plain`, names are compared as they are
pub plain_is : (relates : Values → Values → Bool) (fact : Values) (items : List Values) → find (relates fact) items ≡ find (is_followed relates [] fact) items
plain_is relates fact items =
    ap (λ (p : Values → Bool). find p items) (λ j i. sym (or_nothing (relates fact i || false) ∙ or_nothing (relates fact i)) j)

-- the relations that a truth rules out
none_covered : (a b : Bool) → not (same_truth (truth a b) True) ≡ true → a ≡ false
none_covered true b h = let w : ⊥ = cc in absurd w
none_covered false b h = refl

none_maybe : (a b : Bool) → same_truth (truth a b) False ≡ true → b ≡ false
none_maybe true b h = let w : ⊥ = cc in absurd w
none_maybe false true h = let w : ⊥ = cc in absurd w
none_maybe false false h = refl

abbrev related_of : Relates → Bool → Bool → Bool
related_of Covers a b = a
related_of MayCover a b = b

none_related : (relates : Relates) (a b : Bool) → is_ruled_out relates (truth a b) ≡ true → related_of relates a b ≡ false
none_related Covers a b h = none_covered a b h
none_related MayCover a b h = none_maybe a b h

none_is : {A : Type 0} (o : Option A) → is_some o ≡ false → o ≡ None
none_is None h = refl
none_is (Some x) h = let w : ⊥ = cc in absurd w

copied_some : (o : Option (Bor Values)) → is_some o ≡ is_some (option_copied o)
copied_some None = refl
copied_some (Some x) = refl

module _ (rows : Rows) (mode : Mode) (fact : Values) where
  abbrev met : (Values → Values → Bool) → Values → Bool
  met relates = is_followed relates (followed rows mode) fact

  not_found : (relates : Relates) → related_of relates (finds_item covers rows mode fact) (finds_item maybe rows mode fact) ≡ false
      → finds_item (related relates) rows mode fact ≡ false
  not_found Covers h = h
  not_found MayCover h = h

  pub ruled_out : (relates : Relates) → is_ruled_out relates (fact_truth rows mode fact) ≡ true → find (met (related relates)) rows.items ≡ None
  ruled_out relates h =
      none_is (find (met (related relates)) rows.items) (some_found (met (related relates)) rows.items
      ∙ (sym (found_is (related relates) rows mode fact)
      ∙ not_found relates (none_related relates (finds_item covers rows mode fact) (finds_item maybe rows mode fact) h)))

  pub found_reported : (relates : Values → Values → Bool) (o : Option (Bor Values)) → option_copied o ≡ find (met relates) rows.items
      → is_some o ≡ finds_item relates rows mode fact
  found_reported relates o e =
      copied_some o ∙ (ap is_some e ∙ (some_found (met relates) rows.items ∙ sym (found_is relates rows mode fact)))

-- ---- the entry of a name, by its place

abbrev pub deprecation_in : Option Entry → Option Deprecation
deprecation_in o = option_map_or (λ (e : Entry). e.deprecation) o None

module _ {A : Type 0} (p : A → Bool) (xs : List A) where
  pub place_found : (k : ℕ) → position p xs ≡ Some k → find p xs ≡ slice_get xs k
  place_found k h = find_at p xs ∙ ap (slice_get xs) (go (ltb (position_or_len p xs) (length xs)) h) where
    go : (b : Bool) → cond b (Some (position_or_len p xs)) None ≡ Some k → position_or_len p xs ≡ k
    go true e = same_Some (position_or_len p xs) k e
    go false e = absurd (let w : ⊥ = cc in w)

  pub none_found : position p xs ≡ None → find p xs ≡ None
  none_found h = find_at p xs ∙ slice_get_past xs (position_or_len p xs) (go (ltb (position_or_len p xs) (length xs)) refl h) where
    go : (b : Bool) → ltb (position_or_len p xs) (length xs) ≡ b → cond b (Some (position_or_len p xs)) None ≡ None → length xs ≤ position_or_len p xs
    go true e f = absurd (let w : ⊥ = cc in w)
    go false e f = ltb-false (position_or_len p xs) (length xs) e
