-- Lemmas: the place of a name after it is appended, if it wasn't in the list.
use Rattle.std.proofs.Common.{◌≡◌, ℕ, ◌<◌, ◌≤◌, ◌++◌, ◌∷◌, [], Bool, true, false, not, if◌then◌else◌, List, length, take, refl, sym, ap, subst, ◌∙◌, inl, inr, arith}
use Rattle.std.proofs.lemmas.List.{get_or_push, length_push}
use Rattle.std.proofs.Math.Seq.{take-append_seam}
use Rattle.std.specs.Prelude.{Result, Ok, Err, OnErr}
use Rattle.std.specs.List.{list_any, position_or_len}
use Rattle.std.proofs.lemmas.Bool.{both_ways, cases_lt, false_from_ne_true}
use Rattle.std.proofs.lemmas.List.Sums.{fails_before_first, passes_at_first, position_or_len_is}
use Rattle.indexmap.specs.IndexSet.{insert_key}
use Rattle.cpe_name.specs.Eleven.{Values}
use Rattle.cpe_name.specs.Equal.{same_name, same_name-Decides}
use Rattle.cpe_name.specs.Names.{any_values}
use Rattle.name_index.specs.Rows.{name_in_place}
use Rattle.name_index.proofs.Names.{any_at, any_found, FoundAt}

module _ (names : List Values) (name : Values) where
  -- If the name is in the list, the list is unchanged.
  pub known_keys : list_any (same_name name) names ≡ true → insert_key same_name names name ≡ names
  known_keys h = ap (λ (b : Bool). if b then names else names ++ name ∷ []) h

  pub known_place : list_any (same_name name) names ≡ true → FoundAt names name (position_or_len (same_name name) names)
  known_place h =
      let i = position_or_len (same_name name) names in
      let f = any_found names name h in
      let before : i ≤ f.0 = elim (cases_lt f.0 i) [
        | inl lt ↦ absurd (both_ways _ (fails_before_first (same_name name) names f.0 any_values lt) ((same_name-Decides name (name_in_place names f.0)).1 (sym f.1.is)))
        | inr le ↦ le
      ] in
      let inside : i < length names = omega (arith, before, f.1.inside) in
      record { inside = inside; is = sym ((same_name-Decides name (name_in_place names i)).0 (passes_at_first (same_name name) names any_values inside)) }

  -- If the name is new, it is appended.
  pub new_keys : list_any (same_name name) names ≡ false → insert_key same_name names name ≡ names ++ name ∷ []
  new_keys h = ap (λ (b : Bool). if b then names else names ++ name ∷ []) h

  pub new_place : list_any (same_name name) names ≡ false → position_or_len (same_name name) names ≡ length names
  new_place h =
      position_or_len_is (same_name name) names (length names) any_values (omega arith)
      (λ k lt. false_from_ne_true _ (λ t. both_ways _ h (any_at names name k lt (sym ((same_name-Decides name (name_in_place names k)).0 t)))))
      (λ lt. absurd (omega (arith, lt)))

not_not : (b : Bool) → not (not b) ≡ b
not_not true = refl
not_not false = refl

-- What is true if the name was in the list.
pub record IsFound (names : List Values) (name : Values) (new_names : List Values) (place : ℕ) : Type 0 where
  pub keys : new_names ≡ names
  pub at : FoundAt names name place

-- What is true if the name was new.
pub record IsPutLast (names : List Values) (name : Values) (new_names : List Values) (place : ℕ) : Type 0 where
  pub fresh : list_any (same_name name) names ≡ false
  pub keys : new_names ≡ names ++ name ∷ []
  pub at : place ≡ length names
  pub its_name : name_in_place new_names place ≡ name
  pub inside : place < length new_names

module _ (names : List Values) (name : Values) (new_names : List Values) (place : ℕ) (is_new : Bool) (new : is_new ≡ not (list_any (same_name name) names)) (keys : new_names ≡ insert_key same_name names name) (at : place ≡ position_or_len (same_name name) names) where
  pub is_found : is_new ≡ false → IsFound names name new_names place
  is_found old =
      let there : list_any (same_name name) names ≡ true = sym (not_not (list_any (same_name name) names)) ∙ ap not (sym new ∙ old) in
      record { keys = keys ∙ known_keys names name there; at = subst (FoundAt names name) (sym at) (known_place names name there) }

  pub is_put_last : is_new ≡ true → IsPutLast names name new_names place
  is_put_last added =
      let fresh : list_any (same_name name) names ≡ false = sym (not_not (list_any (same_name name) names)) ∙ ap not (sym new ∙ added) in
      let put = keys ∙ new_keys names name fresh in
      let last = at ∙ new_place names name fresh in
      record {
        fresh = fresh;
        keys = put;
        at = last;
        its_name = ap (λ (ws : List Values). name_in_place ws place) put ∙ get_or_push names name any_values place (sym last);
        inside = omega (arith, last, ap {B = ℕ} (λ (ws : List Values). length ws) put, length_push names name);
      }

-- Without the appended name the list is unchanged.
pub as_before : (names : List Values) (name : Values) (new_names fewer : List Values) (place : ℕ) → IsPutLast names name new_names place → fewer ≡ take place new_names → fewer ≡ names
as_before names name new_names fewer place put cut =
    cut ∙ ap (λ (k : ℕ). take k new_names) put.at ∙ ap (λ (ws : List Values). take (length names) ws) put.keys ∙ take-append_seam names (name ∷ [])

-- What is always true is true if memory ran out.
pub on_err : {A B P : Type 0} (r : Result A B) → P → OnErr r P
on_err (Ok x) p = tt
on_err (Err e) p = p
