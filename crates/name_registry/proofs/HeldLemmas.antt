-- Lemmas: the names that a table holds, in any order.
use Rattle.std.proofs.Common.{◌≡◌, ℕ, zero, suc, ◌+◌, ◌≤◌, Bool, true, false, cond, if◌then◌else◌, ◌||◌, List, [], ◌∷◌, ◌++◌, Option, Some, None, slice_get, slice_set, refl, sym, ap, ◌∙◌, arith}
use Rattle.std.specs.List.{list_any, sum_by}
use Rattle.std.specs.Option.{option_map_or}
use Rattle.std.proofs.lemmas.Option.{none-some, same_Some}
use Rattle.std.proofs.lemmas.List.{map-append}
use Rattle.std.proofs.lemmas.List.Sums.{sum_by-append, sum_by-cons}
use Rattle.cpe_rows.specs.cpe_name.Eleven.{Values}
use Rattle.cpe_rows.specs.cpe_name.Equal.{same_name, same_name-Decides}
use Rattle.name_index.specs.Elements.{SameElements}
use Rattle.fact_laws.specs.Shown.{times_named}
use Rattle.cpe_rows.specs.After.{without_first}
use Rattle.cpe_rows.specs.Names.{is_same}
use Rattle.cpe_rows.specs.declared.entry.Deprecation.{Deprecation}
use Rattle.cpe_rows.specs.declared.entry.Entry.{Entry}
use Rattle.cpe_rows.specs.declared.entry.Note.{Note}
use Rattle.cpe_dictionary.specs.Kept.{names_of_entries, rewritten, written}

-- ---- orders

module _ {A : Type 0} where
  sum_three : (f : A → ℕ) (xs ys zs : List A) → sum_by f (xs ++ (ys ++ zs)) ≡ sum_by f xs + (sum_by f ys + sum_by f zs)
  sum_three f xs ys zs = omega (arith, sum_by-append f xs (ys ++ zs), sum_by-append f ys zs)

  -- the first element of a list is moved to the end of the second part, or to the third part
  pub last_of_second : (x : A) (xs ys zs : List A) → SameElements (x ∷ (xs ++ (ys ++ zs))) (xs ++ ((ys ++ x ∷ []) ++ zs))
  last_of_second x xs ys zs f = omega (arith, sum_by-cons f x (xs ++ (ys ++ zs)), sum_three f xs ys zs, sum_three f xs (ys ++ x ∷ []) zs, sum_by-append f ys (x ∷ []), sum_by-cons f x [])

  pub last_of_third : (x : A) (xs ys zs : List A) → SameElements (x ∷ (xs ++ (ys ++ zs))) (xs ++ (ys ++ (zs ++ x ∷ [])))
  last_of_third x xs ys zs f = omega (arith, sum_by-cons f x (xs ++ (ys ++ zs)), sum_three f xs ys zs, sum_three f xs ys (zs ++ x ∷ []), sum_by-append f zs (x ∷ []), sum_by-cons f x [])

  -- an element of the third part is moved to the front
  third_first : (x : A) (xs ys zs left : List A) → SameElements zs (x ∷ left) → SameElements (xs ++ (ys ++ zs)) (x ∷ (xs ++ (ys ++ left)))
  third_first x xs ys zs left same f = omega (arith, sum_three f xs ys zs, sum_by-cons f x (xs ++ (ys ++ left)), sum_three f xs ys left, sum_by-cons f x left, same f)

-- a list is the removed name and the other names
taken_out : (name : Values) (names : List Values) → list_any (is_same name) names ≡ true → SameElements names (name ∷ without_first (is_same name) names)
unfolding is_same
taken_out name [] has f = absurd cc
taken_out name (n ∷ names) has f = by (same_name name n) refl (λ more. taken_out name names more f)
  where
    by : (b : Bool) → same_name name n ≡ b → (list_any (is_same name) names ≡ true → sum_by f names ≡ sum_by f (name ∷ without_first (is_same name) names))
        → sum_by f (n ∷ names) ≡ sum_by f (name ∷ (if same_name name n then names else n ∷ without_first (is_same name) names))
    by true e more =
        ap (λ (b : Bool). sum_by f (n ∷ names)) e
        ∙ ap (λ (m : Values). sum_by f (m ∷ names)) (sym ((same_name-Decides name n).0 e))
        ∙ ap (λ (b : Bool). sum_by f (name ∷ (if b then names else n ∷ without_first (is_same name) names))) (sym e)
    by false e more =
        let rest = more (sym (ap (λ (b : Bool). b || list_any (is_same name) names) e) ∙ has) in
        omega (arith, sum_by-cons f n names, rest, sum_by-cons f name (without_first (is_same name) names), sum_by-cons f name (n ∷ without_first (is_same name) names), sum_by-cons f n (without_first (is_same name) names))
        ∙ ap (λ (b : Bool). sum_by f (name ∷ (if b then names else n ∷ without_first (is_same name) names))) (sym e)

pub dropped_first : (name : Values) (xs ys items : List Values) → list_any (is_same name) items ≡ true → SameElements (xs ++ (ys ++ items)) (name ∷ (xs ++ (ys ++ without_first (is_same name) items)))
dropped_first name xs ys items has = third_first name xs ys items (without_first (is_same name) items) (taken_out name items has)

-- ---- how often a name is in a list

times_three : (n : Values) (xs ys zs : List Values) → times_named n (xs ++ (ys ++ zs)) ≡ times_named n xs + (times_named n ys + times_named n zs)
times_three n xs ys zs = sum_three (λ (m : Values). cond (same_name n m) 1 0) xs ys zs

occurs_once : (n : Values) (ns : List Values) (k : ℕ) → slice_get ns k ≡ Some n → 1 ≤ times_named n ns
occurs_once n [] k e = absurd (none-some n e)
occurs_once n (m ∷ ns) zero e =
    omega (arith, sum_by-cons (λ (x : Values). cond (same_name n x) 1 0) m ns, ap {B = ℕ} (λ (b : Bool). cond b 1 0) ((same_name-Decides n m).1 (sym (same_Some m n e))))
occurs_once n (m ∷ ns) (suc k) e = omega (arith, sum_by-cons (λ (x : Values). cond (same_name n x) 1 0) m ns, occurs_once n ns k e)

pub second_present : (n : Values) (xs ys zs : List Values) (k : ℕ) → slice_get ys k ≡ Some n → 1 ≤ times_named n (xs ++ (ys ++ zs))
second_present n xs ys zs k e = omega (arith, times_three n xs ys zs, occurs_once n ys k e)

pub third_present : (n : Values) (xs ys zs : List Values) (k : ℕ) → slice_get zs k ≡ Some n → 1 ≤ times_named n (xs ++ (ys ++ zs))
third_present n xs ys zs k e = omega (arith, times_three n xs ys zs, occurs_once n zs k e)

-- ---- the names of entries

pub names_more : (es : List Entry) (e : Entry) → names_of_entries (es ++ e ∷ []) ≡ names_of_entries es ++ e.name ∷ []
names_more es e = map-append (λ (x : Entry). x.name) es (e ∷ [])

-- a change of a deprecation leaves the names of entries unchanged
names_set : (es : List Entry) (k : ℕ) (e x : Entry) → slice_get es k ≡ Some e → x.name ≡ e.name → names_of_entries (slice_set es k x) ≡ names_of_entries es
names_set [] k e x at is = absurd (none-some e at)
names_set (y ∷ es) zero e x at is = ap (λ (n : Values). n ∷ names_of_entries es) (is ∙ ap (λ (z : Entry). z.name) (sym (same_Some y e at)))
names_set (y ∷ es) (suc k) e x at is = ap (λ (ns : List Values). y.name ∷ ns) (names_set es k e x at is)

pub names_written : (d : Option Deprecation) (note : Option Note) (k : ℕ) (es : List Entry) → names_of_entries (written (rewritten d note) k es) ≡ names_of_entries es
names_written d note k es = by (slice_get es k) refl
  where
    by : (o : Option Entry) → slice_get es k ≡ o → names_of_entries (option_map_or (λ (e : Entry). slice_set es k (rewritten d note e)) o es) ≡ names_of_entries es
    by None at = refl
    by (Some e) at = names_set es k e (rewritten d note e) at refl
