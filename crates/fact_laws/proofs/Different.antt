-- Lemmas: an index that holds each number with a count above 0 once has the different names.
use Rattle.std.proofs.Common.{◌≡◌, ℕ, zero, suc, ◌+◌, ◌≤◌, Bool, true, false, cond, ◌||◌, List, [], ◌∷◌, length, count_by, Option, Some, None, refl, sym, ap, subst, ◌∙◌, inl, inr, arith, eq-eqb, eqb-true}
use Rattle.std.specs.Prelude.{nat_eq}
use Rattle.std.specs.List.{sum_by, list_any, AllByRecursion}
use Rattle.std.proofs.lemmas.Bool.{cases_Bool, both_ways, lt-ltb}
use Rattle.std.proofs.lemmas.List.Sums.{sum_by-cons}
use Rattle.cpe_rows.specs.cpe_values.declared.value.Value.{Value}
use Rattle.cpe_rows.specs.cpe_name.Eleven.{Values}
use Rattle.cpe_rows.specs.cpe_name.Equal.{same_name, same_name-Decides}
use Rattle.name_index.specs.declared.products.Side.{Side}
use Rattle.name_index.specs.Elements.{SameElements}
use Rattle.name_index.specs.declared.table.NameId.{NameId}
use Rattle.name_index.specs.Table.{IsNameTable, IsLive, Names, Kept, find_kept, kept_at, kept_or}
use Rattle.name_index.specs.Index.{ids, name_id, times_held}
use Rattle.name_index.proofs.Postings.{sum_map}
use Rattle.fact_laws.specs.Shown.{different, IsKnown, is_met_on, meets_on, near_names, names_at, names_in, one_if_some, Shows, times_in_list, times_named}
use Rattle.fact_laws.proofs.Shown.{all_known, first_passing, named_first, same_names, other_names, times_agree}

-- ---- lists that have each name equally often

abbrev pub removed : Values → List Values → List Values
removed n [] = []
removed n (m ∷ list) = cond (same_name n m) list (m ∷ removed n list)

pub first_removed : (f : Values → ℕ) (n : Values) (list : List Values) → 1 ≤ times_named n list → sum_by f list ≡ f n + sum_by f (removed n list)
first_removed f n [] h = absurd (omega (arith, h))
first_removed f n (m ∷ list) h = by (same_name n m) refl (first_removed f n list)
  where
    by : (b : Bool) → same_name n m ≡ b → (1 ≤ times_named n list → sum_by f list ≡ f n + sum_by f (removed n list)) → sum_by f (m ∷ list) ≡ f n + sum_by f (cond b list (m ∷ removed n list))
    by true e later = omega (arith, sum_by-cons f m list, ap f ((same_name-Decides n m).0 e))
    by false e later = omega (arith, sum_by-cons f m list, sum_by-cons f m (removed n list), later (omega (arith, h, named_first n m list, ap {B = ℕ} (λ (b : Bool). cond b 1 0) e)))

itself : (n : Values) (list : List Values) → times_named n (n ∷ list) ≡ 1 + times_named n list
itself n list = omega (arith, named_first n n list, ap {B = ℕ} (λ (b : Bool). cond b 1 0) (same_names n n refl))

pub counts_same : (xs ys : List Values) → ((n : Values) → times_named n xs ≡ times_named n ys) → SameElements xs ys
counts_same [] [] same f = refl
counts_same [] (y ∷ ys) same f = absurd (omega (arith, same y, itself y ys))
counts_same (x ∷ xs) ys same f =
    let there : 1 ≤ times_named x ys = omega (arith, same x, itself x xs) in
    let rest = counts_same xs (removed x ys) (λ n. omega (arith, same n, named_first n x xs, first_removed (λ (m : Values). cond (same_name n m) 1 0) x ys there)) f in
    omega (arith, sum_by-cons f x xs, first_removed f x ys there, rest)

-- ---- the different names of a list

pub none_named : (n : Values) (list : List Values) → list_any (same_name n) list ≡ false → times_named n list ≡ 0
none_named n [] h = refl
none_named n (m ∷ list) h = by (same_name n m) refl (none_named n list)
  where
    by : (b : Bool) → same_name n m ≡ b → (list_any (same_name n) list ≡ false → times_named n list ≡ 0) → times_named n (m ∷ list) ≡ 0
    by true e later = absurd (both_ways (same_name n m || list_any (same_name n) list) h (ap (λ (b : Bool). b || list_any (same_name n) list) e))
    by false e later = omega (arith, named_first n m list, ap {B = ℕ} (λ (b : Bool). cond b 1 0) e, later (sym (ap (λ (b : Bool). b || list_any (same_name n) list) e) ∙ h))

pub some_named : (n : Values) (list : List Values) → list_any (same_name n) list ≡ true → 1 ≤ times_named n list
some_named n list h = let found = first_passing (same_name n) list h in subst (λ (m : Values). 1 ≤ times_named m list) (sym ((same_name-Decides n found.0).0 found.1)) found.2

pub one_some : (n : ℕ) → 1 ≤ n → one_if_some n ≡ 1
one_some n h = ap {B = ℕ} (λ (b : Bool). cond b 1 0) (lt-ltb 0 n (omega (arith, h)))

pub one_once : (n : Values) (list : List Values) → times_named n (different list) ≡ one_if_some (times_named n list)
one_once n [] = refl
one_once n (m ∷ list) = by (list_any (same_name m) list) refl (same_name n m) refl (one_once n list)
  where
    by : (a : Bool) → list_any (same_name m) list ≡ a → (b : Bool) → same_name n m ≡ b → times_named n (different list) ≡ one_if_some (times_named n list)
        → times_named n (cond a (different list) (m ∷ different list)) ≡ one_if_some (times_named n (m ∷ list))
    by true e true f later =
        let some : 1 ≤ times_named n list = subst (λ (k : Values). 1 ≤ times_named k list) (sym ((same_name-Decides n m).0 f)) (some_named m list e) in
        later ∙ one_some (times_named n list) some ∙ sym (one_some (times_named n (m ∷ list)) (omega (arith, some, named_first n m list)))
    by true e false f later = later ∙ ap one_if_some (omega (arith, named_first n m list, ap {B = ℕ} (λ (b : Bool). cond b 1 0) f))
    by false e true f later =
        let none : times_named n list ≡ 0 = ap (λ (k : Values). times_named k list) ((same_name-Decides n m).0 f) ∙ none_named m list e in
        omega (
          arith,
          named_first n m (different list),
          ap {B = ℕ} (λ (b : Bool). cond b 1 0) f,
          later,
          ap one_if_some none,
          one_some (times_named n (m ∷ list)) (omega (arith, named_first n m list, ap {B = ℕ} (λ (b : Bool). cond b 1 0) f)),
        )
    by false e false f later =
        omega (
          arith,
          named_first n m (different list),
          ap {B = ℕ} (λ (b : Bool). cond b 1 0) f,
          later,
          ap one_if_some (omega_is),
        )
      where
        omega_is : times_named n (m ∷ list) ≡ times_named n list
        omega_is = omega (arith, named_first n m list, ap {B = ℕ} (λ (b : Bool). cond b 1 0) f)

pub fewer_different : (list : List Values) → length (different list) ≤ length list
fewer_different [] = omega arith
fewer_different (m ∷ list) = by (list_any (same_name m) list) (fewer_different list)
  where
    by : (a : Bool) → length (different list) ≤ length list → length (cond a (different list) (m ∷ different list)) ≤ length (m ∷ list)
    by true later = omega (arith, later)
    by false later = omega (arith, later)

pub less_different : (f : Values → ℕ) (list : List Values) → sum_by f (different list) ≤ sum_by f list
less_different f [] = omega arith
less_different f (m ∷ list) = by (list_any (same_name m) list) (less_different f list)
  where
    by : (a : Bool) → sum_by f (different list) ≤ sum_by f list → sum_by f (cond a (different list) (m ∷ different list)) ≤ sum_by f (m ∷ list)
    by true later = omega (arith, later, sum_by-cons f m list)
    by false later = omega (arith, later, sum_by-cons f m list, sum_by-cons f m (different list))

-- ---- numbers, each once

pub once_different : (names : Names) (numbers once : List NameId) → IsNameTable names → AllByRecursion (λ (x : NameId). IsLive names x.0) numbers → AllByRecursion (λ (x : NameId). IsLive names x.0) once
    → ((id : ℕ) → times_in_list id once ≡ one_if_some (times_in_list id numbers)) → SameElements (names_at names once) (different (names_at names numbers))
once_different names numbers once are live live_once each = counts_same (names_at names once) (different (names_at names numbers)) (λ n. by n (times_named n (names_at names numbers)) refl ∙ sym (one_once n (names_at names numbers)))
  where
    known : (n : Values) → IsKnown names n → times_named n (names_at names once) ≡ one_if_some (times_named n (names_at names numbers))
    known n k =
        let is : k.1.0.name ≡ n = k.1.2 in
        ap (λ (m : Values). times_named m (names_at names once)) (sym is)
        ∙ sym (times_agree names are k.0 k.1.0 k.1.1 once live_once)
        ∙ each k.0
        ∙ ap one_if_some (times_agree names are k.0 k.1.0 k.1.1 numbers live ∙ ap (λ (m : Values). times_named m (names_at names numbers)) is)

    by : (n : Values) (t : ℕ) → times_named n (names_at names numbers) ≡ t → times_named n (names_at names once) ≡ one_if_some (times_named n (names_at names numbers))
    by n (suc t) e = known n (all_known names n numbers live (omega (arith, e)))
    by n zero e = none (times_named n (names_at names once)) refl
      where
        none : (t : ℕ) → times_named n (names_at names once) ≡ t → times_named n (names_at names once) ≡ one_if_some (times_named n (names_at names numbers))
        none zero f = f ∙ sym (ap one_if_some e)
        none (suc t) f = known n (all_known names n once live_once (omega (arith, f)))

-- ---- the names in an index

module _ (names : Names) (times : ℕ → ℕ) (list : List Values) (held : List (ℕ × ℕ)) (are : IsNameTable names) (on : (id : ℕ) → times_held held id ≡ one_if_some (times id)) (s : Shows names times list) where
  positive : (n : ℕ) → 1 ≤ one_if_some n → 1 ≤ n
  positive zero h = absurd (omega (arith, h))
  positive (suc n) h = omega arith

  held_first : (id : ℕ) (x : ℕ × ℕ) (some : List (ℕ × ℕ)) → times_held (x ∷ some) id ≡ cond (nat_eq id x.0) 1 0 + times_held some id
  held_first id x some = sum_by-cons (λ (y : ℕ × ℕ). cond (nat_eq id y.0) 1 0) x some

  -- a held number is live
  live : (id : ℕ) → 1 ≤ times_held held id → (k : Kept) × (find_kept names id ≡ Some k)
  live id h = by (find_kept names id) refl
    where
      by : (o : Option Kept) → find_kept names id ≡ o → (k : Kept) × (find_kept names id ≡ Some k)
      by None e = absurd (omega (arith, h, on id, ap one_if_some (s.nowhere id e)))
      by (Some k) e = (k, e)

  kept_name : (id : ℕ) (k : Kept) → find_kept names id ≡ Some k → (kept_at names id).name ≡ k.name
  kept_name id k e = ap (λ (o : Option Kept). (kept_or o).name) e

  -- a name is in the index as often as its number is held
  agree : (n : Values) (id : ℕ) (k : Kept) → find_kept names id ≡ Some k → k.name ≡ n → times_named n (names_in names held) ≡ times_held held id
  agree n id k e is = go held (λ j h. h)
    where
      tests : (x : ℕ × ℕ) → 1 ≤ times_held held x.0 → same_name n (kept_at names x.0).name ≡ nat_eq id x.0
      tests x h = elim (cases_Bool (nat_eq id x.0)) [
        | inl t ↦
            same_names n (kept_at names x.0).name (sym (ap (λ (j : ℕ). (kept_at names j).name) (sym (eqb-true id x.0 t)) ∙ kept_name id k e ∙ is)) ∙ sym t
        | inr f ↦
            let l = live x.0 h in
            other_names n (kept_at names x.0).name (λ same. both_ways (nat_eq id x.0) f (eq-eqb id x.0 (are.different id x.0 k l.0 e l.1 (is ∙ same ∙ kept_name x.0 l.0 l.1)))) ∙ sym f
      ]

      go : (some : List (ℕ × ℕ)) → ((j : ℕ) → 1 ≤ times_held some j → 1 ≤ times_held held j) → times_named n (names_in names some) ≡ times_held some id
      go [] in_ = refl
      go (x ∷ some) in_ =
          omega (
            arith,
            named_first n (kept_at names x.0).name (names_in names some),
            held_first id x some,
            ap {B = ℕ} (λ (b : Bool). cond b 1 0) (tests x (in_ x.0 (omega (arith, held_first x.0 x some, ap {B = ℕ} (λ (b : Bool). cond b 1 0) (eq-eqb x.0 x.0 refl))))),
            go some (λ j more. in_ j (omega (arith, more, held_first j x some))),
          )

  -- a name in the index is the name of a number
  number_there : (n : Values) → 1 ≤ times_named n (names_in names held) → (id : ℕ) × (k : Kept) × (find_kept names id ≡ Some k) × (k.name ≡ n)
  number_there n h = go held (λ j more. more) h
    where
      go : (some : List (ℕ × ℕ)) → ((j : ℕ) → 1 ≤ times_held some j → 1 ≤ times_held held j) → 1 ≤ times_named n (names_in names some) → (id : ℕ) × (k : Kept) × (find_kept names id ≡ Some k) × (k.name ≡ n)
      go [] in_ h = absurd (omega (arith, h))
      go (x ∷ some) in_ h = elim (cases_Bool (same_name n (kept_at names x.0).name)) [
        | inl t ↦
            let l = live x.0 (in_ x.0 (omega (arith, held_first x.0 x some, ap {B = ℕ} (λ (b : Bool). cond b 1 0) (eq-eqb x.0 x.0 refl)))) in
            (x.0, l.0, l.1, sym (kept_name x.0 l.0 l.1) ∙ sym ((same_name-Decides n (kept_at names x.0).name).0 t))
        | inr f ↦
            go some (λ j more. in_ j (omega (arith, more, held_first j x some))) (omega (arith, h, named_first n (kept_at names x.0).name (names_in names some), ap {B = ℕ} (λ (b : Bool). cond b 1 0) f))
      ]

  counts : (n : Values) → times_named n (names_in names held) ≡ times_named n (different list)
  counts n = by (times_named n (names_in names held)) refl ∙ sym (one_once n list)
    where
      by : (m : ℕ) → times_named n (names_in names held) ≡ m → times_named n (names_in names held) ≡ one_if_some (times_named n list)
      by (suc m) e =
          let w = number_there n (omega (arith, e)) in
          agree n w.0 w.1 w.2 w.3 ∙ on w.0 ∙ ap one_if_some (s.counts w.0 w.1 w.2 ∙ ap (λ (k : Values). times_named k list) w.3)
      by zero e = none (times_named n list) refl
        where
          none : (t : ℕ) → times_named n list ≡ t → times_named n (names_in names held) ≡ one_if_some (times_named n list)
          none zero t = e ∙ sym (ap one_if_some t)
          none (suc t) is =
              let known = s.known n (omega (arith, is)) in
              let k = known.1.0 in
              let there : times known.0 ≡ times_named n list = s.counts known.0 k known.1.1 ∙ ap (λ (m : Values). times_named m list) known.1.2 in
              absurd (omega (arith, e, agree n known.0 k known.1.1 known.1.2, on known.0, one_some (times known.0) (omega (arith, there, is))))

  pub held_different : SameElements (names_in names held) (different list)
  held_different = counts_same (names_in names held) (different list) counts

  pub near_different : (side : Side) (asked : Value) → count_by (is_met_on names side asked) (ids held) ≡ near_names side asked (different list)
  near_different side asked =
      sum_map (λ (id : NameId). cond (is_met_on names side asked id) 1 0) (λ (x : ℕ × ℕ). name_id x.0) held
      ∙ sym (sum_map (λ (n : Values). cond (meets_on side asked n.product) 1 0) (λ (x : ℕ × ℕ). (kept_at names x.0).name) held)
      ∙ held_different (λ (n : Values). cond (meets_on side asked n.product) 1 0)

  pub held_few : length held ≤ length list
  held_few = omega (arith, ones held, sum_map (λ (n : Values). 1) (λ (x : ℕ × ℕ). (kept_at names x.0).name) held, held_different (λ (n : Values). 1), ones (different list), fewer_different list)
    where
      ones : {X : Type 0} (xs : List X) → sum_by (λ (x : X). 1) xs ≡ length xs
      ones [] = refl
      ones {X} (x ∷ xs) = omega (arith, sum_by-cons (λ (y : X). 1) x xs, ones xs)
