-- Lemmas: targets fit another table in which their numbers have the same names and products.
use Rattle.std.proofs.Common.{◌≡◌, ◌≢◌, ◌⊎◌, ℕ, ◌+◌, ◌-◌, ◌≤◌, Bool, true, false, cond, List, [], ◌∷◌, count_by, Option, Some, None, refl, sym, ap, ◌∙◌, inl, inr, arith, eq-eqb}
use Rattle.std.specs.Prelude.{nat_eq, nat_lt, not}
use Rattle.std.specs.List.{AllByRecursion}
use Rattle.std.proofs.lemmas.Bool.{cases_eq}
use Rattle.std.proofs.lemmas.Option.{none-some, same_Some}
use Rattle.std.proofs.lemmas.List.Sums.{sum_by-cons, sum_by-append}
use Rattle.std.proofs.lemmas.List.Elements.{recursion_from_All, All-from_recursion}
use Rattle.name_index.specs.cpe_values.Lower.{has_specials}
use Rattle.name_index.specs.cpe_name.Eleven.{Values}
use Rattle.name_index.specs.cpe_name.Wildcards.{name_has_specials}
use Rattle.name_index.specs.Table.{Names, Kept, kept, kept_or, find_kept, kept_at, HoldsOnce, HoldsName, Releases, released}
use Rattle.name_index.specs.Index.{times_held}
use Rattle.level_board.specs.Targets.{Targets, FitsTargets, StaysAt, held}
use Rattle.level_board.proofs.TargetChanges.{held_apart}

-- ---- a name is held, or released

pub hold_stays : (old new : Names) (id : ℕ) (name : Values) → HoldsName old new id name → (x : ℕ) → StaysAt old new x
hold_stays old new id name h x k e = by (cases_eq x id)
  where
    raised : (o : Option Kept) → o ≡ Some k → HoldsOnce o name (find_kept new id) → (l : Kept) × (find_kept new id ≡ Some l) × (l.name ≡ k.name) × (l.product ≡ k.product)
    raised None none held = absurd (none-some k none)
    raised (Some j) some held = (kept j.name (j.holds + 1) j.product, held.1, ap (λ (i : Kept). i.name) (same_Some j k some), ap (λ (i : Kept). i.product) (same_Some j k some))

    by : (x ≡ id) ⊎ (x ≢ id) → (l : Kept) × (find_kept new x ≡ Some l) × (l.name ≡ k.name) × (l.product ≡ k.product)
    by (inl is) = let r = raised (find_kept old id) (ap (find_kept old) (sym is) ∙ e) h.held in (r.0, ap (find_kept new) is ∙ r.1, r.2, r.3)
    by (inr ne) = (k, h.others x ne ∙ e, refl, refl)

pub release_stays : (old new : Names) (id : ℕ) (t : Targets) → Releases old new id → (find_kept new id ≡ None → times_held (held t) id ≡ 0) → (x : ℕ) → 1 ≤ times_held (held t) x → StaysAt old new x
release_stays old new id t r none x more k e = by (cases_eq x id)
  where
    left : x ≡ id → (b : Bool) → nat_lt 1 k.holds ≡ b → (l : Kept) × (find_kept new x ≡ Some l) × (l.name ≡ k.name) × (l.product ≡ k.product)
    left is b many = at b (ap (find_kept new) is ∙ r.dropped ∙ ap (λ (o : Option Kept). released o) (ap (find_kept old) (sym is) ∙ e) ∙ ap (λ (c : Bool). cond c (Some (kept k.name (k.holds - 1) k.product)) None) many)
      where
        at : (c : Bool) → find_kept new x ≡ cond c (Some (kept k.name (k.holds - 1) k.product)) None → (l : Kept) × (find_kept new x ≡ Some l) × (l.name ≡ k.name) × (l.product ≡ k.product)
        at true now = (kept k.name (k.holds - 1) k.product, now, refl, refl)
        at false now = absurd (omega (arith, more, ap (times_held (held t)) is, none (ap (find_kept new) (sym is) ∙ now)))

    by : (x ≡ id) ⊎ (x ≢ id) → (l : Kept) × (find_kept new x ≡ Some l) × (l.name ≡ k.name) × (l.product ≡ k.product)
    by (inl is) = left is (nat_lt 1 k.holds) refl
    by (inr ne) = (k, r.others x ne ∙ e, refl, refl)

-- ---- what is true of each held number

abbrev FitsAt : Names → ℕ × ℕ → Type 0
FitsAt names x = (k : Kept) × (find_kept names x.0 ≡ Some k) × (k.product ≡ x.1)

abbrev name_by : Names → ℕ × ℕ → Values
name_by names x = (kept_at names x.0).name

-- The numbers have the same names in both tables. This definition has a name so that the prover doesn't unfold it.
abbrev SameNames : Names → Names → List (ℕ × ℕ) → Type 0
SameNames old new xs = AllByRecursion (λ (x : ℕ × ℕ). name_by new x ≡ name_by old x) xs

itself : (x : ℕ × ℕ) (xs : List (ℕ × ℕ)) → 1 ≤ times_held (x ∷ xs) x.0
itself x xs = omega (arith, sum_by-cons (λ (y : ℕ × ℕ). cond (nat_eq x.0 y.0) 1 0) x xs, ap {B = ℕ} (λ (b : Bool). cond b 1 0) (eq-eqb x.0 x.0 refl))

further : (id : ℕ) (x : ℕ × ℕ) (xs : List (ℕ × ℕ)) → 1 ≤ times_held xs id → 1 ≤ times_held (x ∷ xs) id
further id x xs h = omega (arith, h, sum_by-cons (λ (y : ℕ × ℕ). cond (nat_eq id y.0) 1 0) x xs)

module _ (old new : Names) where
  fit_all : (xs : List (ℕ × ℕ)) → ((id : ℕ) → 1 ≤ times_held xs id → StaysAt old new id) → AllByRecursion (FitsAt old) xs → AllByRecursion (FitsAt new) xs
  fit_all [] stay h = tt
  fit_all (x ∷ xs) stay h =
      let l = stay x.0 (itself x xs) h.0.0 h.0.1 in
      ((l.0, l.1, l.3 ∙ h.0.2), fit_all xs (λ id more. stay id (further id x xs more)) h.1)

  name_all : (xs : List (ℕ × ℕ)) → ((id : ℕ) → 1 ≤ times_held xs id → StaysAt old new id) → AllByRecursion (FitsAt old) xs → SameNames old new xs
  name_all [] stay h = tt
  name_all (x ∷ xs) stay h =
      let l = stay x.0 (itself x xs) h.0.0 h.0.1 in
      (ap (λ (o : Option Kept). (kept_or o).name) l.1 ∙ l.2 ∙ sym (ap (λ (o : Option Kept). (kept_or o).name) h.0.1), name_all xs (λ id more. stay id (further id x xs more)) h.1)

  -- A count that depends on names only is unchanged.
  same_count : (g : Values → Bool) (xs : List (ℕ × ℕ)) → SameNames old new xs → count_by (λ (x : ℕ × ℕ). g (name_by new x)) xs ≡ count_by (λ (x : ℕ × ℕ). g (name_by old x)) xs
  same_count g [] h = refl
  same_count g (x ∷ xs) h =
      omega (arith, sum_by-cons (λ (y : ℕ × ℕ). cond (g (name_by new y)) 1 0) x xs, sum_by-cons (λ (y : ℕ × ℕ). cond (g (name_by old y)) 1 0) x xs, ap {B = ℕ} (λ (n : Values). cond (g n) 1 0) h.0, same_count g xs h.1)

  pub targets_there : (t : Targets) → ((id : ℕ) → 1 ≤ times_held (held t) id → StaysAt old new id) → FitsTargets t old → FitsTargets t new
  targets_there t stay f = record {
    plain = All-from_recursion (FitsAt new) t.plain (fit_all t.plain plain_stay plain_fits);
    loose = All-from_recursion (FitsAt new) t.loose (fit_all t.loose loose_stay loose_fits);
    none_loose = same_count (λ v. has_specials v.product) t.plain plain_names ∙ f.none_loose;
    all_loose = same_count (λ v. not (has_specials v.product)) t.loose loose_names ∙ f.all_loose;
    opens = omega (
      arith,
      f.opens,
      sum_by-append (λ (x : ℕ × ℕ). cond (name_has_specials (name_by old x)) 1 0) t.plain t.loose,
      sum_by-append (λ (x : ℕ × ℕ). cond (name_has_specials (name_by new x)) 1 0) t.plain t.loose,
      same_count name_has_specials t.plain plain_names,
      same_count name_has_specials t.loose loose_names,
    );
  }
    where
      plain_stay : (id : ℕ) → 1 ≤ times_held t.plain id → StaysAt old new id
      plain_stay id more = stay id (omega (arith, more, held_apart t.plain t.loose id))

      loose_stay : (id : ℕ) → 1 ≤ times_held t.loose id → StaysAt old new id
      loose_stay id more = stay id (omega (arith, more, held_apart t.plain t.loose id))

      plain_fits : AllByRecursion (FitsAt old) t.plain
      plain_fits = recursion_from_All (FitsAt old) t.plain f.plain

      loose_fits : AllByRecursion (FitsAt old) t.loose
      loose_fits = recursion_from_All (FitsAt old) t.loose f.loose

      plain_names : SameNames old new t.plain
      plain_names = name_all t.plain plain_stay plain_fits

      loose_names : SameNames old new t.loose
      loose_names = name_all t.loose loose_stay loose_fits
