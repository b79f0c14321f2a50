-- Lemmas: the lists that counts show, after additions and removals, and under tests.
use Rattle.std.proofs.Common.{◌≡◌, ◌≢◌, ℕ, zero, suc, ◌+◌, ◌≤◌, Bool, true, false, cond, ◌||◌, List, [], ◌∷◌, ◌++◌, length, Option, Some, None, refl, sym, ap, ◌∙◌, inl, inr, arith, eq-eqb, eqb-true}
use Rattle.std.specs.Prelude.{nat_eq}
use Rattle.std.specs.List.{list_any, AllByRecursion}
use Rattle.std.proofs.lemmas.Bool.{cases_Bool, both_ways, or_left, or_right}
use Rattle.std.proofs.lemmas.Option.{none-some}
use Rattle.std.proofs.lemmas.List.Sums.{sum_by-cons, sum_by-append}
use Rattle.cpe_rows.specs.cpe_name.Eleven.{Values}
use Rattle.cpe_rows.specs.cpe_name.Equal.{same_name, same_name-Decides}
use Rattle.name_index.specs.Elements.{SameElements}
use Rattle.name_index.proofs.Sums.{one_at_most}
use Rattle.name_index.specs.declared.table.NameId.{NameId}
use Rattle.name_index.specs.Table.{Names, Kept, kept_or, find_kept, kept_at, IsNameTable, IsLive}
pub use Rattle.name_index.proofs.Fitting.{live_is}
use Rattle.fact_laws.specs.Shown.{times_named, times_in_list, name_at, names_at, IsKnown, Shows}

pub one_if : Bool → ℕ
one_if b = cond b 1 0

-- ---- tests of names

pub same_names : (a b : Values) → a ≡ b → same_name a b ≡ true
same_names a b e = (same_name-Decides a b).1 e

pub other_names : (a b : Values) → a ≢ b → same_name a b ≡ false
other_names a b ne = elim (cases_Bool (same_name a b)) [ inl t ↦ absurd (ne ((same_name-Decides a b).0 t)) | inr f ↦ f ]

pub named_first : (n m : Values) (list : List Values) → times_named n (m ∷ list) ≡ cond (same_name n m) 1 0 + times_named n list
named_first n m list = sum_by-cons (λ (x : Values). cond (same_name n x) 1 0) m list

pub named_both : (n : Values) (xs ys : List Values) → times_named n (xs ++ ys) ≡ times_named n xs + times_named n ys
named_both n xs ys = sum_by-append (λ (x : Values). cond (same_name n x) 1 0) xs ys

pub number_first : (id : ℕ) (x : NameId) (numbers : List NameId) → times_in_list id (x ∷ numbers) ≡ cond (nat_eq id x.0) 1 0 + times_in_list id numbers
number_first id x numbers = sum_by-cons (λ (y : NameId). cond (nat_eq id y.0) 1 0) x numbers

pub other_number : (id other : ℕ) → id ≢ other → nat_eq id other ≡ false
other_number id other ne = elim (cases_Bool (nat_eq id other)) [ inl t ↦ absurd (ne (eqb-true id other t)) | inr f ↦ f ]

-- ---- live numbers

-- two numbers are equal exactly if their names are equal
same_tests : (names : Names) → IsNameTable names → (id : ℕ) (k : Kept) (x : NameId) → find_kept names id ≡ Some k → IsLive names x.0 → nat_eq id x.0 ≡ same_name k.name (name_at names x)
same_tests names are id k x e live = elim (cases_Bool (nat_eq id x.0)) [
  | inl t ↦
      t ∙ sym (same_names k.name (name_at names x) (sym (ap (λ (o : Option Kept). (kept_or o).name) (sym (ap (find_kept names) (eqb-true id x.0 t)) ∙ e))))
  | inr f ↦
      f ∙ sym (other_names k.name (name_at names x) (λ same. both_ways (nat_eq id x.0) f (eq-eqb id x.0 (are.different id x.0 k (kept_at names x.0) e (live_is names x.0 live) same))))
]

-- a name is in the list of names as often as its number is in the list of numbers
pub times_agree : (names : Names) → IsNameTable names → (id : ℕ) (k : Kept) → find_kept names id ≡ Some k → (numbers : List NameId) → AllByRecursion (λ (x : NameId). IsLive names x.0) numbers
    → times_in_list id numbers ≡ times_named k.name (names_at names numbers)
times_agree names are id k e [] live = refl
times_agree names are id k e (x ∷ numbers) live =
    omega (
      arith,
      number_first id x numbers,
      named_first k.name (name_at names x) (names_at names numbers),
      ap {B = ℕ} (λ (b : Bool). cond b 1 0) (same_tests names are id k x e live.0),
      times_agree names are id k e numbers live.1,
    )

none_there : (names : Names) (id : ℕ) → find_kept names id ≡ None → (numbers : List NameId) → AllByRecursion (λ (x : NameId). IsLive names x.0) numbers → times_in_list id numbers ≡ 0
none_there names id none [] live = refl
none_there names id none (x ∷ numbers) live =
    omega (
      arith,
      number_first id x numbers,
      ap {B = ℕ} (λ (b : Bool). cond b 1 0) (other_number id x.0 (λ is. absurd (none-some (kept_at names x.0) (sym none ∙ ap (find_kept names) is ∙ live_is names x.0 live.0)))),
      none_there names id none numbers live.1,
    )

pub all_known : (names : Names) (n : Values) (numbers : List NameId) → AllByRecursion (λ (x : NameId). IsLive names x.0) numbers → 1 ≤ times_named n (names_at names numbers) → IsKnown names n
all_known names n [] live h = absurd (omega (arith, h))
all_known names n (x ∷ numbers) live h = by (same_name n (name_at names x)) refl (all_known names n numbers live.1)
  where
    by : (b : Bool) → same_name n (name_at names x) ≡ b → (1 ≤ times_named n (names_at names numbers) → IsKnown names n) → IsKnown names n
    by true t later = (x.0, (kept_at names x.0, live_is names x.0 live.0, sym ((same_name-Decides n (name_at names x)).0 t)))
    by false t later = later (omega (arith, h, named_first n (name_at names x) (names_at names numbers), ap {B = ℕ} (λ (b : Bool). cond b 1 0) t))

-- ---- additions and removals

pub shows_none : (names : Names) → Shows names (λ id. 0) []
shows_none names = record { counts = λ id k e. refl; nowhere = λ id e. refl; known = λ n h. absurd (omega (arith, h)) }

pub shows_more : (names : Names) (old new : ℕ → ℕ) (numbers : List NameId) (list : List Values) → IsNameTable names → AllByRecursion (λ (x : NameId). IsLive names x.0) numbers
    → ((id : ℕ) → new id ≡ old id + times_in_list id numbers) → Shows names old list → Shows names new (names_at names numbers ++ list)
shows_more names old new numbers list are live step s = record {
  counts = λ id k e. omega (arith, step id, s.counts id k e, times_agree names are id k e numbers live, named_both k.name (names_at names numbers) list);
  nowhere = λ id e. omega (arith, step id, s.nowhere id e, none_there names id e numbers live);
  known = λ n h. known_in n (times_named n list) (names_at names numbers) refl h;
}
  where
    known_in : (n : Values) (m : ℕ) (added : List Values) → added ≡ names_at names numbers → 1 ≤ times_named n (added ++ list) → IsKnown names n
    known_in n m added is h = by (times_named n (names_at names numbers)) refl
      where
        by : (t : ℕ) → times_named n (names_at names numbers) ≡ t → IsKnown names n
        by zero e = s.known n (omega (arith, h, named_both n added list, ap (times_named n) is, e))
        by (suc t) e = all_known names n numbers live (omega (arith, e))

pub shows_fewer : (names : Names) (old new : ℕ → ℕ) (numbers : List NameId) (list : List Values) → IsNameTable names → AllByRecursion (λ (x : NameId). IsLive names x.0) numbers
    → ((id : ℕ) → new id + times_in_list id numbers ≡ old id) → Shows names old (names_at names numbers ++ list) → Shows names new list
shows_fewer names old new numbers list are live step s = record {
  counts = λ id k e. omega (arith, step id, s.counts id k e, times_agree names are id k e numbers live, named_both k.name (names_at names numbers) list);
  nowhere = λ id e. omega (arith, step id, s.nowhere id e);
  known = λ n h. s.known n (omega (arith, h, named_both n (names_at names numbers) list));
}

pub shows_order : (names : Names) (times : ℕ → ℕ) (list other : List Values) → SameElements list other → Shows names times list → Shows names times other
shows_order names times list other same s = record {
  counts = λ id k e. s.counts id k e ∙ same (λ (x : Values). cond (same_name k.name x) 1 0);
  nowhere = s.nowhere;
  known = λ n h. s.known n (omega (arith, h, same (λ (x : Values). cond (same_name n x) 1 0)));
}

pub shows_same : (names : Names) (old new : ℕ → ℕ) (list : List Values) → ((id : ℕ) → new id ≡ old id) → Shows names old list → Shows names new list
shows_same names old new list same s = record {
  counts = λ id k e. same id ∙ s.counts id k e;
  nowhere = λ id e. same id ∙ s.nowhere id e;
  known = s.known;
}

few_named : (n : Values) (list : List Values) → times_named n list ≤ length list
few_named n [] = omega arith
few_named n (x ∷ list) = omega (arith, named_first n x list, one_at_most (same_name n x), few_named n list)

pub shows_few : (names : Names) (times : ℕ → ℕ) (list : List Values) (id : ℕ) → Shows names times list → times id ≤ length list
shows_few names times list id s = by (find_kept names id) refl
  where
    by : (o : Option Kept) → find_kept names id ≡ o → times id ≤ length list
    by None e = omega (arith, s.nowhere id e)
    by (Some k) e = omega (arith, s.counts id k e, few_named k.name list)

pub shows_part : (names : Names) (times : ℕ → ℕ) (numbers : List NameId) (list : List Values) (id : ℕ) → IsNameTable names → AllByRecursion (λ (x : NameId). IsLive names x.0) numbers
    → Shows names times (names_at names numbers ++ list) → times_in_list id numbers ≤ times id
shows_part names times numbers list id are live s = by (find_kept names id) refl
  where
    by : (o : Option Kept) → find_kept names id ≡ o → times_in_list id numbers ≤ times id
    by None e = omega (arith, none_there names id e numbers live)
    by (Some k) e = omega (arith, s.counts id k e, times_agree names are id k e numbers live, named_both k.name (names_at names numbers) list)

-- ---- names that pass a test

pub any_named : (passes : Values → Bool) (n : Values) (list : List Values) → passes n ≡ true → 1 ≤ times_named n list → list_any passes list ≡ true
any_named passes n [] t h = absurd (omega (arith, h))
any_named passes n (x ∷ list) t h = by (same_name n x) refl (any_named passes n list t)
  where
    by : (b : Bool) → same_name n x ≡ b → (1 ≤ times_named n list → list_any passes list ≡ true) → (passes x || list_any passes list) ≡ true
    by true e later = or_left (passes x) (list_any passes list) (ap passes (sym ((same_name-Decides n x).0 e)) ∙ t)
    by false e later = or_right (passes x) (list_any passes list) (later (omega (arith, h, named_first n x list, ap {B = ℕ} (λ (b : Bool). cond b 1 0) e)))

pub shown_passes : (names : Names) (times : ℕ → ℕ) (list : List Values) (passes : Values → Bool) (id : ℕ) → Shows names times list → 1 ≤ times id → passes (kept_at names id).name ≡ true → list_any passes list ≡ true
shown_passes names times list passes id s h t = by (find_kept names id) refl
  where
    by : (o : Option Kept) → find_kept names id ≡ o → list_any passes list ≡ true
    by None e = absurd (omega (arith, h, s.nowhere id e))
    by (Some k) e = any_named passes k.name list (ap (λ (o : Option Kept). passes (kept_or o).name) (sym e) ∙ t) (omega (arith, h, s.counts id k e))

pub first_passing : (passes : Values → Bool) (list : List Values) → list_any passes list ≡ true → (n : Values) × (passes n ≡ true) × (1 ≤ times_named n list)
first_passing passes [] h = absurd cc
first_passing passes (x ∷ list) h = by (passes x) refl (first_passing passes list)
  where
    by : (b : Bool) → passes x ≡ b → (list_any passes list ≡ true → (n : Values) × (passes n ≡ true) × (1 ≤ times_named n list)) → (n : Values) × (passes n ≡ true) × (1 ≤ times_named n (x ∷ list))
    by true e later = (x, e, omega (arith, named_first x x list, ap {B = ℕ} (λ (b : Bool). cond b 1 0) (same_names x x refl)))
    by false e later =
        let found = later (sym (ap (λ (b : Bool). b || list_any passes list) e) ∙ h) in
        (found.0, found.1, omega (arith, found.2, named_first found.0 x list))

pub passing_shown : (names : Names) (times : ℕ → ℕ) (list : List Values) (passes : Values → Bool) → Shows names times list → list_any passes list ≡ true
    → (id : ℕ) × (1 ≤ times id) × (passes (kept_at names id).name ≡ true)
passing_shown names times list passes s h =
    let found = first_passing passes list h in
    let known = s.known found.0 found.2 in
    let k = known.1.0 in
    let is : k.name ≡ found.0 = known.1.2 in (
      known.0,
      omega (arith, found.2, s.counts known.0 k known.1.1, ap (λ (n : Values). times_named n list) is),
      ap (λ (o : Option Kept). passes (kept_or o).name) known.1.1 ∙ ap passes is ∙ found.1,
    )
