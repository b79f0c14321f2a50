-- Lemmas: numbers in order after a number was added or removed, and which of the numbers are found.
use Rattle.std.proofs.Common.{◌≡◌, ◌≢◌, ℕ, zero, suc, ◌+◌, ◌≤◌, Bool, true, false, cond, ◌||◌, List, [], ◌∷◌, map, Option, Some, None, slice_get, refl, sym, ap, ◌∙◌, arith, eq-eqb, eqb-true}
use Rattle.std.specs.Prelude.{IfSome, is_some, nat_eq}
use Rattle.std.specs.List.{AllByRecursion, Contains, IsDistinct, filter, list_any, sum_by}
use Rattle.std.proofs.lemmas.Bool.{both_ways, false_from_ne_true}
use Rattle.std.proofs.lemmas.Option.{none-some, same_Some}
use Rattle.std.proofs.lemmas.List.Sums.{sum_by-cons}
use Rattle.std.proofs.lemmas.List.Elements.{recursion_from_All}
use Rattle.std.proofs.lemmas.Map.Keys.{IsDistinct-head, IsDistinct-tail}
use Rattle.name_index.specs.cpe_name.Eleven.{Values}
use Rattle.name_index.specs.cpe_name.Equal.{same_name, same_name-Decides}
use Rattle.cpe_relation.specs.NameRelation.{covers}
use Rattle.name_index.specs.Elements.{SameElements}
use Rattle.name_index.specs.declared.table.NameId.{NameId}
use Rattle.name_index.specs.Table.{Names, Kept, find_kept, kept_or, kept_at, IsLive, IsNameTable, HasName}
use Rattle.name_index.specs.Index.{FitsTable, ids, is_covered, name_id, times_held}
use Rattle.name_index.proofs.Postings.{sum_map}
use Rattle.names_in_order.specs.InOrder.{AreInOrder, AreListedNames, names_numbered, same_id}
use Rattle.names_in_order.specs.Marked.{without_first_place}
use Rattle.names_in_order.proofs.OrderLemmas.{its_live, its_name, kept_live, name_by_number, same_number}

-- ---- whether a number is in a list

pub none_any : (numbers : List NameId) (id : NameId) → ((k : ℕ) → slice_get numbers k ≢ Some id) → list_any (same_id id) numbers ≡ false
none_any [] id none = refl
none_any (x ∷ xs) id none =
    let head : same_id id x ≡ false = false_from_ne_true _ (λ e. none 0 (ap {B = Option NameId} (λ (y : NameId). Some y) (sym (same_number id x e)))) in
    rw head (none_any xs id (λ k. none (suc k)))

pub occurs_at : (numbers : List NameId) (id : NameId) → list_any (same_id id) numbers ≡ true → (k : ℕ) × (slice_get numbers k ≡ Some id)
occurs_at [] id h = absurd cc
occurs_at (x ∷ xs) id h = by (same_id id x) refl (λ more. occurs_at xs id more)
  where
    by : (b : Bool) → same_id id x ≡ b → (list_any (same_id id) xs ≡ true → (k : ℕ) × (slice_get xs k ≡ Some id)) → (k : ℕ) × (slice_get (x ∷ xs) k ≡ Some id)
    by true e rest = (0, ap {B = Option NameId} (λ (y : NameId). Some y) (sym (same_number id x e)))
    by false e rest = let r = rest (rw e at h) in (suc r.0, r.1)

-- ---- a list without one of its numbers

-- The sum over a list is the sum over the list without a number, plus that number's part.
pub weighs_less : (f : NameId → ℕ) (numbers : List NameId) (id : NameId) → list_any (same_id id) numbers ≡ true → sum_by f numbers ≡ f id + sum_by f (without_first_place (same_id id) numbers)
weighs_less f [] id h = absurd cc
weighs_less f (x ∷ xs) id h = by (same_id id x) refl (λ more. weighs_less f xs id more)
  where
    by : (b : Bool) → same_id id x ≡ b → (list_any (same_id id) xs ≡ true → sum_by f xs ≡ f id + sum_by f (without_first_place (same_id id) xs)) → sum_by f (x ∷ xs) ≡ f id + sum_by f (cond b xs (x ∷ without_first_place (same_id id) xs))
    by true e rest = omega (arith, sum_by-cons f x xs, ap f (same_number id x e))
    by false e rest = omega (arith, sum_by-cons f x xs, sum_by-cons f x (without_first_place (same_id id) xs), rest (rw e at h))

-- Each number that is left was in the list.
pub was_there : (numbers : List NameId) (id x : NameId) (k : ℕ) → slice_get (without_first_place (same_id id) numbers) k ≡ Some x → (j : ℕ) × (slice_get numbers j ≡ Some x)
was_there [] id x k at = absurd (none-some x at)
was_there (y ∷ ys) id x k at = by (same_id id y) k at (was_there ys id x)
  where
    by : (b : Bool) (k : ℕ) → slice_get (cond b ys (y ∷ without_first_place (same_id id) ys)) k ≡ Some x → ((k : ℕ) → slice_get (without_first_place (same_id id) ys) k ≡ Some x → (j : ℕ) × (slice_get ys j ≡ Some x)) → (j : ℕ) × (slice_get (y ∷ ys) j ≡ Some x)
    by true k at rest = (suc k, at)
    by false zero at rest = (0, at)
    by false (suc k) at rest = let r = rest k at in (suc r.0, r.1)

-- The removed number is not among those that are left.
pub not_left : (numbers : List NameId) (id : NameId) → IsDistinct same_id numbers → (k : ℕ) → slice_get (without_first_place (same_id id) numbers) k ≢ Some id
not_left [] id d k at = none-some id at
not_left (x ∷ xs) id d k at = by (same_id id x) refl k at (not_left xs id)
  where
    others : (ys : List NameId) (k : ℕ) → AllByRecursion (λ y. same_id x y ≡ false) ys → slice_get ys k ≡ Some id → same_id x id ≡ false
    others [] k h at = absurd (none-some id at)
    others (y ∷ ys) zero h at = ap (same_id x) (sym (same_Some y id at)) ∙ h.0
    others (y ∷ ys) (suc k) h at = others ys k h.1 at

    by : (b : Bool) → same_id id x ≡ b → (k : ℕ) → slice_get (cond b xs (x ∷ without_first_place (same_id id) xs)) k ≡ Some id → (IsDistinct same_id xs → (k : ℕ) → slice_get (without_first_place (same_id id) xs) k ≢ Some id) → ⊥
    by true e k at rest = both_ways (same_id x id) (others xs k (IsDistinct-head same_id x xs d) at) (eq-eqb x.0 id.0 (sym (eqb-true id.0 x.0 e)))
    by false e zero at rest = both_ways (same_id id x) e (eq-eqb id.0 x.0 (ap (λ (y : NameId). y.0) (sym (same_Some x id at))))
    by false e (suc k) at rest = rest (IsDistinct-tail same_id x xs d) k at

without_by : {X Y : Type 0} (p : X → Bool) (q : Y → Bool) (f : X → Y) (xs : List X) → ((k : ℕ) (x : X) → slice_get xs k ≡ Some x → q (f x) ≡ p x) → map f (without_first_place p xs) ≡ without_first_place q (map f xs)
without_by p q f [] same = refl
without_by p q f (x ∷ xs) same =
    step (p x) (without_by p q f xs (λ k y at. same (suc k) y at)) ∙ ap (λ (b : Bool). cond b (map f xs) (f x ∷ without_first_place q (map f xs))) (sym (same 0 x refl))
  where
    step : (b : Bool) → map f (without_first_place p xs) ≡ without_first_place q (map f xs) → map f (cond b xs (x ∷ without_first_place p xs)) ≡ cond b (map f xs) (f x ∷ without_first_place q (map f xs))
    step true rest = refl
    step false rest = ap (λ (ys : List _). f x ∷ ys) rest

-- The names of the numbers that are left are the names without the removed number's name.
pub names_without_one : (table : Names) (numbers : List NameId) (id : NameId) → IsNameTable table → AreListedNames table numbers → list_any (same_id id) numbers ≡ true
    → names_numbered table (without_first_place (same_id id) numbers) ≡ without_first_place (same_name (kept_at table id.0).name) (names_numbered table numbers)
names_without_one table numbers id names live has =
    let at = occurs_at numbers id has in
    without_by (same_id id) (same_name (kept_at table id.0).name) (λ (x : NameId). (kept_at table x.0).name) numbers
    (λ k x here. name_by_number table numbers names live id (live at.0 id at.1) x (live k x here))

-- ---- removing what an index holds

-- A number of the list is held by the index.
pub held_once : (held : List (ℕ × ℕ)) (numbers : List NameId) (id : NameId) → SameElements (ids held) numbers → list_any (same_id id) numbers ≡ true → 1 ≤ times_held held id.0
held_once held numbers id same has =
    omega (arith, same is_number, sum_map is_number (λ (x : ℕ × ℕ). name_id x.0) held, weighs_less is_number numbers id has, ap {B = ℕ} (λ (b : Bool). cond b 1 0) (eq-eqb id.0 id.0 refl))
  where
    is_number : NameId → ℕ
    is_number x = cond (same_id id x) 1 0

-- The index holds the number with its product number.
pub held_present : (table : Names) (held : List (ℕ × ℕ)) (numbers : List NameId) (id : NameId) → FitsTable held table → SameElements (ids held) numbers → list_any (same_id id) numbers ≡ true → Contains held (id.0, (kept_at table id.0).product)
held_present table held numbers id fits same has = go held (recursion_from_All (λ (x : ℕ × ℕ). (k : Kept) × (find_kept table x.0 ≡ Some k) × (k.product ≡ x.1)) held fits) (held_once held numbers id same has)
  where
    is_id : ℕ × ℕ → ℕ
    is_id x = cond (nat_eq id.0 x.0) 1 0

    go : (held : List (ℕ × ℕ)) → AllByRecursion (λ (x : ℕ × ℕ). (k : Kept) × (find_kept table x.0 ≡ Some k) × (k.product ≡ x.1)) held → 1 ≤ times_held held id.0 → Contains held (id.0, (kept_at table id.0).product)
    go [] fits h = absurd (omega (arith, h))
    go (x ∷ held) fits h = by (nat_eq id.0 x.0) refl (λ more. go held fits.1 more)
      where
        by : (b : Bool) → nat_eq id.0 x.0 ≡ b → (1 ≤ times_held held id.0 → Contains held (id.0, (kept_at table id.0).product)) → Contains (x ∷ held) (id.0, (kept_at table id.0).product)
        by true is more =
            let number : id.0 ≡ x.0 = eqb-true id.0 x.0 is in
            let product : (kept_at table id.0).product ≡ x.1 = ap (λ (n : ℕ). (kept_at table n).product) number ∙ ap (λ (o : Option Kept). (kept_or o).product) fits.0.1 ∙ fits.0.2 in
            (0, omega arith, sym (ap (λ (n : ℕ). (n, (kept_at table id.0).product)) number ∙ ap (λ (n : ℕ). (x.0, n)) product))
        by false other more =
            let c = more (omega (arith, h, sum_by-cons is_id x held, ap {B = ℕ} (λ (b : Bool). cond b 1 0) other)) in
            (suc c.0, omega (arith, c.1), c.2)

-- After the removal the index holds exactly the numbers that are left.
pub held_less : (held fewer : List (ℕ × ℕ)) (numbers : List NameId) (id : NameId) (product : ℕ) → SameElements (ids held) numbers → list_any (same_id id) numbers ≡ true → SameElements held ((id.0, product) ∷ fewer)
    → SameElements (ids fewer) (without_first_place (same_id id) numbers)
held_less held fewer numbers id product same has dropped f =
    omega (
      arith,
      same f,
      sum_map f (λ (x : ℕ × ℕ). name_id x.0) held,
      sum_map f (λ (x : ℕ × ℕ). name_id x.0) fewer,
      dropped (λ (x : ℕ × ℕ). f (name_id x.0)),
      sum_by-cons (λ (x : ℕ × ℕ). f (name_id x.0)) (id.0, product) fewer,
      weighs_less f numbers id has,
    )

-- The numbers that are left are live.
pub live_less : (table : Names) (numbers : List NameId) (id : NameId) → AreListedNames table numbers → AreListedNames table (without_first_place (same_id id) numbers)
live_less table numbers id live k x at = let r = was_there numbers id x k at in live r.0 x r.1

pub removed_order : (table : Names) (held fewer : List (ℕ × ℕ)) (numbers : List NameId) (id : NameId) (product : ℕ) → AreInOrder table held numbers → list_any (same_id id) numbers ≡ true → FitsTable fewer table → SameElements held ((id.0, product) ∷ fewer)
    → AreInOrder table fewer (without_first_place (same_id id) numbers)
removed_order table held fewer numbers id product a has fits dropped = record {
  fits = fits;
  same = held_less held fewer numbers id product a.same has dropped;
  live = live_less table numbers id a.live;
}

-- ---- the covered names

-- Each number that passes a test was in the list.
passed_there : (q : NameId → Bool) (numbers : List NameId) (x : NameId) (k : ℕ) → slice_get (filter q numbers) k ≡ Some x → (j : ℕ) × (slice_get numbers j ≡ Some x)
passed_there q [] x k at = absurd (none-some x at)
passed_there q (y ∷ ys) x k at = by (q y) k at (passed_there q ys x)
  where
    by : (b : Bool) (k : ℕ) → slice_get (cond b (y ∷ filter q ys) (filter q ys)) k ≡ Some x → ((k : ℕ) → slice_get (filter q ys) k ≡ Some x → (j : ℕ) × (slice_get ys j ≡ Some x)) → (j : ℕ) × (slice_get (y ∷ ys) j ≡ Some x)
    by true zero at rest = (0, at)
    by true (suc k) at rest = let r = rest k at in (suc r.0, r.1)
    by false k at rest = let r = rest k at in (suc r.0, r.1)

pub covered_live : (table : Names) (numbers : List NameId) (q : NameId → Bool) → AreListedNames table numbers → AreListedNames table (filter q numbers)
covered_live table numbers q live k x at = let r = passed_there q numbers x k at in live r.0 x r.1

-- whether the name of a number passes the test
abbrev pub passes : (Values → Bool) → Names → NameId → Bool
passes test table id = test (kept_at table id.0).name

-- the names of the numbers whose names pass the test
pub passing_names : (test : Values → Bool) (table : Names) (numbers : List NameId) → names_numbered table (filter (passes test table) numbers) ≡ filter test (names_numbered table numbers)
passing_names test table [] = refl
passing_names test table (x ∷ xs) = by (passes test table x) (passing_names test table xs)
  where
    by : (b : Bool) → names_numbered table (filter (passes test table) xs) ≡ filter test (names_numbered table xs)
        → names_numbered table (cond b (x ∷ filter (passes test table) xs) (filter (passes test table) xs)) ≡ cond b ((kept_at table x.0).name ∷ filter test (names_numbered table xs)) (filter test (names_numbered table xs))
    by true rest = ap (λ (ns : List Values). (kept_at table x.0).name ∷ ns) rest
    by false rest = rest

pub covered_names : (table : Names) (numbers : List NameId) (name : Values) → names_numbered table (filter (is_covered table name) numbers) ≡ filter (covers name) (names_numbered table numbers)
covered_names table numbers name = passing_names (covers name) table numbers

-- ---- the number of a name

any_by : {X Y : Type 0} (p : X → Bool) (q : Y → Bool) (f : X → Y) (xs : List X) → ((k : ℕ) (x : X) → slice_get xs k ≡ Some x → q (f x) ≡ p x) → list_any q (map f xs) ≡ list_any p xs
any_by p q f [] same = refl
any_by p q f (x ∷ xs) same =
    let head = same 0 x refl in
    let rest = any_by p q f xs (λ k y at. same (suc k) y at) in
    λ i. head i || rest i

-- A live number is in the list exactly if its name is among the names of the list's numbers.
pub name_among : (table : Names) (numbers : List NameId) (id : NameId) (name : Values) → IsNameTable table → AreListedNames table numbers → HasName table id.0 name → list_any (same_name name) (names_numbered table numbers) ≡ list_any (same_id id) numbers
name_among table numbers id name names live has =
    let here : IsLive table id.0 = its_live table id.0 name has in
    ap (λ (n : Values). list_any (same_name n) (names_numbered table numbers)) (sym (its_name table id.0 name has))
    ∙ any_by (same_id id) (same_name (kept_at table id.0).name) (λ (x : NameId). (kept_at table x.0).name) numbers (λ k x at. name_by_number table numbers names live id here x (live k x at))

-- A name without a number is not among the names of the list's numbers.
pub name_nowhere : (table : Names) (numbers : List NameId) (name : Values) → AreListedNames table numbers → ((id : ℕ) → HasName table id name → ⊥) → list_any (same_name name) (names_numbered table numbers) ≡ false
name_nowhere table [] name live none = refl
name_nowhere table (x ∷ xs) name live none =
    let k = kept_live table x.0 (live 0 x refl) in
    let head : same_name name (kept_at table x.0).name ≡ false =
    false_from_ne_true _ (λ e. none x.0 (k.0, k.1, sym (ap (λ (o : Option Kept). (kept_or o).name) k.1) ∙ sym ((same_name-Decides name (kept_at table x.0).name).0 e))) in
    rw head (name_nowhere table xs name (λ j y at. live (suc j) y at) none)

-- `cond b (Some id) None` is a number exactly if `b` is true.
pub found_if : (b : Bool) (id : NameId) → is_some (cond b (Some id) None) ≡ b
found_if true id = refl
found_if false id = refl

pub found_is : (b : Bool) (id : NameId) (P : NameId → Type 0) → (b ≡ true → P id) → IfSome (cond b (Some id) None) P
found_is true id P h = h refl
found_is false id P h = tt
