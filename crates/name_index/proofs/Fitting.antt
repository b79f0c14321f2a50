-- Lemmas: held numbers fit a table after each change.
use Rattle.std.proofs.Common.{◌≡◌, ℕ, suc, ◌+◌, ◌≤◌, Bool, true, false, cond, eqb, List, [], ◌∷◌, Option, Some, None, refl, sym, ap, subst, ◌∙◌, arith, eqb-true, eq-eqb}
use Rattle.std.specs.Prelude.{nat_eq, IsSome}
use Rattle.std.specs.List.{sum_by, AllByRecursion, Contains}
use Rattle.std.proofs.lemmas.Bool.{both_ways}
use Rattle.std.proofs.lemmas.Option.{none-some, same_Some}
use Rattle.std.proofs.lemmas.List.Sums.{sum_by-cons, get_or-le-sum_by}
use Rattle.std.proofs.lemmas.List.Elements.{recursion_from_All, All-from_recursion}
use Rattle.cpe_name.specs.Eleven.{Values}
use Rattle.name_index.specs.Elements.{SameElements}
use Rattle.name_index.specs.Table.{Names, Kept, kept, find_kept, kept_or, kept_at, IsLive, HasName, HoldsOnce, HoldsName, Releases}
use Rattle.name_index.specs.Index.{FitsTable, times_held}

-- The number is live, with this product number.
abbrev FitsAt : Names → ℕ × ℕ → Type 0
FitsAt names x = (k : Kept) × (find_kept names x.0 ≡ Some k) × (k.product ≡ x.1)

abbrev fits_by : Option Kept → ℕ → Bool
fits_by None product = false
fits_by (Some k) product = nat_eq k.product product

-- 1 if the number doesn't fit the table, else 0
abbrev misfit : Names → ℕ × ℕ → ℕ
misfit names x = cond (fits_by (find_kept names x.0) x.1) 0 1

fit_none : (names : Names) (x : ℕ × ℕ) → FitsAt names x → misfit names x ≡ 0
fit_none names x h =
    ap {B = ℕ} (λ (o : Option Kept). cond (fits_by o x.1) 0 1) h.1 ∙ ap {B = ℕ} (λ (b : Bool). cond b 0 1) (eq-eqb h.0.product x.1 h.2)

none_fit : (names : Names) (x : ℕ × ℕ) → misfit names x ≡ 0 → FitsAt names x
none_fit names x h = by (find_kept names x.0) refl
  where
    by : (o : Option Kept) → find_kept names x.0 ≡ o → FitsAt names x
    by None e = absurd (omega (arith, h, ap {B = ℕ} (λ (o : Option Kept). cond (fits_by o x.1) 0 1) e))
    by (Some k) e = at (nat_eq k.product x.1) refl
      where
        at : (b : Bool) → nat_eq k.product x.1 ≡ b → FitsAt names x
        at true same = (k, e, eqb-true k.product x.1 same)
        at false other = absurd (omega (arith, h, ap {B = ℕ} (λ (o : Option Kept). cond (fits_by o x.1) 0 1) e, ap {B = ℕ} (λ (b : Bool). cond b 0 1) other))

fits_sum : (names : Names) (held : List (ℕ × ℕ)) → AllByRecursion (FitsAt names) held → sum_by (misfit names) held ≡ 0
fits_sum names [] h = refl
fits_sum names (x ∷ held) h = omega (arith, sum_by-cons (misfit names) x held, fit_none names x h.0, fits_sum names held h.1)

sum_fits : (names : Names) (held : List (ℕ × ℕ)) → sum_by (misfit names) held ≡ 0 → AllByRecursion (FitsAt names) held
sum_fits names [] h = tt
sum_fits names (x ∷ held) h =
    (none_fit names x (omega (arith, h, sum_by-cons (misfit names) x held)), sum_fits names held (omega (arith, h, sum_by-cons (misfit names) x held)))

opened : (names : Names) (held : List (ℕ × ℕ)) → FitsTable held names → AllByRecursion (FitsAt names) held
opened names held fits = recursion_from_All (FitsAt names) held fits

closed : (names : Names) (held : List (ℕ × ℕ)) → AllByRecursion (FitsAt names) held → FitsTable held names
closed names held h = All-from_recursion (FitsAt names) held h

-- ---- a name is held

hold_at : (old new : Names) (id : ℕ) (name : Values) (x : ℕ × ℕ) → HoldsName old new id name → FitsAt old x → FitsAt new x
hold_at old new id name x h fit = by (eqb x.0 id) refl
  where
    raised : (o : Option Kept) → o ≡ Some fit.0 → HoldsOnce o name (find_kept new id) → (k : Kept) × (find_kept new id ≡ Some k) × (k.product ≡ fit.0.product)
    raised None e held = absurd (none-some fit.0 e)
    raised (Some k) e held = (kept k.name (k.holds + 1) k.product, held.1, ap (λ (j : Kept). j.product) (same_Some k fit.0 e))

    by : (b : Bool) → eqb x.0 id ≡ b → FitsAt new x
    by true e =
        let is : x.0 ≡ id = eqb-true x.0 id e in
        let r = raised (find_kept old id) (ap (find_kept old) (sym is) ∙ fit.1) h.held in
        (r.0, ap (find_kept new) is ∙ r.1, r.2 ∙ fit.2)
    by false e = (fit.0, h.others x.0 (λ is. both_ways _ e (eq-eqb x.0 id is)) ∙ fit.1, fit.2)

hold_all : (old new : Names) (id : ℕ) (name : Values) (held : List (ℕ × ℕ)) → HoldsName old new id name → AllByRecursion (FitsAt old) held → AllByRecursion (FitsAt new) held
hold_all old new id name [] h fits = tt
hold_all old new id name (x ∷ held) h fits = (hold_at old new id name x h fits.0, hold_all old new id name held h fits.1)

pub held_fits : (old new : Names) (id : ℕ) (name : Values) (held : List (ℕ × ℕ)) → HoldsName old new id name → FitsTable held old → FitsTable held new
held_fits old new id name held h fits = closed new held (hold_all old new id name held h (opened old held fits))

pub number_fresh : (old new : Names) (id : ℕ) (name : Values) → HoldsName old new id name → ((other : ℕ) → HasName old other name → ⊥) → find_kept old id ≡ None
number_fresh old new id name h none = by (find_kept old id) refl h.held
  where
    by : (o : Option Kept) → find_kept old id ≡ o → HoldsOnce o name (find_kept new id) → find_kept old id ≡ None
    by None e held = e
    by (Some k) e held = absurd (none id (k, e, held.0))

-- ---- a number is released

release_all : (old new : Names) (id : ℕ) (held : List (ℕ × ℕ)) → Releases old new id → times_held held id ≡ 0 → AllByRecursion (FitsAt old) held → AllByRecursion (FitsAt new) held
release_all old new id [] r none fits = tt
release_all old new id (x ∷ held) r none fits = (
  (fits.0.0, r.others x.0 (λ is. absurd (omega (arith, none, sum_by-cons (λ (y : ℕ × ℕ). cond (nat_eq id y.0) 1 0) x held, ap {B = ℕ} (λ (b : Bool). cond b 1 0) (eq-eqb id x.0 (sym is))))) ∙ fits.0.1, fits.0.2),
  release_all old new id held r (omega (arith, none, sum_by-cons (λ (y : ℕ × ℕ). cond (nat_eq id y.0) 1 0) x held)) fits.1,
)

pub released_fits : (old new : Names) (id : ℕ) (held : List (ℕ × ℕ)) → Releases old new id → times_held held id ≡ 0 → FitsTable held old → FitsTable held new
released_fits old new id held r none fits = closed new held (release_all old new id held r none (opened old held fits))

-- For a live number, `find_kept` returns what `kept_at` returns.
pub live_is : (names : Names) (id : ℕ) → IsLive names id → find_kept names id ≡ Some (kept_at names id)
live_is names id h = by (find_kept names id) refl h
  where
    by : (o : Option Kept) → find_kept names id ≡ o → IsSome o → o ≡ Some (kept_or o)
    by None e h = absurd cc
    by (Some k) e h = refl

-- ---- a number is added to the index, or removed

live_fits : (names : Names) (id : ℕ) → IsLive names id → FitsAt names (id, (kept_at names id).product)
live_fits names id live = by (find_kept names id) refl (subst IsSome refl live)
  where
    by : (o : Option Kept) → find_kept names id ≡ o → IsSome o → FitsAt names (id, (kept_at names id).product)
    by None e some = absurd cc
    by (Some k) e some = (k, e, sym (ap (λ (o : Option Kept). (kept_or o).product) e))

pub added_fits : (names : Names) (id : ℕ) (held more : List (ℕ × ℕ)) → IsLive names id → SameElements ((id, (kept_at names id).product) ∷ held) more → FitsTable held names → FitsTable more names
added_fits names id held more live same fits =
    let all = fits_sum names ((id, (kept_at names id).product) ∷ held) (live_fits names id live, opened names held fits) in
    closed names more (sum_fits names more (sym (same (misfit names)) ∙ all))

pub dropped_fits : (names : Names) (id product : ℕ) (held fewer : List (ℕ × ℕ)) → SameElements held ((id, product) ∷ fewer) → FitsTable held names → FitsTable fewer names
dropped_fits names id product held fewer same fits =
    (λ (h : AllByRecursion (FitsAt names) ((id, product) ∷ fewer)). closed names fewer h.1)
    (sum_fits names ((id, product) ∷ fewer) (sym (same (misfit names)) ∙ fits_sum names held (opened names held fits)))

-- ---- a number that isn't live isn't held

none_held : (names : Names) (id : ℕ) (held : List (ℕ × ℕ)) → AllByRecursion (FitsAt names) held → find_kept names id ≡ None → times_held held id ≡ 0
none_held names id [] fits none = refl
none_held names id (x ∷ held) fits none = by (nat_eq id x.0) refl (none_held names id held fits.1 none)
  where
    by : (b : Bool) → nat_eq id x.0 ≡ b → times_held held id ≡ 0 → times_held (x ∷ held) id ≡ 0
    by true e rest = absurd (none-some fits.0.0 (sym none ∙ ap (find_kept names) (eqb-true id x.0 e) ∙ fits.0.1))
    by false e rest = omega (arith, rest, sum_by-cons (λ (y : ℕ × ℕ). cond (nat_eq id y.0) 1 0) x held, ap {B = ℕ} (λ (b : Bool). cond b 1 0) e)

pub fresh_held : (names : Names) (id : ℕ) (held : List (ℕ × ℕ)) → FitsTable held names → find_kept names id ≡ None → times_held held id ≡ 0
fresh_held names id held fits none = none_held names id held (opened names held fits) none

-- ---- members of a list

abbrev pub is_pair : ℕ → ℕ → ℕ × ℕ → ℕ
is_pair id product x = cond (nat_eq product x.1) (cond (nat_eq id x.0) 1 0) 0

pub pair_counts : (id product : ℕ) (xs : List (ℕ × ℕ)) → Contains xs (id, product) → 1 ≤ sum_by (is_pair id product) xs
pair_counts id product xs has =
    let itself : is_pair id product (id, product) ≡ 1 = ap {B = ℕ} (λ (b : Bool). cond b (cond (nat_eq id id) 1 0) 0) (eq-eqb product product refl) ∙ ap {B = ℕ} (λ (b : Bool). cond b 1 0) (eq-eqb id id refl) in
    omega (arith, get_or-le-sum_by (is_pair id product) xs has.0 (id, product) has.1, ap (is_pair id product) has.2, itself)

pair_present : (id product : ℕ) (xs : List (ℕ × ℕ)) → 1 ≤ sum_by (is_pair id product) xs → Contains xs (id, product)
pair_present id product [] h = absurd (omega (arith, h))
pair_present id product (x ∷ xs) h = by (nat_eq product x.1) (nat_eq id x.0) refl refl (λ more. pair_present id product xs more)
  where
    further : Contains xs (id, product) → Contains (x ∷ xs) (id, product)
    further has = (suc has.0, omega (arith, has.1), has.2)

    by : (a b : Bool) → nat_eq product x.1 ≡ a → nat_eq id x.0 ≡ b → (1 ≤ sum_by (is_pair id product) xs → Contains xs (id, product)) → Contains (x ∷ xs) (id, product)
    by true true e f more = (0, omega arith, sym (ap (λ (n : ℕ). (n, product)) (eqb-true id x.0 f) ∙ ap (λ (n : ℕ). (x.0, n)) (eqb-true product x.1 e)))
    by true false e f more = further (more (omega (arith, h, sum_by-cons (is_pair id product) x xs, ap {B = ℕ} (λ (b : Bool). cond b (cond (nat_eq id x.0) 1 0) 0) e, ap {B = ℕ} (λ (b : Bool). cond b 1 0) f)))
    by false b e f more = further (more (omega (arith, h, sum_by-cons (is_pair id product) x xs, ap {B = ℕ} (λ (b : Bool). cond b (cond (nat_eq id x.0) 1 0) 0) e)))

pub pair_moves : (held more : List (ℕ × ℕ)) (id product : ℕ) → SameElements held more → Contains held (id, product) → Contains more (id, product)
pair_moves held more id product same has = pair_present id product more (omega (arith, same (is_pair id product), pair_counts id product held has))

-- ---- the number of a held name

pub held_live : (old new : Names) (id : ℕ) (name : Values) → HoldsName old new id name → IsLive new id
held_live old new id name h = by (find_kept old id) h.held
  where
    by : (o : Option Kept) → HoldsOnce o name (find_kept new id) → IsLive new id
    by None held = subst IsSome (sym held.1) refl
    by (Some k) held = subst IsSome (sym held.1) refl

pub held_name : (old new : Names) (id : ℕ) (name : Values) → HoldsName old new id name → (kept_at new id).name ≡ name
held_name old new id name h = by (find_kept old id) h.held
  where
    by : (o : Option Kept) → HoldsOnce o name (find_kept new id) → (kept_at new id).name ≡ name
    by None held = ap (λ (o : Option Kept). (kept_or o).name) held.1
    by (Some k) held = ap (λ (o : Option Kept). (kept_or o).name) held.1 ∙ held.0
