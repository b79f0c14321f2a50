-- Lemmas: what is unchanged if names of a table are held and released.
use Rattle.std.proofs.Common.{◌≡◌, ◌≢◌, ℕ, zero, suc, ◌+◌, ◌-◌, ◌<◌, Bool, true, false, cond, eqb, List, [], ◌∷◌, Option, Some, None, slice_get, refl, sym, ap, subst, ◌∙◌, eqb-true, eq-eqb, lt-ltb, arith}
use Rattle.std.specs.Prelude.{IsSome, nat_lt}
use Rattle.std.specs.List.{AllByRecursion, list_any}
use Rattle.std.proofs.lemmas.Bool.{both_ways, or_left, or_right}
use Rattle.std.proofs.lemmas.Option.{none-some, same_Some}
use Rattle.std.proofs.lemmas.List.Elements.{recursion_from_All, All-from_recursion}
use Rattle.name_index.specs.cpe_name.Eleven.{Values}
use Rattle.name_index.specs.cpe_name.Equal.{same_name, same_name-Decides}
use Rattle.name_index.specs.declared.table.NameId.{NameId}
use Rattle.name_index.specs.Table.{Names, Kept, kept, kept_or, find_kept, kept_at, IsLive, HoldsOnce, HoldsName, Releases, released}
use Rattle.name_index.specs.Index.{FitsTable, name_id, times_held}
use Rattle.names_in_order.specs.InOrder.{AreInOrder, AreListedNames, KeepsAll, names_numbered}
use Rattle.names_in_order.proofs.OrderLemmas.{kept_live, not_held}

-- The number has the same name and product as before.
abbrev StaysAt : Names → Kept → ℕ → Type 0
StaysAt new k x = (l : Kept) × (find_kept new x ≡ Some l) × (l.name ≡ k.name) × (l.product ≡ k.product)

-- Each live number has the same name and product as before.
abbrev StayAll : Names → Names → Type 0
StayAll old new = (x : ℕ) (k : Kept) → find_kept old x ≡ Some k → StaysAt new k x

pub hold_stays : (old new : Names) (id : ℕ) (name : Values) → HoldsName old new id name → StayAll old new
hold_stays old new id name h x k e = by (eqb x id) refl
  where
    raised : (o : Option Kept) → o ≡ Some k → HoldsOnce o name (find_kept new id) → StaysAt new k id
    raised None e held = absurd (none-some k e)
    raised (Some j) e held = (kept j.name (j.holds + 1) j.product, held.1, ap (λ (i : Kept). i.name) (same_Some j k e), ap (λ (i : Kept). i.product) (same_Some j k e))

    by : (b : Bool) → eqb x id ≡ b → StaysAt new k x
    by true is = subst (StaysAt new k) (sym (eqb-true x id is)) (raised (find_kept old id) (ap (find_kept old) (sym (eqb-true x id is)) ∙ e) h.held)
    by false ne = (k, h.others x (λ is. both_ways _ ne (eq-eqb x id is)) ∙ e, refl, refl)

pub release_stays : (old new : Names) (id : ℕ) → Releases old new id → IsLive new id → StayAll old new
release_stays old new id r live x k e = by (eqb x id) refl
  where
    left : x ≡ id → (b : Bool) → nat_lt 1 k.holds ≡ b → StaysAt new k id
    left is true many = (kept k.name (k.holds - 1) k.product, r.dropped ∙ ap (λ (o : Option Kept). released o) (ap (find_kept old) (sym is) ∙ e) ∙ ap (λ (b : Bool). cond b (Some (kept k.name (k.holds - 1) k.product)) None) many, refl, refl)
    left is false one =
        let gone : find_kept new id ≡ None = r.dropped ∙ ap (λ (o : Option Kept). released o) (ap (find_kept old) (sym is) ∙ e) ∙ ap (λ (b : Bool). cond b (Some (kept k.name (k.holds - 1) k.product)) None) one in
        let l = kept_live new id live in
        absurd (none-some l.0 (sym gone ∙ l.1))

    by : (b : Bool) → eqb x id ≡ b → StaysAt new k x
    by true is = subst (StaysAt new k) (sym (eqb-true x id is)) (left (eqb-true x id is) (nat_lt 1 k.holds) refl)
    by false ne = (k, r.others x (λ is. both_ways _ ne (eq-eqb x id is)) ∙ e, refl, refl)

pub keeps_stay : (old new : Names) → KeepsAll old new → StayAll old new
keeps_stay old new same x k e = (k, same x ∙ e, refl, refl)

abbrev FitsAt : Names → ℕ × ℕ → Type 0
FitsAt names x = (k : Kept) × (find_kept names x.0 ≡ Some k) × (k.product ≡ x.1)

fits_stay : (old new : Names) (held : List (ℕ × ℕ)) → StayAll old new → FitsTable held old → FitsTable held new
fits_stay old new held stay fits = All-from_recursion (FitsAt new) held (go held (recursion_from_All (FitsAt old) held fits))
  where
    go : (held : List (ℕ × ℕ)) → AllByRecursion (FitsAt old) held → AllByRecursion (FitsAt new) held
    go [] h = tt
    go (x ∷ held) h = let s = stay x.0 h.0.0 h.0.1 in ((s.0, s.1, s.3 ∙ h.0.2), go held h.1)

pub order_stays : (old new : Names) (held : List (ℕ × ℕ)) (numbers : List NameId) → StayAll old new → AreInOrder old held numbers → AreInOrder new held numbers
order_stays old new held numbers stay a = record {
  fits = fits_stay old new held stay a.fits;
  same = a.same;
  live = λ k x at. let o = kept_live old x.0 (a.live k x at) in subst IsSome (sym (stay x.0 o.0 o.1).1) refl;
}

-- ---- the names of the numbers

abbrev name_by : Names → NameId → Values
name_by table id = (kept_at table id.0).name

pub same_names : (old new : Names) (numbers : List NameId) → ((k : ℕ) (x : NameId) → slice_get numbers k ≡ Some x → name_by new x ≡ name_by old x) → names_numbered new numbers ≡ names_numbered old numbers
same_names old new [] same = refl
same_names old new (x ∷ xs) same =
    let head = same 0 x refl in
    let rest = same_names old new xs (λ k y at. same (suc k) y at) in
    λ i. head i ∷ rest i

pub names_stay : (old new : Names) (numbers : List NameId) → StayAll old new → AreListedNames old numbers → names_numbered new numbers ≡ names_numbered old numbers
names_stay old new numbers stay live =
    same_names old new numbers (λ k x at.
    let o = kept_live old x.0 (live k x at) in
    let s = stay x.0 o.0 o.1 in
    ap (λ (p : Option Kept). (kept_or p).name) s.1 ∙ s.2 ∙ sym (ap (λ (p : Option Kept). (kept_or p).name) o.1))

-- ---- a number is released that is not in the list

module _ (old new : Names) (id : ℕ) (numbers : List NameId) (r : Releases old new id) (none : (k : ℕ) → slice_get numbers k ≢ Some (name_id id)) where
  other : (k : ℕ) (x : NameId) → slice_get numbers k ≡ Some x → find_kept new x.0 ≡ find_kept old x.0
  other k x at = r.others x.0 (λ is. none k (at ∙ ap {B = Option NameId} (λ (n : ℕ). Some (name_id n)) is))

  pub order_without : (held : List (ℕ × ℕ)) → (times_held held id ≡ 0 → FitsTable held old → FitsTable held new) → AreInOrder old held numbers → AreInOrder new held numbers
  order_without held fit a = record {
    fits = fit (not_held held numbers (name_id id) a.same none) a.fits;
    same = a.same;
    live = λ k x at. subst IsSome (sym (other k x at)) (a.live k x at);
  }

  pub names_without : names_numbered new numbers ≡ names_numbered old numbers
  names_without = same_names old new numbers (λ k x at. ap (λ (o : Option Kept). (kept_or o).name) (other k x at))

-- ---- a hold is released again

pub undone : (old mid new : Names) (id : ℕ) (name : Values) → ((x : ℕ) (k : Kept) → find_kept old x ≡ Some k → 0 < k.holds) → HoldsName old mid id name → Releases mid new id → KeepsAll old new
undone old mid new id name some h r x = by (eqb x id) refl
  where
    less : (holds : ℕ) → 0 < holds → nat_lt 1 (holds + 1) ≡ true
    less holds lt = lt-ltb 1 (holds + 1) (omega (arith, lt))

    back : (holds : ℕ) → holds + 1 - 1 ≡ holds
    back holds = omega arith

    here : (o : Option Kept) → find_kept old id ≡ o → HoldsOnce o name (find_kept mid id) → released (find_kept mid id) ≡ o
    here None e held = ap released held.1
    here (Some k) e held =
        ap released held.1
        ∙ ap (λ (b : Bool). cond b (Some (kept k.name (k.holds + 1 - 1) k.product)) None) (less k.holds (some id k e))
        ∙ ap (λ (n : ℕ). Some (kept k.name n k.product)) (back k.holds)

    by : (b : Bool) → eqb x id ≡ b → find_kept new x ≡ find_kept old x
    by true is =
        let same : x ≡ id = eqb-true x id is in
        ap (find_kept new) same ∙ r.dropped ∙ here (find_kept old id) refl h.held ∙ ap (find_kept old) (sym same)
    by false ne =
        let other : x ≢ id = λ is. both_ways _ ne (eq-eqb x id is) in
        r.others x other ∙ h.others x other

-- ---- a number is appended

-- A number whose name is not among the names of the list isn't in the list.
pub not_there : (table : Names) (numbers : List NameId) (id : NameId) → list_any (same_name (name_by table id)) (names_numbered table numbers) ≡ false → (k : ℕ) → slice_get numbers k ≢ Some id
not_there table numbers id fresh k at = both_ways (list_any (same_name (name_by table id)) (names_numbered table numbers)) fresh (there numbers k at)
  where
    there : (xs : List NameId) (k : ℕ) → slice_get xs k ≡ Some id → list_any (same_name (name_by table id)) (names_numbered table xs) ≡ true
    there [] k e = absurd (none-some id e)
    there (x ∷ xs) zero e =
        or_left (same_name (name_by table id) (name_by table x)) (list_any (same_name (name_by table id)) (names_numbered table xs))
        ((same_name-Decides (name_by table id) (name_by table x)).1 (ap (name_by table) (sym (same_Some x id e))))
    there (x ∷ xs) (suc k) e = or_right (same_name (name_by table id) (name_by table x)) (list_any (same_name (name_by table id)) (names_numbered table xs)) (there xs k e)
