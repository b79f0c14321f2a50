-- Lemmas: a table of names that one list uses, after a name was added or removed.
use Rattle.std.proofs.Common.{◌≡◌, ◌≢◌, ℕ, Bool, true, false, cond, ◌||◌, ◌-◌, List, [], ◌∷◌, ◌++◌, Option, Some, None, slice_get, refl, sym, ap, subst, ◌∙◌, eq-eqb, eqb, eqb-true}
use Rattle.std.specs.Prelude.{IsSome, nat_lt}
use Rattle.std.specs.List.{list_any}
use Rattle.std.proofs.lemmas.Bool.{both_ways, false_from_ne_true, or_left, or_right}
use Rattle.std.proofs.lemmas.List.Folds.{list_any-append}
use Rattle.std.proofs.lemmas.Option.{none-some, same_Some}
use Rattle.name_index.specs.cpe_name.Eleven.{Values}
use Rattle.name_index.specs.cpe_name.Equal.{same_name}
use Rattle.name_index.specs.declared.table.NameId.{NameId}
use Rattle.name_index.specs.Index.{name_id}
use Rattle.name_index.specs.Table.{Names, Kept, kept, kept_or, find_kept, kept_at, HasName, HoldsOnce, HoldsName, Releases, released}
use Rattle.names_in_order.specs.InOrder.{AreInOrder, Roll, names_numbered, same_id}
use Rattle.names_in_order.specs.Marked.{without_first_place as without_number}
use Rattle.names_in_order.proofs.ChangeLemmas.{occurs_at}
use Rattle.names_in_order.proofs.OrderLemmas.{its_name, kept_live}
use Rattle.names_in_order.proofs.StayLemmas.{not_there}
use Rattle.names_in_order.specs.Owned.{AreOwn, IsNew}
use Rattle.names_in_order.specs.Room.{SameRoll}

-- A name that isn't in the list has no number in the table.
pub name_free : (table : Names) (held : List (ℕ × ℕ)) (numbers : List NameId) (name : Values) → AreOwn table held numbers → list_any (same_name name) (names_numbered table numbers) ≡ false → (id : ℕ) → HasName table id name → ⊥
name_free table held numbers name own fresh id has =
    let at = occurs_at numbers (name_id id) (own.among id has.0 has.1) in
    not_there table numbers (name_id id) (subst (λ (n : Values). list_any (same_name n) (names_numbered table numbers) ≡ false) (sym (its_name table id name has)) fresh) at.0 at.1

-- A number that was held once isn't live after its release.
released_one : (old new : Names) (id : ℕ) (k : Kept) → find_kept old id ≡ Some k → k.holds ≡ 1 → Releases old new id → find_kept new id ≡ None
released_one old new id k e one r = r.dropped ∙ ap released e ∙ ap (λ (n : ℕ). cond (nat_lt 1 n) (Some (kept k.name (n - 1) k.product)) None) one

-- ---- adding a name

pub new_name : (old mid : Names) (id : NameId) (name : Values) → HoldsName old mid id.0 name → find_kept old id.0 ≡ None → (kept_at mid id.0).name ≡ name
new_name old mid id name h none =
    let n : (product : ℕ) × (find_kept mid id.0 ≡ Some (kept name 1 product)) = subst (λ (o : Option Kept). HoldsOnce o name (find_kept mid id.0)) none h.held in
    ap (λ (o : Option Kept). (kept_or o).name) n.1

pub held_new : (old mid : Names) (held : List (ℕ × ℕ)) (numbers : List NameId) (id : NameId) (name : Values) → AreOwn old held numbers → HoldsName old mid id.0 name → find_kept old id.0 ≡ None
    → AreInOrder mid held numbers → names_numbered mid numbers ≡ names_numbered old numbers → list_any (same_name name) (names_numbered old numbers) ≡ false → IsNew mid held numbers id
held_new old mid held numbers id name own h none order names fresh =
    let n : (product : ℕ) × (find_kept mid id.0 ≡ Some (kept name 1 product)) = subst (λ (o : Option Kept). HoldsOnce o name (find_kept mid id.0)) none h.held in
    let is = new_name old mid id name h none in
    record {
      order = order;
      once = λ other k e. by other k e n (eqb other id.0) refl;
      among = λ other k e ne. own.among other k (sym (h.others other ne) ∙ e);
      live = subst IsSome (sym n.1) refl;
      fresh = (λ i. list_any (same_name (is i)) (names i)) ∙ fresh;
    }
  where
    by : (other : ℕ) (k : Kept) → find_kept mid other ≡ Some k → (product : ℕ) × (find_kept mid id.0 ≡ Some (kept name 1 product)) → (b : Bool) → eqb other id.0 ≡ b → k.holds ≡ 1
    by other k e n true is = ap (λ (j : Kept). j.holds) (same_Some k (kept name 1 n.0) (sym e ∙ ap (find_kept mid) (eqb-true other id.0 is) ∙ n.1))
    by other k e n false ne = own.once other k (sym (h.others other (λ is. both_ways _ ne (eq-eqb other id.0 is))) ∙ e)

pub pushed_own : (table : Names) (held more : List (ℕ × ℕ)) (numbers : List NameId) (id : NameId) → IsNew table held numbers id → AreInOrder table more (numbers ++ id ∷ []) → AreOwn table more (numbers ++ id ∷ [])
pushed_own table held more numbers id new order = record {
  order = order;
  once = new.once;
  among = λ other k e. list_any-append (same_id (name_id other)) numbers (id ∷ []) ∙ by other k e (eqb other id.0) refl;
}
  where
    by : (other : ℕ) (k : Kept) → find_kept table other ≡ Some k → (b : Bool) → eqb other id.0 ≡ b → (list_any (same_id (name_id other)) numbers || (same_id (name_id other) id || false)) ≡ true
    by other k e true is = or_right (list_any (same_id (name_id other)) numbers) (same_id (name_id other) id || false) (or_left (same_id (name_id other) id) false is)
    by other k e false ne = or_left (list_any (same_id (name_id other)) numbers) (same_id (name_id other) id || false) (new.among other k e (λ is. both_ways _ ne (eq-eqb other id.0 is)))

-- The new number is not in the list.
pub new_nowhere : (table : Names) (held : List (ℕ × ℕ)) (numbers : List NameId) (id : NameId) → IsNew table held numbers id → (k : ℕ) → slice_get numbers k ≢ Some id
new_nowhere table held numbers id new = not_there table numbers id new.fresh

-- If the new number is released again, the table has exactly the names of the list.
pub discard_own : (old new : Names) (held more : List (ℕ × ℕ)) (numbers : List NameId) (id : NameId) → IsNew old held numbers id → Releases old new id.0 → AreInOrder new more numbers → AreOwn new more numbers
discard_own old new held more numbers id is_new r order = record {
  order = order;
  once = λ other k e. is_new.once other k (sym (r.others other (differ other k e)) ∙ e);
  among = λ other k e. is_new.among other k (sym (r.others other (differ other k e)) ∙ e) (differ other k e);
}
  where
    differ : (other : ℕ) (k : Kept) → find_kept new other ≡ Some k → other ≢ id.0
    differ other k e is =
        let l = kept_live old id.0 is_new.live in
        none-some k (sym (released_one old new id.0 l.0 l.1 (is_new.once id.0 l.0 l.1) r) ∙ ap (find_kept new) (sym is) ∙ e)

-- The list uses the table alone if the numbers are unchanged and only the reserved room differs.
pub same_own : (table : Names) (old new : Roll) → SameRoll old new → AreOwn table old.held old.numbers → AreOwn table new.held new.numbers
same_own table old new same own =
    subst (λ (held : List (ℕ × ℕ)). AreOwn table held new.numbers) (sym same.held) (subst (λ (ns : List NameId). AreOwn table old.held ns) (sym same.numbers) own)

-- ---- removing a name

still_among : (numbers : List NameId) (id other : NameId) → other.0 ≢ id.0 → list_any (same_id other) numbers ≡ true → list_any (same_id other) (without_number (same_id id) numbers) ≡ true
still_among [] id other ne h = absurd cc
still_among (x ∷ xs) id other ne h = by (same_id id x) refl (still_among xs id other ne)
  where
    step : (b old new : Bool) → (b || old) ≡ true → (old ≡ true → new ≡ true) → (b || new) ≡ true
    step true old new h f = refl
    step false old new h f = f h

    by : (b : Bool) → same_id id x ≡ b → (list_any (same_id other) xs ≡ true → list_any (same_id other) (without_number (same_id id) xs) ≡ true) → list_any (same_id other) (cond b xs (x ∷ without_number (same_id id) xs)) ≡ true
    by true e rest =
        let no : same_id other x ≡ false = false_from_ne_true _ (λ s. ne (eqb-true other.0 x.0 s ∙ sym (eqb-true id.0 x.0 e))) in
        sym (ap (λ (b : Bool). b || list_any (same_id other) xs) no) ∙ h
    by false e rest = step (same_id other x) (list_any (same_id other) xs) (list_any (same_id other) (without_number (same_id id) xs)) h rest

pub removed_own : (old new : Names) (held fewer : List (ℕ × ℕ)) (numbers : List NameId) (id : NameId) → AreOwn old held numbers → list_any (same_id id) numbers ≡ true → Releases old new id.0
    → AreInOrder new fewer (without_number (same_id id) numbers) → AreOwn new fewer (without_number (same_id id) numbers)
removed_own old new held fewer numbers id own has r order = record {
  order = order;
  once = λ other k e. own.once other k (sym (r.others other (differ other k e)) ∙ e);
  among = λ other k e. still_among numbers id (name_id other) (differ other k e) (own.among other k (sym (r.others other (differ other k e)) ∙ e));
}
  where
    differ : (other : ℕ) (k : Kept) → find_kept new other ≡ Some k → other ≢ id.0
    differ other k e is =
        let at = occurs_at numbers id has in
        let l = kept_live old id.0 (own.order.live at.0 id at.1) in
        none-some k (sym (released_one old new id.0 l.0 l.1 (own.once id.0 l.0 l.1) r) ∙ ap (find_kept new) (sym is) ∙ e)
