-- Lemmas: the lists that counts show, after a change of the table.
use Rattle.std.proofs.Common.{◌≡◌, ◌≢◌, ◌⊎◌, ℕ, zero, suc, ◌+◌, ◌-◌, ◌≤◌, Bool, true, false, cond, List, ◌∷◌, Option, Some, None, refl, sym, ap, subst, ◌∙◌, inl, inr, arith}
use Rattle.std.specs.Prelude.{nat_lt}
use Rattle.std.proofs.lemmas.Bool.{cases_eq, ltb-false}
use Rattle.std.proofs.lemmas.Option.{none-some, same_Some}
use Rattle.cpe_rows.specs.cpe_name.Eleven.{Values}
use Rattle.cpe_rows.specs.cpe_name.Equal.{same_name, same_name-Decides}
use Rattle.name_index.specs.declared.table.NameId.{NameId}
use Rattle.name_index.specs.Table.{Names, Kept, kept, kept_or, find_kept, kept_at, IsNameTable, HasName, HoldsOnce, HoldsName, IsLive, Releases, released}
use Rattle.fact_laws.specs.Shown.{times_named, name_at, IsKnown, Shows, holds_in}
use Rattle.fact_laws.proofs.Shown.{same_names, other_names, named_first, live_is}

-- if one number is held or released, each other number keeps its count, and its name is in the list as often as before
other_counted : (old new : Names) (other : ℕ) (k : Kept) (name : Values) (list : List Values) → find_kept old other ≡ Some k → find_kept new other ≡ Some k → k.name ≢ name
    → (holds_in new other ≡ holds_in old other) × (times_named k.name (name ∷ list) ≡ times_named k.name list)
other_counted old new other k name list was is apart = (
  ap (λ (o : Option Kept). (kept_or o).holds) (is ∙ sym was),
  omega (arith, named_first k.name name list, ap {B = ℕ} (λ (b : Bool). cond b 1 0) (other_names k.name name apart)),
)

-- ---- a hold

module _ (old new : Names) (id : ℕ) (name : Values) (h : HoldsName old new id name) where
  -- a live number is still live, with its name
  pub keeps : (other : ℕ) (k : Kept) → find_kept old other ≡ Some k → (l : Kept) × (find_kept new other ≡ Some l) × (l.name ≡ k.name) × (l.product ≡ k.product)
  keeps other k e = elim (cases_eq other id) [
    | inl is ↦ by (find_kept old id) (ap (find_kept old) (sym is) ∙ e) h.held (ap (find_kept new) is)
    | inr ne ↦ (k, h.others other ne ∙ e, refl, refl)
  ]
    where
      by : (o : Option Kept) → o ≡ Some k → HoldsOnce o name (find_kept new id) → find_kept new other ≡ find_kept new id → (l : Kept) × (find_kept new other ≡ Some l) × (l.name ≡ k.name) × (l.product ≡ k.product)
      by None none held at = absurd (none-some k none)
      by (Some j) some held at =
          let is = same_Some j k some in
          (kept j.name (j.holds + 1) j.product, at ∙ held.1, ap (λ (m : Kept). m.name) is, ap (λ (m : Kept). m.product) is)

  pub known_still : (n : Values) → IsKnown old n → IsKnown new n
  known_still n known = let l = keeps known.0 known.1.0 known.1.1 in (known.0, (l.0, l.1, l.2 ∙ known.1.2))

  pub name_stays : (x : NameId) → IsLive old x.0 → name_at new x ≡ name_at old x
  name_stays x live =
      let e = live_is old x.0 live in
      let l = keeps x.0 (kept_at old x.0) e in
      ap (λ (o : Option Kept). (kept_or o).name) l.1 ∙ l.2

  -- a name that gets a number had no number
  fresh : find_kept old id ≡ None → IsKnown old name → ⊥
  fresh none known = none-some known.1.0 (sym none ∙ ap (find_kept old) (sym (h.same known.0 known.1)) ∙ known.1.1)

  none_named : (times : ℕ → ℕ) (list : List Values) → Shows old times list → find_kept old id ≡ None → times_named name list ≡ 0
  none_named times list s none = by (times_named name list) refl
    where
      by : (t : ℕ) → times_named name list ≡ t → times_named name list ≡ 0
      by zero e = e
      by (suc t) e = absurd (fresh none (s.known name (omega (arith, e))))

  pub held_shows : (times : ℕ → ℕ) (list : List Values) → Shows old times list → Shows new times list
  held_shows times list s = record {
    counts = λ other k e. counted other k e (find_kept old other) refl;
    nowhere = λ other e. s.nowhere other (not_before other e (find_kept old other) refl);
    known = λ n more. known_still n (s.known n more);
  }
    where
      not_before : (other : ℕ) → find_kept new other ≡ None → (o : Option Kept) → find_kept old other ≡ o → find_kept old other ≡ None
      not_before other e None is = is
      not_before other e (Some k) is = let l = keeps other k is in absurd (none-some l.0 (sym e ∙ l.1))

      new_name : (o : Option Kept) → o ≡ None → HoldsOnce o name (find_kept new id) → (k : Kept) → find_kept new id ≡ Some k → k.name ≡ name
      new_name None none held k e = sym (ap (λ (m : Kept). m.name) (same_Some (kept name 1 held.0) k (sym held.1 ∙ e)))
      new_name (Some j) none held k e = absurd (none-some j (sym none))

      counted : (other : ℕ) (k : Kept) → find_kept new other ≡ Some k → (o : Option Kept) → find_kept old other ≡ o → times other ≡ times_named k.name list
      counted other k e (Some j) is =
          let l = keeps other j is in
          s.counts other j is ∙ ap (λ (n : Values). times_named n list) (sym l.2 ∙ ap (λ (m : Kept). m.name) (same_Some l.0 k (sym l.1 ∙ e)))
      counted other k e None is = elim (cases_eq other id) [
        | inl at ↦
            let none : find_kept old id ≡ None = ap (find_kept old) (sym at) ∙ is in
            s.nowhere other is ∙ sym (ap (λ (n : Values). times_named n list) (new_name (find_kept old id) none h.held k (ap (find_kept new) (sym at) ∙ e)) ∙ none_named times list s none)
        | inr ne ↦ absurd (none-some k (sym is ∙ sym (h.others other ne) ∙ e))
      ]

  pub held_list : (list : List Values) → Shows old (holds_in old) list → Shows new (holds_in new) (name ∷ list)
  held_list list s = record {
    counts = λ other k e. counted other k e;
    nowhere = λ other e. ap (λ (o : Option Kept). (kept_or o).holds) e;
    known = λ n more. knows n more (same_name n name) refl;
  }
    where
      itself : IsKnown new name
      itself = by (find_kept old id) h.held
        where
          by : (o : Option Kept) → HoldsOnce o name (find_kept new id) → IsKnown new name
          by None held = (id, (kept name 1 held.0, held.1, refl))
          by (Some k) held = (id, (kept k.name (k.holds + 1) k.product, held.1, held.0))

      knows : (n : Values) → 1 ≤ times_named n (name ∷ list) → (b : Bool) → same_name n name ≡ b → IsKnown new n
      knows n more true e = subst (IsKnown new) (sym ((same_name-Decides n name).0 e)) itself
      knows n more false e = known_still n (s.known n (omega (arith, more, named_first n name list, ap {B = ℕ} (λ (b : Bool). cond b 1 0) e)))

      at_id : (o : Option Kept) → find_kept old id ≡ o → HoldsOnce o name (find_kept new id) → (k : Kept) → find_kept new id ≡ Some k → k.holds ≡ times_named k.name (name ∷ list)
      at_id None none held k e =
          let is : kept name 1 held.0 ≡ k = same_Some (kept name 1 held.0) k (sym held.1 ∙ e) in
          subst (λ (m : Kept). m.holds ≡ times_named m.name (name ∷ list)) is (omega (arith, named_first name name list, ap {B = ℕ} (λ (b : Bool). cond b 1 0) (same_names name name refl), none_named (holds_in old) list s none))
      at_id (Some j) some held k e =
          let is : kept j.name (j.holds + 1) j.product ≡ k = same_Some (kept j.name (j.holds + 1) j.product) k (sym held.1 ∙ e) in
          let before : j.holds ≡ times_named j.name list = sym (ap (λ (o : Option Kept). (kept_or o).holds) some) ∙ s.counts id j some in
          subst (λ (m : Kept). m.holds ≡ times_named m.name (name ∷ list)) is (omega (arith, before, named_first j.name name list, ap {B = ℕ} (λ (b : Bool). cond b 1 0) (same_names j.name name held.0)))

      counted : (other : ℕ) (k : Kept) → find_kept new other ≡ Some k → holds_in new other ≡ times_named k.name (name ∷ list)
      counted other k e = elim (cases_eq other id) [
        | inl at ↦ ap (λ (o : Option Kept). (kept_or o).holds) e ∙ at_id (find_kept old id) refl h.held k (ap (find_kept new) (sym at) ∙ e)
        | inr ne ↦
            let was : find_kept old other ≡ Some k = sym (h.others other ne) ∙ e in
            let as_before = other_counted old new other k name list was e (λ same. ne (h.same other (k, was, same))) in
            as_before.0 ∙ s.counts other k was ∙ sym as_before.1
      ]

-- ---- a release

module _ (old new : Names) (id : ℕ) (r : Releases old new id) where
  -- a live number was live before, with its name
  pub was_live : (other : ℕ) (k : Kept) → find_kept new other ≡ Some k → (j : Kept) × (find_kept old other ≡ Some j) × (j.name ≡ k.name)
  was_live other k e = elim (cases_eq other id) [
    | inl at ↦ by (find_kept old id) refl (sym (r.dropped) ∙ ap (find_kept new) (sym at) ∙ e) (ap (find_kept old) at)
    | inr ne ↦ (k, sym (r.others other ne) ∙ e, refl)
  ]
    where
      less : (j : Kept) (b : Bool) → cond b (Some (kept j.name (j.holds - 1) j.product)) None ≡ Some k → j.name ≡ k.name
      less j true is = ap (λ (m : Kept). m.name) (same_Some (kept j.name (j.holds - 1) j.product) k is)
      less j false is = absurd (none-some k is)

      by : (o : Option Kept) → find_kept old id ≡ o → released o ≡ Some k → find_kept old other ≡ find_kept old id → (j : Kept) × (find_kept old other ≡ Some j) × (j.name ≡ k.name)
      by None is gone at = absurd (none-some k gone)
      by (Some j) is gone at = (j, at ∙ is, less j (nat_lt 1 j.holds) gone)

  -- a live number is still live, unless its last hold was released
  lives : (other : ℕ) (j : Kept) → find_kept old other ≡ Some j → (find_kept new other ≡ None) ⊎ ((k : Kept) × (find_kept new other ≡ Some k) × (k.name ≡ j.name))
  lives other j e = by (find_kept new other) refl
    where
      by : (o : Option Kept) → find_kept new other ≡ o → (find_kept new other ≡ None) ⊎ ((k : Kept) × (find_kept new other ≡ Some k) × (k.name ≡ j.name))
      by None is = inl is
      by (Some k) is = let w = was_live other k is in inr (k, is, sym w.2 ∙ ap (λ (m : Kept). m.name) (same_Some w.0 j (sym w.1 ∙ e)))

  pub keeps_live : (other : ℕ) (j : Kept) → find_kept old other ≡ Some j → (find_kept new other ≡ None → ⊥) → (k : Kept) × (find_kept new other ≡ Some k) × (k.name ≡ j.name) × (k.product ≡ j.product)
  keeps_live other j e some = elim (cases_eq other id) [
    | inl at ↦
        by (nat_lt 1 j.holds) (find_kept new other) refl (ap (find_kept new) at ∙ r.dropped ∙ ap released (ap (find_kept old) (sym at) ∙ e))
    | inr ne ↦ (j, r.others other ne ∙ e, refl, refl)
  ]
    where
      by : (b : Bool) (o : Option Kept) → find_kept new other ≡ o → find_kept new other ≡ cond b (Some (kept j.name (j.holds - 1) j.product)) None → (k : Kept) × (find_kept new other ≡ Some k) × (k.name ≡ j.name) × (k.product ≡ j.product)
      by true o at is = (kept j.name (j.holds - 1) j.product, is, refl, refl)
      by false o at is = absurd (some is)

  gone_is : (other : ℕ) (j : Kept) → find_kept old other ≡ Some j → find_kept new other ≡ None → other ≡ id
  gone_is other j e none = elim (cases_eq other id) [ inl at ↦ at | inr ne ↦ absurd (none-some j (sym none ∙ r.others other ne ∙ e)) ]

  pub released_shows : (times : ℕ → ℕ) (list : List Values) → (find_kept new id ≡ None → times id ≡ 0) → Shows old times list → Shows new times list
  released_shows times list last s = record {
    counts = λ other k e. let w = was_live other k e in s.counts other w.0 w.1 ∙ ap (λ (n : Values). times_named n list) w.2;
    nowhere = λ other e. none_now other e (find_kept old other) refl;
    known = λ n more. still n more (s.known n more);
  }
    where
      none_now : (other : ℕ) → find_kept new other ≡ None → (o : Option Kept) → find_kept old other ≡ o → times other ≡ 0
      none_now other e None is = s.nowhere other is
      none_now other e (Some j) is = let at = gone_is other j is e in ap times at ∙ last (ap (find_kept new) (sym at) ∙ e)

      still : (n : Values) → 1 ≤ times_named n list → IsKnown old n → IsKnown new n
      still n more known = elim (lives known.0 known.1.0 known.1.1) [
        | inl none ↦
            let at = gone_is known.0 known.1.0 known.1.1 none in
            absurd (omega (arith, more, ap (λ (m : Values). times_named m list) known.1.2, s.counts known.0 known.1.0 known.1.1, ap times at, last (ap (find_kept new) (sym at) ∙ none)))
        | inr k ↦ (known.0, (k.0, k.1, k.2 ∙ known.1.2))
      ]

  module _ (name : Values) (list : List Values) (are : IsNameTable old) (has : HasName old id name) (s : Shows old (holds_in old) (name ∷ list)) where
    -- the number of holds of the number
    held : has.0.holds ≡ 1 + times_named name list
    held =
        omega (
          arith,
          ap (λ (o : Option Kept). (kept_or o).holds) has.1,
          s.counts id has.0 has.1,
          ap (λ (n : Values). times_named n (name ∷ list)) has.2,
          named_first name name list,
          ap {B = ℕ} (λ (b : Bool). cond b 1 0) (same_names name name refl),
        )

    after_id : find_kept new id ≡ cond (nat_lt 1 has.0.holds) (Some (kept has.0.name (has.0.holds - 1) has.0.product)) None
    after_id = r.dropped ∙ ap released has.1

    at_id : (k : Kept) → find_kept new id ≡ Some k → k.holds ≡ times_named k.name list
    at_id k e = by (nat_lt 1 has.0.holds) (sym after_id ∙ e)
      where
        by : (b : Bool) → cond b (Some (kept has.0.name (has.0.holds - 1) has.0.product)) None ≡ Some k → k.holds ≡ times_named k.name list
        by true is = subst (λ (m : Kept). m.holds ≡ times_named m.name list) (same_Some (kept has.0.name (has.0.holds - 1) has.0.product) k is) (omega (arith, held, ap (λ (n : Values). times_named n list) has.2))
        by false is = absurd (none-some k is)

    none_left : find_kept new id ≡ None → times_named name list ≡ 0
    none_left e = by (nat_lt 1 has.0.holds) refl (sym after_id ∙ e)
      where
        by : (b : Bool) → nat_lt 1 has.0.holds ≡ b → cond b (Some (kept has.0.name (has.0.holds - 1) has.0.product)) None ≡ None → times_named name list ≡ 0
        by true t is = absurd (none-some (kept has.0.name (has.0.holds - 1) has.0.product) (sym is))
        by false t is = omega (arith, held, ltb-false 1 has.0.holds t)

    pub released_list : Shows new (holds_in new) list
    released_list = record {
      counts = λ other k e. counted other k e;
      nowhere = λ other e. ap (λ (o : Option Kept). (kept_or o).holds) e;
      known = λ n more. still n more (s.known n (omega (arith, more, named_first n name list)));
    }
      where
        counted : (other : ℕ) (k : Kept) → find_kept new other ≡ Some k → holds_in new other ≡ times_named k.name list
        counted other k e = elim (cases_eq other id) [
          | inl at ↦ ap (λ (o : Option Kept). (kept_or o).holds) e ∙ at_id k (ap (find_kept new) (sym at) ∙ e)
          | inr ne ↦
              let was : find_kept old other ≡ Some k = sym (r.others other ne) ∙ e in
              let as_before = other_counted old new other k name list was e (λ same. ne (are.different other id k has.0 was has.1 (same ∙ sym has.2))) in
              as_before.0 ∙ s.counts other k was ∙ as_before.1
        ]

        still : (n : Values) → 1 ≤ times_named n list → IsKnown old n → IsKnown new n
        still n more known = elim (lives known.0 known.1.0 known.1.1) [
          | inl none ↦
              let at = gone_is known.0 known.1.0 known.1.1 none in
              let is : name ≡ n = sym has.2 ∙ ap (λ (m : Kept). m.name) (same_Some has.0 known.1.0 (sym has.1 ∙ ap (find_kept old) (sym at) ∙ known.1.1)) ∙ known.1.2 in
              absurd (omega (arith, more, ap (λ (m : Values). times_named m list) is, none_left (ap (find_kept new) (sym at) ∙ none)))
          | inr k ↦ (known.0, (k.0, k.1, k.2 ∙ known.1.2))
        ]
