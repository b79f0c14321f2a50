-- Which facts are in the list of changed ones, and the room for the others.
use Rattle.std.proofs.Common.{◌≡◌, ℕ, ◌+◌, ◌<◌, ◌≤◌, ◌&&◌, take, get_or, ◌||◌, Bool, true, false, not, List, [], length, Option, Some, None, refl, sym, ap, subst, ◌∙◌, arith, Vec, Global}
use Rattle.std.specs.Prelude.{nat_eq, nat_lt, vec_capacity}
use Rattle.std.specs.Option.{option_map, is_some}
use Rattle.std.proofs.Math.Bool.{or-false}
use Rattle.std.proofs.lemmas.List.Folds.{list_any_more}
use Rattle.name_index.specs.declared.table.NameId.{NameId}
use Rattle.fact_rows.specs.declared.row.FactRow.{FactRow}
use Rattle.fact_rows.specs.Facts.{IsChangeList, fact_row_in, has_end_of_fact, seen_fact, times_among}
use Rattle.fact_rows.specs.Rows.{is_changed, KeepsChanged, count_if, fact_row_at, unchanged}
use Rattle.fact_rows.proofs.LinkLemmas.{any_times, nat_decides}

if_one : (b : Bool) → nat_lt 0 (count_if b) ≡ b
if_one true = refl
if_one false = refl

-- a fact is in the list exactly if its row says so
pub changes_is : (rows : List (ℕ × FactRow)) (changed : List NameId) → ((q : ℕ) → times_among changed q ≡ count_if (is_changed (fact_row_at rows q))) → (q : ℕ) → has_end_of_fact changed q ≡ is_changed (fact_row_at rows q)
changes_is rows changed marks q = any_times (λ (id : NameId). nat_eq id.0 q) changed ∙ ap (nat_lt 0) (marks q) ∙ if_one (is_changed (fact_row_at rows q))

marked_there : (o : Option FactRow) → is_changed o ≡ true → is_some (option_map seen_fact o) ≡ true
marked_there None h = let wrong : false ≡ true = h in absurd (cc)
marked_there (Some r) h = refl

module _ (rows : List (ℕ × FactRow)) (changed : Vec NameId Global) (changes : IsChangeList rows changed) where
  pub changed_are_facts : (q : ℕ) → has_end_of_fact changed.items q ≡ true → is_some (fact_row_in rows q) ≡ true
  changed_are_facts q h = marked_there (fact_row_at rows q) (sym (changes_is rows changed.items changes.marks q) ∙ h)

  pub changed_once : (q : ℕ) → times_among changed.items q ≡ count_if (has_end_of_fact changed.items q)
  changed_once q = changes.marks q ∙ ap count_if (sym (changes_is rows changed.items changes.marks q))

  pub noted_kept : (next : List (ℕ × FactRow)) → KeepsChanged rows next → IsChangeList next changed
  noted_kept next keeps = record {
    marks = λ q. changes.marks q ∙ ap count_if (sym (keeps.marks q));
    room = omega (arith, changes.room, keeps.many);
  }

  -- a row that is not in the list is removed
  pub changes_removed : (next : List (ℕ × FactRow)) (fact : ℕ) → fact_row_at next fact ≡ None → ((q : ℕ) → nat_eq fact q ≡ false → fact_row_at next q ≡ fact_row_at rows q) → unchanged next ≤ unchanged rows → has_end_of_fact changed.items fact ≡ false → IsChangeList next changed
  changes_removed next fact gone others fewer free = record {
    marks = λ q. go q (nat_eq fact q) refl;
    room = omega (arith, changes.room, fewer);
  } where
    go : (q : ℕ) (b : Bool) → nat_eq fact q ≡ b → times_among changed.items q ≡ count_if (is_changed (fact_row_at next q))
    go q true e =
        subst (λ (u : ℕ). times_among changed.items u ≡ count_if (is_changed (fact_row_at next u))) (nat_decides fact q e)
        (changed_once fact ∙ ap count_if free ∙ ap (λ (o : Option FactRow). count_if (is_changed o)) (sym gone))
    go q false e = changes.marks q ∙ ap (λ (o : Option FactRow). count_if (is_changed o)) (sym (others q e))

  -- a row that isn't marked as changed is added, and the list of changed facts has room for one more
  pub noted_added : (kept next : List (ℕ × FactRow)) (after : Vec NameId Global) (fact : ℕ) (row : FactRow) → fact_row_at rows fact ≡ None → ((q : ℕ) → fact_row_at kept q ≡ fact_row_at rows q) → fact_row_at next fact ≡ Some row → row.changed ≡ false
      → ((q : ℕ) → nat_eq fact q ≡ false → fact_row_at next q ≡ fact_row_at kept q) → after.items ≡ changed.items → unchanged next ≡ unchanged kept + count_if (not row.changed) → unchanged kept + 1 + length after.items ≤ vec_capacity after → IsChangeList next after
  noted_added kept next after fact row none same here free others items many room = record {
    marks = λ q. go q (nat_eq fact q) refl;
    room = omega (arith, room, many, ap (λ (b : Bool). count_if (not b)) free);
  } where
    go : (q : ℕ) (b : Bool) → nat_eq fact q ≡ b → times_among after.items q ≡ count_if (is_changed (fact_row_at next q))
    go q true e =
        subst (λ (u : ℕ). times_among after.items u ≡ count_if (is_changed (fact_row_at next u))) (nat_decides fact q e)
        (ap (λ (ids : List NameId). times_among ids fact) items ∙ changes.marks fact ∙ ap (λ (o : Option FactRow). count_if (is_changed o)) none ∙ ap count_if (sym free) ∙ ap (λ (o : Option FactRow). count_if (is_changed o)) (sym here))
    go q false e = ap (λ (ids : List NameId). times_among ids q) items ∙ changes.marks q ∙ ap (λ (o : Option FactRow). count_if (is_changed o)) (sym (others q e ∙ same q))

  -- room was reserved
  pub noted_roomy : (kept : List (ℕ × FactRow)) (after : Vec NameId Global) → ((q : ℕ) → fact_row_at kept q ≡ fact_row_at rows q) → unchanged kept ≡ unchanged rows → after.items ≡ changed.items → vec_capacity changed ≤ vec_capacity after → IsChangeList kept after
  noted_roomy kept after same many items capacity = record {
    marks = λ q. ap (λ (ids : List NameId). times_among ids q) items ∙ changes.marks q ∙ ap (λ (o : Option FactRow). count_if (is_changed o)) (sym (same q));
    room = omega (arith, changes.room, many, capacity, ap {B = ℕ} (λ (ids : List NameId). length ids) items);
  }

  -- the list is cleared
  pub changes_cleared : (next : List (ℕ × FactRow)) (after : Vec NameId Global) → ((q : ℕ) → is_changed (fact_row_at next q) ≡ (is_changed (fact_row_at rows q) && not (has_end_of_fact changed.items q))) → unchanged next ≤ unchanged rows + length changed.items → after.items ≡ [] → vec_capacity changed ≤ vec_capacity after
      → IsChangeList next after
  changes_cleared next after marks many none capacity = record {
    marks = λ q. ap (λ (ids : List NameId). times_among ids q) none ∙ ap count_if (sym (marks q ∙ ap (λ (b : Bool). is_changed (fact_row_at rows q) && not b) (changes_is rows changed.items changes.marks q) ∙ never (is_changed (fact_row_at rows q))));
    room = omega (arith, changes.room, many, capacity, ap {B = ℕ} (λ (ids : List NameId). length ids) none);
  } where
    never : (b : Bool) → (b && not b) ≡ false
    never true = refl
    never false = refl

-- ---- the flag of one more fact is cleared

pub marks_first : (rows : List (ℕ × FactRow)) (q : ℕ) → is_changed (fact_row_at rows q) ≡ (is_changed (fact_row_at rows q) && true)
marks_first rows q = go (is_changed (fact_row_at rows q)) where
  go : (b : Bool) → b ≡ (b && true)
  go true = refl
  go false = refl

module _ (first now next : List (ℕ × FactRow)) where
  pub facts_next : (fact : ℕ) → fact_row_in next fact ≡ fact_row_in now fact → ((q : ℕ) → nat_eq fact q ≡ false → fact_row_at next q ≡ fact_row_at now q) → ((q : ℕ) → fact_row_in now q ≡ fact_row_in first q) → (q : ℕ) → fact_row_in next q ≡ fact_row_in first q
  facts_next fact here others so_far q = go (nat_eq fact q) refl where
    go : (b : Bool) → nat_eq fact q ≡ b → fact_row_in next q ≡ fact_row_in first q
    go true e = subst (λ (u : ℕ). fact_row_in next u ≡ fact_row_in now u) (nat_decides fact q e) here ∙ so_far q
    go false e = ap (option_map seen_fact) (others q e) ∙ so_far q

  module _ (facts : List NameId) (i : ℕ) (d : NameId) (lt : i < length facts) where
    pub marks_next : is_changed (fact_row_at next (get_or facts i d).0) ≡ false → ((q : ℕ) → nat_eq (get_or facts i d).0 q ≡ false → fact_row_at next q ≡ fact_row_at now q) → ((q : ℕ) → is_changed (fact_row_at now q) ≡ (is_changed (fact_row_at first q) && not (has_end_of_fact (take i facts) q)))
        → (q : ℕ) → is_changed (fact_row_at next q) ≡ (is_changed (fact_row_at first q) && not (has_end_of_fact (take (i + 1) facts) q))
    marks_next here others so_far q = go (nat_eq (get_or facts i d).0 q) refl where
      more : has_end_of_fact (take (i + 1) facts) q ≡ (has_end_of_fact (take i facts) q || nat_eq (get_or facts i d).0 q)
      more = list_any_more (λ (id : NameId). nat_eq id.0 q) facts i d lt

      gone : (a b : Bool) → false ≡ (a && not (b || true))
      gone true true = refl
      gone true false = refl
      gone false b = refl

      go : (b : Bool) → nat_eq (get_or facts i d).0 q ≡ b → is_changed (fact_row_at next q) ≡ (is_changed (fact_row_at first q) && not (has_end_of_fact (take (i + 1) facts) q))
      go true e =
          subst (λ (u : ℕ). is_changed (fact_row_at next u) ≡ false) (nat_decides (get_or facts i d).0 q e) here
          ∙ gone (is_changed (fact_row_at first q)) (has_end_of_fact (take i facts) q)
          ∙ ap (λ (b : Bool). is_changed (fact_row_at first q) && not b) (sym (more ∙ ap (λ (b : Bool). has_end_of_fact (take i facts) q || b) e))
      go false e =
          ap is_changed (others q e) ∙ so_far q
          ∙ ap (λ (b : Bool). is_changed (fact_row_at first q) && not b) (sym (more ∙ ap (λ (b : Bool). has_end_of_fact (take i facts) q || b) e ∙ or-false (has_end_of_fact (take i facts) q)))
