-- Lemmas: a table's rows after a change, and what is kept of each number then.
use Rattle.std.proofs.Common.{◌≡◌, ◌≢◌, ◌⊎◌, ℕ, zero, suc, ◌+◌, ◌<◌, ◌≤◌, Bool, true, false, cond, eqb, ltb, List, [], ◌∷◌, ◌++◌, length, set, Option, Some, None, refl, sym, ap, subst, ◌∙◌, inl, inr, arith, eqb-true, eq-eqb, length-set}
use Rattle.std.specs.List.{AllByRecursion, IsDistinct}
use Rattle.std.proofs.lemmas.Bool.{ltb-true, lt-ltb, both_ways, cases_Bool, false_from_ne_true}
use Rattle.std.proofs.lemmas.List.{get_or_append_left, get_or_push, get_or-set_same, get_or-set_other, length_push, get_or_past}
use Rattle.std.proofs.lemmas.List.Elements.{All-push}
use Rattle.cpe_values.specs.declared.value.Value.{Value}
use Rattle.cpe_name.specs.Eleven.{Values}
use Rattle.cpe_name.specs.Equal.{same_name, same_name-Decides}
use Rattle.cpe_name.specs.Lower.{IsLower}
use Rattle.cpe_name.specs.Names.{any_values}
use Rattle.name_index.specs.Listed.{ProductList, product_at}
use Rattle.name_index.specs.declared.table.NameRow.{NameRow}
use Rattle.name_index.specs.Table.{Kept, kept, kept_or, kept_at, Names, find_kept, HasName, HoldsOnce, HoldsName}
use Rattle.name_index.specs.Rows.{product_row_with, product_row_at, row_number_at, name_in_place, kept_of, table_of_rows, AreProductRows, Grows}
use Rattle.name_index.proofs.Names.{find_at, find_past, kept_there, place_inside}

pub same_or : (a b : ℕ) → (a ≡ b) ⊎ (a ≢ b)
same_or a b = elim (cases_Bool (eqb a b)) [ inl h ↦ inl (eqb-true a b h) | inr h ↦ inr (λ e. both_ways _ h (eq-eqb a b e)) ]

pub not_less : (a b : ℕ) → b ≤ a → ltb a b ≡ false
not_less a b le = false_from_ne_true _ (λ h. absurd (omega (arith, ltb-true a b h)))

pub at_least : (a b : ℕ) → ltb a b ≡ false → b ≤ a
at_least a zero h = omega arith
at_least zero (suc b) h = absurd (both_ways _ h (lt-ltb 0 (suc b) (omega arith)))
at_least (suc a) (suc b) h = omega (arith, at_least a b (false_from_ne_true _ (λ t. both_ways _ h (lt-ltb (suc a) (suc b) (omega (arith, ltb-true a b t))))))

apart : (names : List Values) (name : Values) (p : ℕ) → AllByRecursion (λ w. same_name name w ≡ false) names → p < length names → name_in_place names p ≡ name → ⊥
apart [] name p h lt is = absurd (omega (arith, lt))
apart (w ∷ names) name zero h lt is = both_ways (same_name name w) h.0 ((same_name-Decides name w).1 (sym is))
apart (w ∷ names) name (suc p) h lt is = apart names name p h.1 (omega (arith, lt)) is

-- Different names have different places.
pub one_place : (names : List Values) (p q : ℕ) → IsDistinct same_name names → p < length names → q < length names → name_in_place names p ≡ name_in_place names q → p ≡ q
unfolding IsDistinct
one_place [] p q d l k e = absurd (omega (arith, l))
one_place (w ∷ names) zero zero d l k e = refl
one_place (w ∷ names) zero (suc q) d l k e = absurd (apart names w q d.0 (omega (arith, k)) (sym e))
one_place (w ∷ names) (suc p) zero d l k e = absurd (apart names w p d.0 (omega (arith, l)) e)
one_place (w ∷ names) (suc p) (suc q) d l k e = ap suc (one_place names p q d.1 (omega (arith, l)) (omega (arith, k)) e)

pub read_same : (rows : List NameRow) (n : ℕ) (r : NameRow) → n < length rows → product_row_at (set rows n r) n ≡ r
read_same rows n r lt = get_or-set_same rows n r (product_row_with 0 0 0) lt

pub read_other : (rows : List NameRow) (n m : ℕ) (r : NameRow) → m ≢ n → product_row_at (set rows n r) m ≡ product_row_at rows m
read_other rows n m r ne = get_or-set_other rows n m r (product_row_with 0 0 0) ne

-- If a row is replaced by a row with the same field, this field is unchanged in all rows.
field_kept : {X : Type 0} (f : NameRow → X) (rows : List NameRow) (n : ℕ) (r : NameRow) → n < length rows → f r ≡ f (product_row_at rows n) → (m : ℕ) → f (product_row_at (set rows n r) m) ≡ f (product_row_at rows m)
field_kept f rows n r lt e m = elim (same_or m n) [
  | inl is ↦ ap (λ (k : ℕ). f (product_row_at (set rows n r) k)) is ∙ ap f (read_same rows n r lt) ∙ e ∙ ap (λ (k : ℕ). f (product_row_at rows k)) (sym is)
  | inr ne ↦ ap f (read_other rows n m r ne)
]

-- ---- a name has other holds

pub with_holds : (names : List Values) (rows : List NameRow) (numbers : List ℕ) (products : ProductList) (n h : ℕ) → AreProductRows names rows numbers products → n < length rows → ltb 0 h ≡ ltb 0 (product_row_at rows n).holds → h < 4294967296
    → AreProductRows names (set rows n (product_row_with (product_row_at rows n).place h (product_row_at rows n).product)) numbers products
with_holds names rows numbers products n h a lt sign small =
    let r = product_row_with (product_row_at rows n).place h (product_row_at rows n).product in
    let len : length (set rows n r) ≡ length rows = length-set rows n r in
    let place = field_kept (λ (x : NameRow). x.place) rows n r lt refl in
    let product = field_kept (λ (x : NameRow). x.product) rows n r lt refl in
    let live = field_kept (λ (x : NameRow). ltb 0 x.holds) rows n r lt sign in
    record {
      paired = a.paired ∙ sym len;
      few = omega (arith, a.few, len);
      within = omega (arith, a.within, len);
      numbered = λ p l. omega (arith, a.numbered p (omega (arith, l, len)), len);
      placed = λ m l. omega (arith, place m, a.placed m (omega (arith, l, len)), len);
      there = λ p l. place (row_number_at numbers p) ∙ a.there p (omega (arith, l, len));
      back = λ m l. ap (row_number_at numbers) (place m) ∙ a.back m (omega (arith, l, len));
      live = λ m l. live m ∙ a.live m (omega (arith, l, len)) ∙ ap (λ (k : ℕ). ltb k (length names)) (sym (place m));
      small = λ m. elim (same_or m n) [
        | inl is ↦ subst (λ (x : NameRow). x.holds < 4294967296) (sym (ap (product_row_at (set rows n r)) is ∙ read_same rows n r lt)) small
        | inr ne ↦ subst (λ (x : NameRow). x.holds < 4294967296) (sym (read_other rows n m r ne)) (a.small m)
      ];
      different = a.different;
      lower = a.lower;
      product = λ m l inside.
          ap (product_at products) (product m) ∙ a.product m (omega (arith, l, len)) (omega (arith, place m, inside)) ∙ ap {B = Option Value} (λ (k : ℕ). Some (name_in_place names k).product) (sym (place m));
    }

pub kept_of_read : (names : List Values) (r : NameRow) → ltb 0 r.holds ≡ true → kept_of names r ≡ Some (kept (name_in_place names r.place) r.holds r.product)
kept_of_read names r h = ap (λ (b : Bool). cond b (Some (kept (name_in_place names r.place) r.holds r.product)) None) h

-- What is kept of each number after one row is written.
module _ (names : List Values) (rows : List NameRow) (n : ℕ) (r : NameRow) (lt : n < length rows) where
  pub find_written : find_kept (table_of_rows names (set rows n r)) n ≡ kept_of names r
  find_written = find_at names (set rows n r) n (omega (arith, lt, length-set rows n r)) ∙ ap (kept_of names) (read_same rows n r lt)

  pub find_unwritten : (m : ℕ) → m ≢ n → find_kept (table_of_rows names (set rows n r)) m ≡ find_kept (table_of_rows names rows) m
  find_unwritten m ne = elim (cases_Bool (ltb m (length rows))) [
    | inl l ↦
        let inside = ltb-true m (length rows) l in
        find_at names (set rows n r) m (omega (arith, inside, length-set rows n r)) ∙ ap (kept_of names) (read_other rows n m r ne) ∙ sym (find_at names rows m inside)
    | inr l ↦
        let past : length rows ≤ m = at_least m (length rows) l in
        find_past names (set rows n r) m (omega (arith, past, length-set rows n r)) ∙ sym (find_past names rows m past)
  ]

pub raised : (names : List Values) (rows : List NameRow) (numbers : List ℕ) (products : ProductList) (name : Values) (n : ℕ) → AreProductRows names rows numbers products → n < length rows → ltb 0 (product_row_at rows n).holds ≡ true → name_in_place names (product_row_at rows n).place ≡ name
    → ((other : ℕ) → HasName (table_of_rows names rows) other name → other ≡ n)
    → HoldsName (table_of_rows names rows) (table_of_rows names (set rows n (product_row_with (product_row_at rows n).place ((product_row_at rows n).holds + 1) (product_row_at rows n).product))) n name
raised names rows numbers products name n a lt held is only =
    let r = product_row_at rows n in
    let s = product_row_with r.place (r.holds + 1) r.product in
    let before : find_kept (table_of_rows names rows) n ≡ Some (kept (name_in_place names r.place) r.holds r.product) = find_at names rows n lt ∙ kept_of_read names r held in
    let after : find_kept (table_of_rows names (set rows n s)) n ≡ Some (kept (name_in_place names r.place) (r.holds + 1) r.product) = find_written names rows n s lt ∙ kept_of_read names s (lt-ltb 0 (r.holds + 1) (omega arith)) in
    record {
      held = subst (λ (o : Option Kept). HoldsOnce o name (find_kept (table_of_rows names (set rows n s)) n)) (sym before) (is, after);
      others = find_unwritten names rows n s lt;
      same = only;
    }

-- ---- a new place

pub grown : (names : List Values) (rows : List NameRow) (numbers : List ℕ) (products : ProductList) → AreProductRows names rows numbers products → length names ≡ length rows → length rows < 4294967295
    → AreProductRows names (rows ++ product_row_with (length rows) 0 0 ∷ []) (numbers ++ length rows ∷ []) products
grown names rows numbers products a full few =
    let n = length rows in
    let r = product_row_with n 0 0 in
    let len : length (rows ++ r ∷ []) ≡ n + 1 = length_push rows r in
    record {
      paired = length_push numbers n ∙ ap (λ (k : ℕ). k + 1) a.paired ∙ sym len;
      few = omega (arith, few, len);
      within = omega (arith, full, len);
      numbered = λ p l. elim (split p (omega (arith, l, len))) [
        | inl old ↦ omega (arith, number_old p old, a.numbered p old, len)
        | inr is ↦ omega (arith, number_new p is, len)
      ];
      placed = λ m l. elim (split m (omega (arith, l, len))) [
        | inl old ↦ subst (λ (x : NameRow). x.place < length (rows ++ r ∷ [])) (sym (row_old m old)) (omega (arith, a.placed m old, len))
        | inr is ↦ subst (λ (x : NameRow). x.place < length (rows ++ r ∷ [])) (sym (row_new m is)) (omega (arith, len))
      ];
      there = λ p l. elim (split p (omega (arith, l, len))) [
        | inl old ↦ ap (λ (k : ℕ). (product_row_at (rows ++ r ∷ []) k).place) (number_old p old) ∙ ap (λ (x : NameRow). x.place) (row_old (row_number_at numbers p) (a.numbered p old)) ∙ a.there p old
        | inr is ↦ ap (λ (k : ℕ). (product_row_at (rows ++ r ∷ []) k).place) (number_new p is) ∙ ap (λ (x : NameRow). x.place) (row_new n refl) ∙ sym is
      ];
      back = λ m l. elim (split m (omega (arith, l, len))) [
        | inl old ↦ ap (λ (x : NameRow). row_number_at (numbers ++ n ∷ []) x.place) (row_old m old) ∙ number_old (product_row_at rows m).place (a.placed m old) ∙ a.back m old
        | inr is ↦ ap (λ (x : NameRow). row_number_at (numbers ++ n ∷ []) x.place) (row_new m is) ∙ number_new n refl ∙ sym is
      ];
      live = λ m l. elim (split m (omega (arith, l, len))) [
        | inl old ↦ ap (λ (x : NameRow). ltb 0 x.holds) (row_old m old) ∙ a.live m old ∙ ap (λ (x : NameRow). ltb x.place (length names)) (sym (row_old m old))
        | inr is ↦ ap (λ (x : NameRow). ltb 0 x.holds) (row_new m is) ∙ sym (not_less n (length names) (omega (arith, full))) ∙ ap (λ (x : NameRow). ltb x.place (length names)) (sym (row_new m is))
      ];
      small = λ m. elim (cases_Bool (ltb m n)) [
        | inl l ↦ subst (λ (x : NameRow). x.holds < 4294967296) (sym (row_old m (ltb-true m n l))) (a.small m)
        | inr l ↦ elim (same_or m n) [
          | inl is ↦ subst (λ (x : NameRow). x.holds < 4294967296) (sym (row_new m is)) (omega arith)
          | inr ne ↦ subst (λ (x : NameRow). x.holds < 4294967296) (sym (get_or_past (rows ++ r ∷ []) m (product_row_with 0 0 0) (past m ne l))) (omega arith)
        ]
      ];
      different = a.different;
      lower = a.lower;
      product = λ m l inside. elim (split m (omega (arith, l, len))) [
        | inl old ↦
            let at = row_old m old in
            ap (λ (x : NameRow). product_at products x.product) at ∙ a.product m old (subst (λ (x : NameRow). x.place < length names) at inside) ∙ ap {B = Option Value} (λ (x : NameRow). Some (name_in_place names x.place).product) (sym at)
        | inr is ↦ absurd (omega (arith, full, subst (λ (x : NameRow). x.place < length names) (row_new m is) inside))
      ];
    }
  where
    split : (k : ℕ) → k < length rows + 1 → (k < length rows) ⊎ (k ≡ length rows)
    split k l = elim (cases_Bool (ltb k (length rows))) [ inl t ↦ inl (ltb-true k (length rows) t) | inr t ↦ elim (same_or k (length rows)) [ inl is ↦ inr is | inr ne ↦ inl (omega (arith, l, ne)) ] ]

    past : (m : ℕ) → m ≢ length rows → ltb m (length rows) ≡ false → length (rows ++ product_row_with (length rows) 0 0 ∷ []) ≤ m
    past m ne l = omega (arith, at_least m (length rows) l, ne, length_push rows (product_row_with (length rows) 0 0))

    row_old : (m : ℕ) → m < length rows → product_row_at (rows ++ product_row_with (length rows) 0 0 ∷ []) m ≡ product_row_at rows m
    row_old m old = get_or_append_left rows (product_row_with (length rows) 0 0 ∷ []) (product_row_with 0 0 0) m old

    row_new : (m : ℕ) → m ≡ length rows → product_row_at (rows ++ product_row_with (length rows) 0 0 ∷ []) m ≡ product_row_with (length rows) 0 0
    row_new m is = get_or_push rows (product_row_with (length rows) 0 0) (product_row_with 0 0 0) m (sym is)

    number_old : (p : ℕ) → p < length rows → row_number_at (numbers ++ length rows ∷ []) p ≡ row_number_at numbers p
    number_old p old = get_or_append_left numbers (length rows ∷ []) 0 p (omega (arith, old, a.paired))

    number_new : (p : ℕ) → p ≡ length rows → row_number_at (numbers ++ length rows ∷ []) p ≡ length rows
    number_new p is = get_or_push numbers (length rows) 0 p (omega (arith, is, a.paired))

-- Nothing is kept of the new number, nor of any number after it.
pub find_grown : (names : List Values) (rows : List NameRow) (m : ℕ) → find_kept (table_of_rows names (rows ++ product_row_with (length rows) 0 0 ∷ [])) m ≡ find_kept (table_of_rows names rows) m
find_grown names rows m = elim (cases_Bool (ltb m (length rows))) [
  | inl l ↦
      let old = ltb-true m (length rows) l in
      find_at names more m (omega (arith, old, len)) ∙ ap (kept_of names) (get_or_append_left rows (product_row_with (length rows) 0 0 ∷ []) (product_row_with 0 0 0) m old) ∙ sym (find_at names rows m old)
  | inr l ↦ elim (same_or m (length rows)) [
    | inl is ↦ find_at names more m (omega (arith, is, len)) ∙ ap (kept_of names) (get_or_push rows (product_row_with (length rows) 0 0) (product_row_with 0 0 0) m (sym is)) ∙ sym (find_past names rows m (omega (arith, is)))
    | inr ne ↦ find_past names more m (omega (arith, past ne l, len)) ∙ sym (find_past names rows m (omega (arith, past ne l)))
  ]
]
  where
    more : List NameRow
    more = rows ++ product_row_with (length rows) 0 0 ∷ []

    len : length (rows ++ product_row_with (length rows) 0 0 ∷ []) ≡ length rows + 1
    len = length_push rows (product_row_with (length rows) 0 0)

    past : m ≢ length rows → ltb m (length rows) ≡ false → length rows < m
    past ne l = omega (arith, at_least m (length rows) l, ne)

-- ---- a free number gets a name

module _ (names : List Values) (rows : List NameRow) (numbers : List ℕ) (products : ProductList) (name : Values) (product : ℕ) (a : AreProductRows names rows numbers products) (free : length names < length rows) (low : IsLower name)
    (is_product : product_at products product ≡ Some name.product) where
  abbrev p : ℕ
  p = length names

  abbrev n : ℕ
  n = row_number_at numbers p

  abbrev new_row : NameRow
  new_row = product_row_with p 1 product

  abbrev new_rows : List NameRow
  new_rows = set rows n new_row

  abbrev new_names : List Values
  new_names = names ++ name ∷ []

  known : n < length rows
  known = a.numbered p free

  same_place : (m : ℕ) → (product_row_at new_rows m).place ≡ (product_row_at rows m).place
  same_place = field_kept (λ (x : NameRow). x.place) rows n new_row known (sym (a.there p free))

  rows_len : length new_rows ≡ length rows
  rows_len = length-set rows n new_row

  names_len : length new_names ≡ p + 1
  names_len = length_push names name

  -- Other numbers have other places.
  elsewhere : (m : ℕ) → m < length rows → m ≢ n → (product_row_at rows m).place ≢ p
  elsewhere m l ne is = ne (sym (a.back m l) ∙ ap (row_number_at numbers) is)

  name_old : (k : ℕ) → k < p → name_in_place new_names k ≡ name_in_place names k
  name_old k l = get_or_append_left names (name ∷ []) any_values k l

  name_new : name_in_place new_names p ≡ name
  name_new = get_or_push names name any_values p refl

  pub filled : IsDistinct same_name new_names → AreProductRows new_names new_rows numbers products
  filled different = record {
    paired = a.paired ∙ sym rows_len;
    few = omega (arith, a.few, rows_len);
    within = omega (arith, free, rows_len, names_len);
    numbered = λ q l. omega (arith, a.numbered q (omega (arith, l, rows_len)), rows_len);
    placed = λ m l. omega (arith, same_place m, a.placed m (omega (arith, l, rows_len)), rows_len);
    there = λ q l. same_place (row_number_at numbers q) ∙ a.there q (omega (arith, l, rows_len));
    back = λ m l. ap (row_number_at numbers) (same_place m) ∙ a.back m (omega (arith, l, rows_len));
    live = λ m l. elim (same_or m n) [
      | inl is ↦
          let r = ap (product_row_at new_rows) is ∙ read_same rows n new_row known in
          ap (λ (x : NameRow). ltb 0 x.holds) r ∙ sym (lt-ltb p (length new_names) (omega (arith, names_len))) ∙ ap (λ (x : NameRow). ltb x.place (length new_names)) (sym r)
      | inr ne ↦
          let r = read_other rows n m new_row ne in
          let l2 : m < length rows = omega (arith, l, rows_len) in
          ap (λ (x : NameRow). ltb 0 x.holds) r ∙ a.live m l2 ∙ one_further (product_row_at rows m).place (elsewhere m l2 ne) ∙ ap (λ (x : NameRow). ltb x.place (length new_names)) (sym r)
    ];
    small = λ m. elim (same_or m n) [
      | inl is ↦ subst (λ (x : NameRow). x.holds < 4294967296) (sym (ap (product_row_at new_rows) is ∙ read_same rows n new_row known)) (omega arith)
      | inr ne ↦ subst (λ (x : NameRow). x.holds < 4294967296) (sym (read_other rows n m new_row ne)) (a.small m)
    ];
    different = different;
    lower = All-push IsLower names name a.lower low;
    product = λ m l inside. elim (same_or m n) [
      | inl is ↦
          let r = ap (product_row_at new_rows) is ∙ read_same rows n new_row known in
          ap (λ (x : NameRow). product_at products x.product) r ∙ is_product ∙ ap {B = Option Value} (λ (w : Values). Some w.product) (sym name_new) ∙ ap {B = Option Value} (λ (x : NameRow). Some (name_in_place new_names x.place).product) (sym r)
      | inr ne ↦
          let r = read_other rows n m new_row ne in
          let l2 : m < length rows = omega (arith, l, rows_len) in
          let below : (product_row_at rows m).place < p = before (product_row_at rows m).place (elsewhere m l2 ne) (omega (arith, subst (λ (x : NameRow). x.place < length new_names) r inside, names_len)) in
          ap (λ (x : NameRow). product_at products x.product) r ∙ a.product m l2 below ∙ ap {B = Option Value} (λ (w : Values). Some w.product) (sym (name_old (product_row_at rows m).place below)) ∙ ap {B = Option Value} (λ (x : NameRow). Some (name_in_place new_names x.place).product) (sym r)
    ];
  }
    where
      before : (k : ℕ) → k ≢ p → k < p + 1 → k < p
      before k ne l = omega (arith, ne, l)

      one_further : (k : ℕ) → k ≢ p → ltb k p ≡ ltb k (length new_names)
      one_further k ne = elim (cases_Bool (ltb k p)) [
        | inl t ↦ t ∙ sym (lt-ltb k (length new_names) (omega (arith, ltb-true k p t, names_len)))
        | inr t ↦ t ∙ sym (false_from_ne_true _ (λ u. both_ways _ t (lt-ltb k p (before k ne (omega (arith, ltb-true k (length new_names) u, names_len))))))
      ]

  free_none : find_kept (table_of_rows names rows) n ≡ None
  free_none =
      find_at names rows n known
      ∙ ap (λ (b : Bool). cond b (Some (kept (name_in_place names (product_row_at rows n).place) (product_row_at rows n).holds (product_row_at rows n).product)) None)
      (a.live n known ∙ ap (λ (k : ℕ). ltb k p) (a.there p free) ∙ not_less p p (omega arith))

  -- If the names at a row's place are unchanged, what is kept of the row's number is unchanged.
  row_stays : (m : ℕ) → m < length rows → m ≢ n → kept_of new_names (product_row_at rows m) ≡ kept_of names (product_row_at rows m)
  row_stays m l ne = elim (cases_Bool (ltb 0 (product_row_at rows m).holds)) [
    | inl t ↦ kept_of_read new_names (product_row_at rows m) t ∙ ap {B = Option Kept} (λ (w : Values). Some (kept w (product_row_at rows m).holds (product_row_at rows m).product)) (name_old (product_row_at rows m).place (place_inside names rows numbers products a m l t)) ∙ sym (kept_of_read names (product_row_at rows m) t)
    | inr t ↦ kept_none new_names t ∙ sym (kept_none names t)
  ]
    where
      kept_none : (ws : List Values) → ltb 0 (product_row_at rows m).holds ≡ false → kept_of ws (product_row_at rows m) ≡ None
      kept_none ws t = ap (λ (b : Bool). cond b (Some (kept (name_in_place ws (product_row_at rows m).place) (product_row_at rows m).holds (product_row_at rows m).product)) None) t

  stays : (m : ℕ) → m ≢ n → find_kept (table_of_rows new_names rows) m ≡ find_kept (table_of_rows names rows) m
  stays m ne = elim (cases_Bool (ltb m (length rows))) [
    | inl t ↦ let l = ltb-true m (length rows) t in find_at new_names rows m l ∙ row_stays m l ne ∙ sym (find_at names rows m l)
    | inr t ↦ find_past new_names rows m (at_least m (length rows) t) ∙ sym (find_past names rows m (at_least m (length rows) t))
  ]

  pub given : ((other : ℕ) → HasName (table_of_rows names rows) other name → ⊥) → HoldsName (table_of_rows names rows) (table_of_rows new_names new_rows) n name
  given new = record {
    held = subst (λ (o : Option Kept). HoldsOnce o name (find_kept (table_of_rows new_names new_rows) n)) (sym free_none) (
      product,
      find_written new_names rows n new_row known ∙ kept_of_read new_names new_row refl ∙ ap {B = Option Kept} (λ (w : Values). Some (kept w 1 product)) name_new,
    );
    others = λ m ne. find_unwritten new_names rows n new_row known m ne ∙ stays m ne;
    same = λ other h. absurd (new other h);
  }

-- ---- what leaves the table unchanged

-- The rows fit other products, if these have the names' products with the same numbers.
pub rows_beside : (names : List Values) (rows : List NameRow) (numbers : List ℕ) (products new_products : ProductList) → AreProductRows names rows numbers products
    → ((n : ℕ) → n < length rows → (product_row_at rows n).place < length names → product_at new_products (product_row_at rows n).product ≡ Some (name_in_place names (product_row_at rows n).place).product) → AreProductRows names rows numbers new_products
rows_beside names rows numbers products new_products a there = record {
  paired = a.paired;
  few = a.few;
  within = a.within;
  numbered = a.numbered;
  placed = a.placed;
  there = a.there;
  back = a.back;
  live = a.live;
  small = a.small;
  different = a.different;
  lower = a.lower;
  product = there;
}

pub same_rows : (names new_names : List Values) (rows new_rows : List NameRow) (numbers new_numbers : List ℕ) (products new_products : ProductList) → new_names ≡ names → new_rows ≡ rows → new_numbers ≡ numbers
    → ((n : ℕ) (v : Value) → product_at products n ≡ Some v → product_at new_products n ≡ Some v) → AreProductRows names rows numbers products → AreProductRows new_names new_rows new_numbers new_products
same_rows names new_names rows new_rows numbers new_numbers products new_products e f g more a =
    subst (λ (ws : List Values). AreProductRows ws new_rows new_numbers new_products) (sym e) (subst (λ (rs : List NameRow). AreProductRows names rs new_numbers new_products) (sym f) (subst (λ (ns : List ℕ). AreProductRows names rows ns new_products) (sym g)
    (rows_beside names rows numbers products new_products a (λ n l inside. more (product_row_at rows n).product (name_in_place names (product_row_at rows n).place).product (a.product n l inside)))))

pub same_view : (names new_names : List Values) (rows new_rows : List NameRow) (view : Names) → new_names ≡ names → new_rows ≡ rows → table_of_rows names rows ≡ view → table_of_rows new_names new_rows ≡ view
same_view names new_names rows new_rows view e f h = ap (λ (ws : List Values). table_of_rows ws new_rows) e ∙ ap (table_of_rows names) f ∙ h

-- ---- a hold is added to a name that has a number

module _ (names : List Values) (rows : List NameRow) (numbers : List ℕ) (products : ProductList) (n : ℕ) (a : AreProductRows names rows numbers products) (known : n < length rows) (held : ltb 0 (product_row_at rows n).holds ≡ true) where
  its_name : (kept_at (table_of_rows names rows) n).name ≡ name_in_place names (product_row_at rows n).place
  its_name = ap (λ (o : Option Kept). (kept_or o).name) (find_at names rows n known ∙ kept_of_read names (product_row_at rows n) held)

  pub raised_live : HoldsName (table_of_rows names rows) (table_of_rows names (set rows n (product_row_with (product_row_at rows n).place ((product_row_at rows n).holds + 1) (product_row_at rows n).product))) n (kept_at (table_of_rows names rows) n).name
  raised_live = raised names rows numbers products (kept_at (table_of_rows names rows) n).name n a known held (sym its_name) (λ other h. only other h)
    where
      only : (other : ℕ) → HasName (table_of_rows names rows) other (kept_at (table_of_rows names rows) n).name → other ≡ n
      only other h =
          let t = kept_there names rows other h.0 h.1 in
          let at : name_in_place names (product_row_at rows other).place ≡ name_in_place names (product_row_at rows n).place = ap (λ (k : Kept). k.name) t.is ∙ h.2 ∙ its_name in
          let same : (product_row_at rows other).place ≡ (product_row_at rows n).place =
          one_place names (product_row_at rows other).place (product_row_at rows n).place a.different (place_inside names rows numbers products a other t.known t.held) (place_inside names rows numbers products a n known held) at in
          sym (a.back other t.known) ∙ ap (row_number_at numbers) same ∙ a.back n known

-- ---- a number is made ready, and then gets the name

pub record Prepared (names : List Values) (rows : List NameRow) (numbers : List ℕ) (products : ProductList) (old : List NameRow) : Type 0 where
  pub rows_are : AreProductRows names rows numbers products
  pub free : length names < length rows
  pub finds : (m : ℕ) → find_kept (table_of_rows names rows) m ≡ find_kept (table_of_rows names old) m

pub prepared : (names : List Values) (rows new_rows : List NameRow) (numbers new_numbers : List ℕ) (products : ProductList) (place : ℕ) → place ≡ length names → AreProductRows names rows numbers products → Grows rows numbers place new_rows new_numbers → Prepared names new_rows new_numbers products rows
prepared names rows new_rows numbers new_numbers products place at a (Grows.kept_room lt e f) =
    subst (λ (rs : List NameRow). Prepared names rs new_numbers products rows) (sym e) (subst (λ (ns : List ℕ). Prepared names rows ns products rows) (sym f) (record { rows_are = a; free = omega (arith, lt, at); finds = λ m. refl }))
prepared names rows new_rows numbers new_numbers products place at a (Grows.one_more is few e f) =
    let full : length names ≡ length rows = omega (arith, at, is) in
    let here = λ (k : ℕ). product_row_with k 0 0 in
    subst (λ (rs : List NameRow). Prepared names rs new_numbers products rows) (sym (e ∙ ap (λ (k : ℕ). rows ++ product_row_with k 0 0 ∷ []) is))
    (subst (λ (ns : List ℕ). Prepared names (rows ++ product_row_with (length rows) 0 0 ∷ []) ns products rows) (sym (f ∙ ap (λ (k : ℕ). numbers ++ k ∷ []) is)) (record {
      rows_are = grown names rows numbers products a full (omega (arith, few, is));
      free = omega (arith, full, length_push rows (product_row_with (length rows) 0 0));
      finds = find_grown names rows;
    }))

-- All that `hold` does for a new name.
module _ (names : List Values) (rows grown_rows : List NameRow) (numbers grown_numbers : List ℕ) (products : ProductList) (name : Values) (place n product : ℕ) (low : IsLower name)
    (at : place ≡ length names) (a : AreProductRows names rows numbers products) (grows : Grows rows numbers place grown_rows grown_numbers) (e : n ≡ row_number_at grown_numbers place)
    (is_product : product_at products product ≡ Some name.product) (new_names : List Values) (put : new_names ≡ names ++ name ∷ []) (new_rows : List NameRow) (written : new_rows ≡ set grown_rows n (product_row_with place 1 product)) where
  ready : Prepared names grown_rows grown_numbers products rows
  ready = prepared names rows grown_rows numbers grown_numbers products place at a grows

  rows_eq : new_rows ≡ set grown_rows (row_number_at grown_numbers (length names)) (product_row_with (length names) 1 product)
  rows_eq = written ∙ ap (λ (k : ℕ). set grown_rows k (product_row_with place 1 product)) (e ∙ ap (row_number_at grown_numbers) at) ∙ ap (λ (k : ℕ). set grown_rows (row_number_at grown_numbers (length names)) (product_row_with k 1 product)) at

  pub held_rows : IsDistinct same_name new_names → AreProductRows new_names new_rows grown_numbers products
  held_rows different =
      subst (λ (ws : List Values). AreProductRows ws new_rows grown_numbers products) (sym put) (subst (λ (rs : List NameRow). AreProductRows (names ++ name ∷ []) rs grown_numbers products) (sym rows_eq)
      (filled names grown_rows grown_numbers products name product ready.rows_are ready.free low is_product (subst (λ (ws : List Values). IsDistinct same_name ws) put different)))

  pub held_names : ((other : ℕ) → HasName (table_of_rows names rows) other name → ⊥) → HoldsName (table_of_rows names rows) (table_of_rows new_names new_rows) n name
  held_names new =
      let none = λ (other : ℕ) (h : HasName (table_of_rows names grown_rows) other name). new other (h.0, sym (ready.finds other) ∙ h.1, h.2) in
      let h = given names grown_rows grown_numbers products name product ready.rows_are ready.free low is_product none in
      let number : n ≡ row_number_at grown_numbers (length names) = e ∙ ap (row_number_at grown_numbers) at in
      subst (λ (k : ℕ). HoldsName (table_of_rows names rows) (table_of_rows new_names new_rows) k name) (sym number)
      (subst (λ (ws : List Values). HoldsName (table_of_rows names rows) (table_of_rows ws new_rows) (row_number_at grown_numbers (length names)) name) (sym put)
      (subst (λ (rs : List NameRow). HoldsName (table_of_rows names rows) (table_of_rows (names ++ name ∷ []) rs) (row_number_at grown_numbers (length names)) name) (sym rows_eq) (record {
        held = subst (λ (o : Option Kept). HoldsOnce o name (find_kept (table_of_rows (names ++ name ∷ []) (set grown_rows (row_number_at grown_numbers (length names)) (product_row_with (length names) 1 product))) (row_number_at grown_numbers (length names)))) (ready.finds (row_number_at grown_numbers (length names))) h.held;
        others = λ other ne. h.others other ne ∙ ready.finds other;
        same = λ other w. absurd (new other w);
      })))
