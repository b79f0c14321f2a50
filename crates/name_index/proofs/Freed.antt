-- Lemmas: a table's rows after a number is freed. The last name moves to the place of the removed name.
use Rattle.std.proofs.Common.{◌≡◌, ◌≢◌, ℕ, ◌+◌, ◌-◌, ◌<◌, ◌≤◌, Bool, true, false, cond, ltb, List, length, get_or, set, Option, Some, None, refl, sym, ap, subst, ◌∙◌, inl, inr, arith, length-set}
use Rattle.std.specs.Prelude.{IsSome}
use Rattle.std.proofs.lemmas.Option.{same_Some}
use Rattle.std.specs.List.{IsDistinct, swap_remove}
use Rattle.std.proofs.lemmas.Bool.{ltb-true, lt-ltb, cases_Bool}
use Rattle.std.proofs.lemmas.List.{get_or-set_same, get_or-set_other, get_or-take, length-take-le, get_or_default}
use Rattle.std.proofs.lemmas.List.Elements.{All-from_get_or, All-get_or}
use Rattle.cpe_values.specs.declared.value.Value.{Value}
use Rattle.cpe_name.specs.Eleven.{Values}
use Rattle.cpe_name.specs.Equal.{same_name}
use Rattle.cpe_name.specs.Lower.{IsLower}
use Rattle.cpe_name.specs.Names.{any_values}
use Rattle.name_index.specs.Listed.{ProductList, product_at}
use Rattle.name_index.specs.declared.table.NameRow.{NameRow}
use Rattle.name_index.specs.Table.{Kept, kept, find_kept, IsLive, released, Releases, IsNameTable}
use Rattle.name_index.specs.Rows.{product_row_with, product_row_at, row_number_at, name_in_place, kept_of, table_of_rows, AreProductRows, freed_row_numbers, freed_rows}
use Rattle.name_index.proofs.Names.{find_at, find_past, place_inside, KeptThere, kept_there}
use Rattle.name_index.proofs.TableChanges.{same_or, not_less, at_least, read_same, read_other, kept_of_read, find_written, find_unwritten, one_place}

module _ (names : List Values) (rows : List NameRow) (numbers : List ℕ) (products : ProductList) (n last : ℕ) (w : Values) (a : AreProductRows names rows numbers products) (known : n < length rows) (inside : (product_row_at rows n).place < length names) (is_last : last + 1 ≡ length names) where
  abbrev p : ℕ
  p = (product_row_at rows n).place

  abbrev m : ℕ
  m = row_number_at numbers last

  abbrev new_rows : List NameRow
  new_rows = freed_rows rows numbers n last

  abbrev new_numbers : List ℕ
  new_numbers = freed_row_numbers rows numbers n last

  abbrev new_names : List Values
  new_names = swap_remove names p w

  abbrev moved : NameRow
  moved = product_row_with p (product_row_at rows m).holds (product_row_at rows m).product

  last_known : last < length rows
  last_known = omega (arith, is_last, a.within)

  m_known : m < length rows
  m_known = a.numbered last last_known

  m_place : (product_row_at rows m).place ≡ last
  m_place = a.there last last_known

  at_p : row_number_at numbers p ≡ n
  at_p = a.back n known

  rows_len : length new_rows ≡ length rows
  rows_len = length-set (set rows m moved) n (product_row_with last 0 0) ∙ length-set rows m moved

  numbers_len : length new_numbers ≡ length rows
  numbers_len = length-set (set numbers p m) last n ∙ length-set numbers p m ∙ a.paired

  names_len : length new_names ≡ last
  names_len =
      let k : length names - 1 ≡ last = omega (arith, is_last) in
      ap (λ (j : ℕ). length (lib.ListN.take j (set names p (get_or names j w)))) k ∙ length-take-le last (set names p (get_or names last w)) (omega (arith, is_last, length-set names p (get_or names last w)))

  -- ---- reading rows and numbers after a write

  row_n : product_row_at new_rows n ≡ product_row_with last 0 0
  row_n = read_same (set rows m moved) n (product_row_with last 0 0) (omega (arith, known, length-set rows m moved))

  row_m : m ≢ n → product_row_at new_rows m ≡ moved
  row_m ne = read_other (set rows m moved) n m (product_row_with last 0 0) ne ∙ read_same rows m moved m_known

  row_o : (k : ℕ) → k ≢ n → k ≢ m → product_row_at new_rows k ≡ product_row_at rows k
  row_o k ne nm = read_other (set rows m moved) n k (product_row_with last 0 0) ne ∙ read_other rows m k moved nm

  number_last : row_number_at new_numbers last ≡ n
  number_last = get_or-set_same (set numbers p m) last n 0 (omega (arith, last_known, a.paired, length-set numbers p m))

  number_p : p ≢ last → row_number_at new_numbers p ≡ m
  number_p ne = get_or-set_other (set numbers p m) last p n 0 ne ∙ get_or-set_same numbers p m 0 (omega (arith, inside, a.within, a.paired))

  number_o : (q : ℕ) → q ≢ last → q ≢ p → row_number_at new_numbers q ≡ row_number_at numbers q
  number_o q nl np = get_or-set_other (set numbers p m) last q n 0 nl ∙ get_or-set_other numbers p q m 0 np

  name_read : (q : ℕ) → q < last → name_in_place new_names q ≡ name_in_place (set names p (get_or names last w)) q
  name_read q lt =
      let k : length names - 1 ≡ last = omega (arith, is_last) in
      ap (λ (j : ℕ). name_in_place (lib.ListN.take j (set names p (get_or names j w))) q) k ∙ get_or-take last (set names p (get_or names last w)) q any_values lt

  name_p : p < last → name_in_place new_names p ≡ name_in_place names last
  name_p lt = name_read p lt ∙ get_or-set_same names p (get_or names last w) any_values inside ∙ get_or_default names last w any_values (omega (arith, is_last))

  name_o : (q : ℕ) → q < last → q ≢ p → name_in_place new_names q ≡ name_in_place names q
  name_o q lt ne = name_read q lt ∙ get_or-set_other names p q (get_or names last w) any_values ne

  -- ---- which numbers and places are different

  m_apart : m ≢ n → p ≢ last
  m_apart ne is = ne (sym (ap (row_number_at numbers) is) ∙ at_p)

  p_apart : p ≢ last → m ≢ n
  p_apart ne is = ne (sym (ap (λ (k : ℕ). (product_row_at rows k).place) is) ∙ m_place)

  place_not_p : (k : ℕ) → k < length rows → k ≢ n → (product_row_at rows k).place ≢ p
  place_not_p k l ne is = ne (sym (a.back k l) ∙ ap (row_number_at numbers) is ∙ at_p)

  place_not_last : (k : ℕ) → k < length rows → k ≢ m → (product_row_at rows k).place ≢ last
  place_not_last k l nm is = nm (sym (a.back k l) ∙ ap (row_number_at numbers) is)

  number_not_n : (q : ℕ) → q < length rows → q ≢ p → row_number_at numbers q ≢ n
  number_not_n q l ne is = ne (sym (a.there q l) ∙ ap (λ (k : ℕ). (product_row_at rows k).place) is)

  number_not_m : (q : ℕ) → q < length rows → q ≢ last → row_number_at numbers q ≢ m
  number_not_m q l ne is = ne (sym (a.there q l) ∙ ap (λ (k : ℕ). (product_row_at rows k).place) is ∙ m_place)

  below_last : p ≢ last → p < last
  below_last ne = omega (arith, ne, inside, is_last)

  one_less : (k : ℕ) → k ≢ last → ltb k (length names) ≡ ltb k (length new_names)
  one_less k ne = elim (cases_Bool (ltb k (length names))) [
    | inl t ↦ t ∙ sym (lt-ltb k (length new_names) (omega (arith, ne, ltb-true k (length names) t, is_last, names_len)))
    | inr t ↦ t ∙ sym (not_less k (length new_names) (omega (arith, at_least k (length names) t, is_last, names_len)))
  ]

  by_number : (P : ℕ → Type 0) (k : ℕ) → P n → (m ≢ n → P m) → (k ≢ n → k ≢ m → P k) → P k
  by_number P k at_n at_m at_o = elim (same_or k n) [
    | inl is ↦ subst P (sym is) at_n
    | inr ne ↦ elim (same_or k m) [ inl is ↦ subst P (sym is) (at_m (λ e. ne (is ∙ e))) | inr nm ↦ at_o ne nm ]
  ]

  by_place : (P : ℕ → Type 0) (q : ℕ) → P last → (p ≢ last → P p) → (q ≢ last → q ≢ p → P q) → P q
  by_place P q at_l at_q at_o = elim (same_or q last) [
    | inl is ↦ subst P (sym is) at_l
    | inr ne ↦ elim (same_or q p) [ inl is ↦ subst P (sym is) (at_q (λ e. ne (is ∙ e))) | inr np ↦ at_o ne np ]
  ]

  pub freed : IsDistinct same_name new_names → AreProductRows new_names new_rows new_numbers products
  freed different = record {
    paired = numbers_len ∙ sym rows_len;
    few = omega (arith, a.few, rows_len);
    within = omega (arith, last_known, rows_len, names_len);
    numbered = λ q l. by_place (λ j. row_number_at new_numbers j < length new_rows) q (omega (arith, number_last, known, rows_len)) (λ ne. omega (arith, number_p ne, m_known, rows_len)) (λ nl np. omega (arith, number_o q nl np, a.numbered q (omega (arith, l, rows_len)), rows_len));
    placed = λ k l. by_number (λ j. (product_row_at new_rows j).place < length new_rows) k
        (subst (λ (x : NameRow). x.place < length new_rows) (sym row_n) (omega (arith, last_known, rows_len)))
        (λ ne. subst (λ (x : NameRow). x.place < length new_rows) (sym (row_m ne)) (omega (arith, inside, a.within, rows_len)))
        (λ ne nm. subst (λ (x : NameRow). x.place < length new_rows) (sym (row_o k ne nm)) (omega (arith, a.placed k (omega (arith, l, rows_len)), rows_len)));
    there = λ q l. by_place (λ j. (product_row_at new_rows (row_number_at new_numbers j)).place ≡ j) q
        (ap (λ (k : ℕ). (product_row_at new_rows k).place) number_last ∙ ap (λ (x : NameRow). x.place) row_n)
        (λ ne. ap (λ (k : ℕ). (product_row_at new_rows k).place) (number_p ne) ∙ ap (λ (x : NameRow). x.place) (row_m (p_apart ne)))
        (λ nl np.
        let l2 : q < length rows = omega (arith, l, rows_len) in
        ap (λ (k : ℕ). (product_row_at new_rows k).place) (number_o q nl np) ∙ ap (λ (x : NameRow). x.place) (row_o (row_number_at numbers q) (number_not_n q l2 np) (number_not_m q l2 nl)) ∙ a.there q l2);
    back = λ k l. by_number (λ j. row_number_at new_numbers (product_row_at new_rows j).place ≡ j) k
        (ap (λ (x : NameRow). row_number_at new_numbers x.place) row_n ∙ number_last)
        (λ ne. ap (λ (x : NameRow). row_number_at new_numbers x.place) (row_m ne) ∙ number_p (m_apart ne))
        (λ ne nm.
        let l2 : k < length rows = omega (arith, l, rows_len) in
        ap (λ (x : NameRow). row_number_at new_numbers x.place) (row_o k ne nm) ∙ number_o (product_row_at rows k).place (place_not_last k l2 nm) (place_not_p k l2 ne) ∙ a.back k l2);
    live = λ k l. by_number (λ j. ltb 0 (product_row_at new_rows j).holds ≡ ltb (product_row_at new_rows j).place (length new_names)) k
        (ap (λ (x : NameRow). ltb 0 x.holds) row_n ∙ sym (not_less last (length new_names) (omega (arith, names_len))) ∙ ap (λ (x : NameRow). ltb x.place (length new_names)) (sym row_n))
        (λ ne.
        ap (λ (x : NameRow). ltb 0 x.holds) (row_m ne) ∙ a.live m m_known ∙ lt-ltb (product_row_at rows m).place (length names) (omega (arith, m_place, is_last))
        ∙ sym (lt-ltb p (length new_names) (omega (arith, below_last (m_apart ne), names_len))) ∙ ap (λ (x : NameRow). ltb x.place (length new_names)) (sym (row_m ne)))
        (λ ne nm.
        let l2 : k < length rows = omega (arith, l, rows_len) in
        ap (λ (x : NameRow). ltb 0 x.holds) (row_o k ne nm) ∙ a.live k l2 ∙ one_less (product_row_at rows k).place (place_not_last k l2 nm) ∙ ap (λ (x : NameRow). ltb x.place (length new_names)) (sym (row_o k ne nm)));
    small = λ k. by_number (λ j. (product_row_at new_rows j).holds < 4294967296) k
        (subst (λ (x : NameRow). x.holds < 4294967296) (sym row_n) (omega arith))
        (λ ne. subst (λ (x : NameRow). x.holds < 4294967296) (sym (row_m ne)) (a.small m))
        (λ ne nm. subst (λ (x : NameRow). x.holds < 4294967296) (sym (row_o k ne nm)) (a.small k));
    different = different;
    lower = All-from_get_or IsLower new_names any_values (λ q l. lower_at q (omega (arith, l, names_len)));
    product = λ k l inside2. by_number (λ j. (product_row_at new_rows j).place < length new_names → product_at products (product_row_at new_rows j).product ≡ Some (name_in_place new_names (product_row_at new_rows j).place).product) k
        (λ i. absurd (omega (arith, names_len, subst (λ (x : NameRow). x.place < length new_names) row_n i)))
        (λ ne i.
        ap (λ (x : NameRow). product_at products x.product) (row_m ne) ∙ a.product m m_known (omega (arith, m_place, is_last))
        ∙ ap {B = Option Value} (λ (j : ℕ). Some (name_in_place names j).product) m_place ∙ ap {B = Option Value} (λ (v : Values). Some v.product) (sym (name_p (below_last (m_apart ne)))) ∙ ap {B = Option Value} (λ (x : NameRow). Some (name_in_place new_names x.place).product) (sym (row_m ne)))
        (λ ne nm i.
        let l2 : k < length rows = omega (arith, l, rows_len) in
        let at : (product_row_at rows k).place < last = omega (arith, names_len, subst (λ (x : NameRow). x.place < length new_names) (row_o k ne nm) i) in
        ap (λ (x : NameRow). product_at products x.product) (row_o k ne nm) ∙ a.product k l2 (omega (arith, at, is_last))
        ∙ ap {B = Option Value} (λ (v : Values). Some v.product) (sym (name_o (product_row_at rows k).place at (place_not_p k l2 ne))) ∙ ap {B = Option Value} (λ (x : NameRow). Some (name_in_place new_names x.place).product) (sym (row_o k ne nm)))
        inside2;
  }
    where
      lower_at : (q : ℕ) → q < last → IsLower (name_in_place new_names q)
      lower_at q lt = elim (same_or q p) [
        | inl is ↦ subst IsLower (sym (ap (name_in_place new_names) is ∙ name_p (omega (arith, is, lt)))) (All-get_or IsLower names last any_values (omega (arith, is_last)) a.lower)
        | inr ne ↦ subst IsLower (sym (name_o q lt ne)) (All-get_or IsLower names q any_values (omega (arith, lt, is_last)) a.lower)
      ]

  none_kept : (ws : List Values) (r : NameRow) → ltb 0 r.holds ≡ false → kept_of ws r ≡ None
  none_kept ws r h = ap (λ (b : Bool). cond b (Some (kept (name_in_place ws r.place) r.holds r.product)) None) h

  moved_same : m ≢ n → kept_of new_names moved ≡ kept_of names (product_row_at rows m)
  moved_same ne =
      let held : ltb 0 (product_row_at rows m).holds ≡ true = a.live m m_known ∙ lt-ltb (product_row_at rows m).place (length names) (omega (arith, m_place, is_last)) in
      kept_of_read new_names moved held
      ∙ ap {B = Option Kept} (λ (v : Values). Some (kept v (product_row_at rows m).holds (product_row_at rows m).product)) (name_p (below_last (m_apart ne)) ∙ ap (name_in_place names) (sym m_place))
      ∙ sym (kept_of_read names (product_row_at rows m) held)

  other_same : (k : ℕ) → k < length rows → k ≢ n → k ≢ m → kept_of new_names (product_row_at rows k) ≡ kept_of names (product_row_at rows k)
  other_same k l ne nm = elim (cases_Bool (ltb 0 (product_row_at rows k).holds)) [
    | inl t ↦
        let at : (product_row_at rows k).place < last = before (product_row_at rows k).place (place_not_last k l nm) (place_inside names rows numbers products a k l t) in
        kept_of_read new_names (product_row_at rows k) t ∙ ap {B = Option Kept} (λ (v : Values). Some (kept v (product_row_at rows k).holds (product_row_at rows k).product)) (name_o (product_row_at rows k).place at (place_not_p k l ne)) ∙ sym (kept_of_read names (product_row_at rows k) t)
    | inr t ↦ none_kept new_names (product_row_at rows k) t ∙ sym (none_kept names (product_row_at rows k) t)
  ]
    where
      before : (j : ℕ) → j ≢ last → j < length names → j < last
      before j ne lt = omega (arith, ne, lt, is_last)

  pub releases : find_kept (table_of_rows new_names new_rows) n ≡ released (find_kept (table_of_rows names rows) n) → Releases (table_of_rows names rows) (table_of_rows new_names new_rows) n
  releases here = record {
    dropped = here;
    others = λ k ne. elim (cases_Bool (ltb k (length rows))) [
      | inl t ↦
          let l = ltb-true k (length rows) t in
          find_at new_names new_rows k (omega (arith, l, rows_len)) ∙ same k l ne ∙ sym (find_at names rows k l)
      | inr t ↦
          let past = at_least k (length rows) t in
          find_past new_names new_rows k (omega (arith, past, rows_len)) ∙ sym (find_past names rows k past)
    ];
  }
    where
      same : (k : ℕ) → k < length rows → k ≢ n → kept_of new_names (product_row_at new_rows k) ≡ kept_of names (product_row_at rows k)
      same k l ne = elim (same_or k m) [
        | inl is ↦
            let nm : m ≢ n = λ e. ne (is ∙ e) in
            ap (λ (j : ℕ). kept_of new_names (product_row_at new_rows j)) is ∙ ap (kept_of new_names) (row_m nm) ∙ moved_same nm ∙ ap (λ (j : ℕ). kept_of names (product_row_at rows j)) (sym is)
        | inr nm ↦ ap (kept_of new_names) (row_o k ne nm) ∙ other_same k l ne nm
      ]

  pub freed_none : (product_row_at rows n).holds ≤ 1 → ltb 0 (product_row_at rows n).holds ≡ true → find_kept (table_of_rows new_names new_rows) n ≡ released (find_kept (table_of_rows names rows) n)
  freed_none few held =
      let old : find_kept (table_of_rows names rows) n ≡ Some (kept (name_in_place names p) (product_row_at rows n).holds (product_row_at rows n).product) = find_at names rows n known ∙ kept_of_read names (product_row_at rows n) held in
      find_at new_names new_rows n (omega (arith, known, rows_len)) ∙ ap (kept_of new_names) row_n
      ∙ sym (ap released old ∙ ap (λ (b : Bool). cond b (Some (kept (name_in_place names p) ((product_row_at rows n).holds - 1) (product_row_at rows n).product)) None) (not_less 1 (product_row_at rows n).holds few))

-- ---- one of several holds is removed

pub lowered : (names : List Values) (rows : List NameRow) (n : ℕ) → n < length rows → 1 < (product_row_at rows n).holds
    → Releases (table_of_rows names rows) (table_of_rows names (set rows n (product_row_with (product_row_at rows n).place ((product_row_at rows n).holds - 1) (product_row_at rows n).product))) n
lowered names rows n known many =
    let r = product_row_at rows n in
    let s = product_row_with r.place (r.holds - 1) r.product in
    let old : find_kept (table_of_rows names rows) n ≡ Some (kept (name_in_place names r.place) r.holds r.product) = find_at names rows n known ∙ kept_of_read names r (lt-ltb 0 r.holds (omega (arith, many))) in
    let new : find_kept (table_of_rows names (set rows n s)) n ≡ Some (kept (name_in_place names r.place) (r.holds - 1) r.product) = find_written names rows n s known ∙ kept_of_read names s (lt-ltb 0 (r.holds - 1) (omega (arith, many))) in
    record {
      dropped = new ∙ sym (ap released old ∙ ap (λ (b : Bool). cond b (Some (kept (name_in_place names r.place) (r.holds - 1) r.product)) None) (lt-ltb 1 r.holds many));
      others = find_unwritten names rows n s known;
    }

-- ---- a live number

pub record Live (names : List Values) (rows : List NameRow) (n : ℕ) : Type 0 where
  pub known : n < length rows
  pub held : ltb 0 (product_row_at rows n).holds ≡ true
  pub is : find_kept (table_of_rows names rows) n ≡ Some (kept (name_in_place names (product_row_at rows n).place) (product_row_at rows n).holds (product_row_at rows n).product)

pub live_there : (names : List Values) (rows : List NameRow) (n : ℕ) → IsLive (table_of_rows names rows) n → Live names rows n
live_there names rows n live = by (find_kept (table_of_rows names rows) n) refl live
  where
    by : (o : Option Kept) → find_kept (table_of_rows names rows) n ≡ o → IsSome o → Live names rows n
    by None e h = absurd cc
    by (Some k) e h =
        let t = kept_there names rows n k e in
        record { known = t.known; held = t.held; is = find_at names rows n t.known ∙ kept_of_read names (product_row_at rows n) t.held }

-- A live number has holds, and its place is the place of a name.
pub record Lived (names : List Values) (rows : List NameRow) (n : ℕ) : Type 0 where
  pub known : n < length rows
  pub held : ltb 0 (product_row_at rows n).holds ≡ true
  pub inside : (product_row_at rows n).place < length names

pub lived : (names : List Values) (rows : List NameRow) (numbers : List ℕ) (products : ProductList) (n : ℕ) → AreProductRows names rows numbers products → IsLive (table_of_rows names rows) n → Lived names rows n
lived names rows numbers products n a live =
    let l = live_there names rows n live in
    record { known = l.known; held = l.held; inside = place_inside names rows numbers products a n l.known l.held }

-- A number was freed, and its name removed.
pub record Gone (names new_names : List Values) (rows new_rows : List NameRow) (new_numbers : List ℕ) (products : ProductList) (n : ℕ) : Type 0 where
  pub rows_are : AreProductRows new_names new_rows new_numbers products
  pub names_are : Releases (table_of_rows names rows) (table_of_rows new_names new_rows) n

pub gone : (names : List Values) (rows : List NameRow) (numbers : List ℕ) (products : ProductList) (n last : ℕ) → AreProductRows names rows numbers products → Lived names rows n → last + 1 ≡ length names → (product_row_at rows n).holds ≤ 1
    → (new_names : List Values) (new_rows : List NameRow) (new_numbers : List ℕ) → new_names ≡ swap_remove names (product_row_at rows n).place (name_in_place names (product_row_at rows n).place) → IsDistinct same_name new_names
    → new_rows ≡ freed_rows rows numbers n last → new_numbers ≡ freed_row_numbers rows numbers n last → Gone names new_names rows new_rows new_numbers products n
gone names rows numbers products n last a l is_last few new_names new_rows new_numbers names_are different rows_are numbers_are =
    let w = name_in_place names (product_row_at rows n).place in
    let left = swap_remove names (product_row_at rows n).place w in
    record {
      rows_are = subst (λ (ws : List Values). AreProductRows ws new_rows new_numbers products) (sym names_are)
          (subst (λ (rs : List NameRow). AreProductRows left rs new_numbers products) (sym rows_are)
          (subst (λ (ns : List ℕ). AreProductRows left (freed_rows rows numbers n last) ns products) (sym numbers_are)
          (freed names rows numbers products n last w a l.known l.inside is_last (subst (λ (ws : List Values). IsDistinct same_name ws) names_are different))));
      names_are = subst (λ (ws : List Values). Releases (table_of_rows names rows) (table_of_rows ws new_rows) n) (sym names_are)
          (subst (λ (rs : List NameRow). Releases (table_of_rows names rows) (table_of_rows left rs) n) (sym rows_are)
          (releases names rows numbers products n last w a l.known l.inside is_last (freed_none names rows numbers products n last w a l.known l.inside is_last few l.held)));
    }

pub are_names : (names : List Values) (rows : List NameRow) (numbers : List ℕ) (products : ProductList) → AreProductRows names rows numbers products → ((m n : ℕ) (v : Value) → product_at products m ≡ Some v → product_at products n ≡ Some v → m ≡ n) → IsNameTable (table_of_rows names rows)
are_names names rows numbers products a one = record {
  lower = λ id k h. let t = kept_there names rows id k h in subst (λ (x : Kept). IsLower x.name) t.is (All-get_or IsLower names (product_row_at rows id).place any_values (inside id t.known t.held) a.lower);
  held = λ id k h. let t = kept_there names rows id k h in subst (λ (x : Kept). 0 < x.holds) t.is (ltb-true 0 (product_row_at rows id).holds t.held);
  different = λ id other k l h j e.
      let t = kept_there names rows id k h in
      let u = kept_there names rows other l j in
      let same : name_in_place names (product_row_at rows id).place ≡ name_in_place names (product_row_at rows other).place = ap (λ (x : Kept). x.name) t.is ∙ e ∙ sym (ap (λ (x : Kept). x.name) u.is) in
      let place = one_place names (product_row_at rows id).place (product_row_at rows other).place a.different (inside id t.known t.held) (inside other u.known u.held) same in
      sym (a.back id t.known) ∙ ap (row_number_at numbers) place ∙ a.back other u.known;
  same_product = λ id other k l h j e.
      let t = kept_there names rows id k h in
      let u = kept_there names rows other l j in
      same_Some _ _ (sym (of id k t) ∙ ap (product_at products) e ∙ of other l u);
  one_number = λ id other k l h j e.
      let t = kept_there names rows id k h in
      let u = kept_there names rows other l j in
      one k.product l.product k.name.product (of id k t) (of other l u ∙ ap {B = Option Value} (λ (v : Value). Some v) (sym e));
}
  where
    inside : (n : ℕ) → n < length rows → ltb 0 (product_row_at rows n).holds ≡ true → (product_row_at rows n).place < length names
    inside n l t = place_inside names rows numbers products a n l t

    of : (id : ℕ) (k : Kept) → KeptThere names rows id k → product_at products k.product ≡ Some k.name.product
    of id k t = subst (λ (x : Kept). product_at products x.product ≡ Some x.name.product) t.is (a.product id t.known (inside id t.known t.held))

-- A live number's product number is the number of its name's product.
pub product_there : (names : List Values) (rows : List NameRow) (numbers : List ℕ) (products : ProductList) → AreProductRows names rows numbers products → (id : ℕ) (k : Kept) → find_kept (table_of_rows names rows) id ≡ Some k → product_at products k.product ≡ Some k.name.product
product_there names rows numbers products a id k h =
    let t = kept_there names rows id k h in
    subst (λ (x : Kept). product_at products x.product ≡ Some x.name.product) t.is (a.product id t.known (place_inside names rows numbers products a id t.known t.held))
