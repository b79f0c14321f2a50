-- Lemmas: what a table's rows keep for the number of a name, and at which place a name is found.
use Rattle.std.proofs.Common.{◌≡◌, ◌⊎◌, ℕ, zero, suc, ◌<◌, ◌≤◌, Bool, true, false, cond, ltb, List, [], ◌∷◌, length, Some, None, refl, sym, ap, ◌∙◌, inl, inr, arith}
use Rattle.std.specs.List.{list_any, position}
use Rattle.std.proofs.lemmas.Bool.{ltb-true, lt-ltb, both_ways, or_cases, or_left, or_right}
use Rattle.std.proofs.lemmas.Option.{cond_some, none-some}
use Rattle.std.proofs.lemmas.List.{get_or-map, get_or_past, length-map}
use Rattle.std.proofs.lemmas.List.Quantifiers.{position-Some}
use Rattle.cpe_name.specs.Eleven.{Values}
use Rattle.cpe_name.specs.Equal.{same_name, same_name-Decides}
use Rattle.cpe_name.specs.Names.{any_values}
use Rattle.name_index.specs.Listed.{ProductList}
use Rattle.name_index.specs.declared.table.NameRow.{NameRow}
use Rattle.name_index.specs.Table.{Kept, kept, find_kept, HasName}
use Rattle.name_index.specs.Rows.{product_row_with, product_row_at, row_number_at, name_in_place, kept_of, table_of_rows, AreProductRows}

-- ---- what is kept for a number

module _ (names : List Values) (rows : List NameRow) where
  pub find_at : (n : ℕ) → n < length rows → find_kept (table_of_rows names rows) n ≡ kept_of names (product_row_at rows n)
  find_at n lt = get_or-map (kept_of names) rows n (product_row_with 0 0 0) None lt

  pub find_past : (n : ℕ) → length rows ≤ n → find_kept (table_of_rows names rows) n ≡ None
  find_past n le = get_or_past (table_of_rows names rows) n None (omega (arith, le, length-map rows (kept_of names)))

  pub record KeptThere (n : ℕ) (k : Kept) : Type 0 where
    pub known : n < length rows
    pub held : ltb 0 (product_row_at rows n).holds ≡ true
    pub is : kept (name_in_place names (product_row_at rows n).place) (product_row_at rows n).holds (product_row_at rows n).product ≡ k

  pub kept_there : (n : ℕ) (k : Kept) → find_kept (table_of_rows names rows) n ≡ Some k → KeptThere n k
  kept_there n k h = by (ltb n (length rows)) refl
    where
      by : (b : Bool) → ltb n (length rows) ≡ b → KeptThere n k
      by true e =
          let lt = ltb-true n (length rows) e in
          let parts = cond_some (ltb 0 (product_row_at rows n).holds) (kept (name_in_place names (product_row_at rows n).place) (product_row_at rows n).holds (product_row_at rows n).product) k (sym (find_at n lt) ∙ h) in
          record { known = lt; held = parts.0; is = parts.1 }
      by false e = absurd (none-some k (sym (find_past n (above e)) ∙ h))
        where
          above : ltb n (length rows) ≡ false → length rows ≤ n
          above f = by_order (order n (length rows))
            where
              order : (a b : ℕ) → (a < b) ⊎ (b ≤ a)
              order a zero = inr (omega arith)
              order zero (suc b) = inl (omega arith)
              order (suc a) (suc b) = elim (order a b) [ inl lt ↦ inl (omega (arith, lt)) | inr le ↦ inr (omega (arith, le)) ]

              by_order : (n < length rows) ⊎ (length rows ≤ n) → length rows ≤ n
              by_order (inl lt) = absurd (both_ways _ f (lt-ltb n (length rows) lt))
              by_order (inr le) = le

-- ---- where a name is found

pub any_at : (names : List Values) (name : Values) (p : ℕ) → p < length names → name_in_place names p ≡ name → list_any (same_name name) names ≡ true
any_at [] name p lt is = absurd (omega (arith, lt))
any_at (w ∷ names) name zero lt is = or_left (same_name name w) (list_any (same_name name) names) ((same_name-Decides name w).1 (sym is))
any_at (w ∷ names) name (suc p) lt is = or_right (same_name name w) (list_any (same_name name) names) (any_at names name p (omega (arith, lt)) is)

pub record FoundAt (names : List Values) (name : Values) (p : ℕ) : Type 0 where
  pub inside : p < length names
  pub is : name_in_place names p ≡ name

pub found_at : (names : List Values) (name : Values) (p : ℕ) → position (same_name name) names ≡ Some p → FoundAt names name p
found_at names name p h =
    let f = position-Some (same_name name) names p any_values h in
    record { inside = f.0; is = sym ((same_name-Decides name (name_in_place names p)).0 f.1) }

pub any_found : (names : List Values) (name : Values) → list_any (same_name name) names ≡ true → (p : ℕ) × FoundAt names name p
any_found [] name h = absurd cc
any_found (w ∷ names) name h = elim (or_cases (same_name name w) (list_any (same_name name) names) h) [
  | inl here ↦ (0, record { inside = omega arith; is = sym ((same_name-Decides name w).0 here) })
  | inr there ↦ let f = any_found names name there in (suc f.0, record { inside = omega (arith, f.1.inside); is = f.1.is })
]

module _ (names : List Values) (rows : List NameRow) (numbers : List ℕ) (products : ProductList) (a : AreProductRows names rows numbers products) where
  pub place_inside : (n : ℕ) → n < length rows → ltb 0 (product_row_at rows n).holds ≡ true → (product_row_at rows n).place < length names
  place_inside n lt held = ltb-true (product_row_at rows n).place (length names) (sym (a.live n lt) ∙ held)

  pub place_held : (p : ℕ) → p < length names → ltb 0 (product_row_at rows (row_number_at numbers p)).holds ≡ true
  place_held p lt =
      let known : p < length rows = omega (arith, lt, a.within) in
      a.live (row_number_at numbers p) (a.numbered p known) ∙ lt-ltb (product_row_at rows (row_number_at numbers p)).place (length names) (omega (arith, a.there p known, lt))

  -- The number of a name's place has this name.
  pub has_name : (name : Values) (p : ℕ) → FoundAt names name p → HasName (table_of_rows names rows) (row_number_at numbers p) name
  has_name name p f =
      let known : p < length rows = omega (arith, f.inside, a.within) in
      let n = row_number_at numbers p in (
        kept (name_in_place names (product_row_at rows n).place) (product_row_at rows n).holds (product_row_at rows n).product,
        find_at names rows n (a.numbered p known) ∙ ap (λ (b : Bool). cond b (Some (kept (name_in_place names (product_row_at rows n).place) (product_row_at rows n).holds (product_row_at rows n).product)) None) (place_held p f.inside),
        ap (name_in_place names) (a.there p known) ∙ f.is,
      )

  -- If a number has the name, the number is the one of the name's place.
  pub name_found : (id : ℕ) (name : Values) → HasName (table_of_rows names rows) id name → list_any (same_name name) names ≡ true
  name_found id name h =
      let t = kept_there names rows id h.0 h.1 in
      any_at names name (product_row_at rows id).place (place_inside id t.known t.held) (ap (λ (k : Kept). k.name) t.is ∙ h.2)
