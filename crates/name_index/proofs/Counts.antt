-- Lemmas: how many live names have a product number, and which products stay.
use Rattle.std.proofs.Common.{◌≡◌, ◌≢◌, ℕ, ◌+◌, ◌-◌, ◌<◌, ◌≤◌, Bool, true, false, ◌&&◌, cond, ltb, List, [], ◌∷◌, ◌++◌, length, get_or, set, Option, Some, None, refl, sym, ap, subst, ◌∙◌, inl, inr, arith, length-set, eqb-true, eq-eqb}
use Rattle.std.specs.Prelude.{nat_lt, nat_eq, IsSome, is_some}
use Rattle.std.proofs.lemmas.Bool.{cases_Bool, cases_eq, cases_lt, both_ways, lt-ltb}
use Rattle.std.proofs.lemmas.List.{get_or-set_same, get_or-set_other, get_or_past, get_or_push, get_or_append_left, length_push}
use Rattle.std.proofs.lemmas.List.Sums.{sum_by-cons, sum_by-append, sum_by-set, get_or-le-sum_by, count_by-le-length}
use Rattle.cpe_values.specs.declared.value.Value.{Value}
use Rattle.cpe_name.specs.Eleven.{Values}
use Rattle.name_index.specs.Listed.{ProductList, product_at, Removes}
use Rattle.name_index.specs.declared.table.NameRow.{NameRow}
use Rattle.name_index.specs.Rows.{product_row_with, product_row_at, row_number_at, name_in_place, AreProductRows, Grows, freed_rows, names_with, product_count_at, AreProductCounts, HasProductNumber}
use Rattle.name_index.proofs.Freed.{Lived}
use Rattle.name_index.proofs.TableChanges.{read_same, read_other, not_less, prepared, rows_beside, same_rows}

-- ---- how many names have a product number

abbrev pub weighs : ℕ → NameRow → ℕ
weighs product r = cond (nat_lt 0 r.holds && nat_eq r.product product) 1 0

weighs_live : (product : ℕ) (r : NameRow) → ltb 0 r.holds ≡ true → weighs product r ≡ cond (nat_eq r.product product) 1 0
weighs_live product r h = ap {B = ℕ} (λ (b : Bool). cond (b && nat_eq r.product product) 1 0) h

weighs_free : (product : ℕ) (r : NameRow) → ltb 0 r.holds ≡ false → weighs product r ≡ 0
weighs_free product r h = ap {B = ℕ} (λ (b : Bool). cond (b && nat_eq r.product product) 1 0) h

names_set : (rows : List NameRow) (n : ℕ) (r : NameRow) (product : ℕ) → n < length rows → names_with (set rows n r) product + weighs product (product_row_at rows n) ≡ names_with rows product + weighs product r
names_set rows n r product lt = sum_by-set (weighs product) rows n r (product_row_with 0 0 0) lt

pub names_known : (rows : List NameRow) (n product : ℕ) → n < length rows → ltb 0 (product_row_at rows n).holds ≡ true → (product_row_at rows n).product ≡ product → 0 < names_with rows product
names_known rows n product lt held is =
    let one : ◌≡◌ {A = ℕ} (cond (nat_eq (product_row_at rows n).product product) 1 0) 1 = ap {B = ℕ} (λ (b : Bool). cond b 1 0) (eq-eqb _ product is) in
    omega (arith, get_or-le-sum_by (weighs product) rows n (product_row_with 0 0 0) lt, weighs_live product (product_row_at rows n) held, one)

pub few_names : (rows : List NameRow) (product : ℕ) → names_with rows product ≤ length rows
few_names rows product = count_by-le-length (λ (r : NameRow). nat_lt 0 r.holds && nat_eq r.product product) rows

-- The number of a product's names is unchanged if a live name has other holds.
pub other_holds : (rows : List NameRow) (n h place : ℕ) → n < length rows → ltb 0 (product_row_at rows n).holds ≡ true → ltb 0 h ≡ true → (product : ℕ) → names_with (set rows n (product_row_with place h (product_row_at rows n).product)) product ≡ names_with rows product
other_holds rows n h place lt held more product =
    let r = product_row_with place h (product_row_at rows n).product in
    omega (arith, names_set rows n r product lt, weighs_live product (product_row_at rows n) held, weighs_live product r more)

-- A new free number changes the number of no product's names.
pub names_grown : (rows new_rows : List NameRow) (numbers new_numbers : List ℕ) (place : ℕ) → Grows rows numbers place new_rows new_numbers → (product : ℕ) → names_with new_rows product ≡ names_with rows product
names_grown rows new_rows numbers new_numbers place (Grows.kept_room lt e f) product = ap (λ (rs : List NameRow). names_with rs product) e
names_grown rows new_rows numbers new_numbers place (Grows.one_more is few e f) product =
    ap (λ (rs : List NameRow). names_with rs product) e ∙ omega (arith, sum_by-append (weighs product) rows (product_row_with place 0 0 ∷ []), sum_by-cons (weighs product) (product_row_with place 0 0) [])

-- If a free number gets a name, its product has one name more.
pub names_filled : (rows : List NameRow) (n : ℕ) (r : NameRow) → n < length rows → ltb 0 (product_row_at rows n).holds ≡ false → ltb 0 r.holds ≡ true → (product : ℕ) → names_with (set rows n r) product ≡ names_with rows product + cond (nat_eq r.product product) 1 0
names_filled rows n r lt free held product = omega (arith, names_set rows n r product lt, weighs_free product (product_row_at rows n) free, weighs_live product r held)

-- If a number is freed, its product has one name less.
pub names_freed : (rows : List NameRow) (numbers : List ℕ) (n last : ℕ) → n < length rows → row_number_at numbers last < length rows → ltb 0 (product_row_at rows n).holds ≡ true
    → (product : ℕ) → names_with (freed_rows rows numbers n last) product + cond (nat_eq (product_row_at rows n).product product) 1 0 ≡ names_with rows product
names_freed rows numbers n last lt moved_lt held product =
    let m = row_number_at numbers last in
    let moved = product_row_with (product_row_at rows n).place (product_row_at rows m).holds (product_row_at rows m).product in
    let same : names_with (set rows m moved) product ≡ names_with rows product = omega (arith, names_set rows m moved product moved_lt) in
    let here : weighs product (product_row_at (set rows m moved) n) ≡ weighs product (product_row_at rows n) = elim (cases_eq n m) [
      | inl is ↦ ap (λ (k : ℕ). weighs product (product_row_at (set rows m moved) k)) is ∙ ap (weighs product) (read_same rows m moved moved_lt) ∙ ap (λ (k : ℕ). weighs product (product_row_at rows k)) (sym is)
      | inr ne ↦ ap (weighs product) (read_other rows m n moved ne)
    ] in
    omega (arith, names_set (set rows m moved) n (product_row_with last 0 0) product (omega (arith, lt, length-set rows m moved)), same, here, weighs_free product (product_row_with last 0 0) refl, weighs_live product (product_row_at rows n) held)

-- ---- counts

pub count_known : (counts : List ℕ) (p : ℕ) → 0 < product_count_at counts p → p < length counts
count_known counts p some = elim (cases_lt p (length counts)) [ inl lt ↦ lt | inr le ↦ absurd (omega (arith, some, get_or_past counts p 0 le)) ]

pub count_pushed : (counts : List ℕ) (p : ℕ) → product_count_at (counts ++ 0 ∷ []) p ≡ product_count_at counts p
count_pushed counts p = elim (cases_lt p (length counts)) [
  | inl lt ↦ get_or_append_left counts (0 ∷ []) 0 p lt
  | inr le ↦ elim (cases_eq (length counts) p) [
    | inl is ↦ get_or_push counts 0 0 p is ∙ sym (get_or_past counts p 0 le)
    | inr ne ↦ get_or_past (counts ++ 0 ∷ []) p 0 (omega (arith, le, ne, length_push counts 0)) ∙ sym (get_or_past counts p 0 le)
  ]
]

pub same_names : (rows new_rows : List NameRow) (products : ProductList) (counts : List ℕ) → ((product : ℕ) → names_with new_rows product ≡ names_with rows product) → AreProductCounts rows products counts → AreProductCounts new_rows products counts
same_names rows new_rows products counts same a = record {
  counted = λ p. a.counted p ∙ sym (same p);
  named = λ p h. omega (arith, a.named p h, same p);
}

-- Counts are right if they are equal to counts that are right.
pub same_counts : (rows new_rows : List NameRow) (products new_products : ProductList) (counts new_counts : List ℕ) → new_rows ≡ rows → new_products ≡ products → ((p : ℕ) → product_count_at new_counts p ≡ product_count_at counts p) → AreProductCounts rows products counts → AreProductCounts new_rows new_products new_counts
same_counts rows new_rows products new_products counts new_counts e f same a =
    subst (λ (rs : List NameRow). AreProductCounts rs new_products new_counts) (sym e) (subst (λ (ps : ProductList). AreProductCounts rows ps new_counts) (sym f) (record {
      counted = λ p. same p ∙ a.counted p;
      named = a.named;
    }))

-- The counts are right after a product has one name more.
pub one_more_name : (rows new_rows : List NameRow) (old new : ProductList) (counts more_counts new_counts : List ℕ) (product : ℕ) (v : Value) → AreProductCounts rows old counts → ((p : ℕ) → names_with new_rows p ≡ names_with rows p + cond (nat_eq product p) 1 0)
    → HasProductNumber old new product v → ((p : ℕ) → product_count_at more_counts p ≡ product_count_at counts p) → product < length more_counts → new_counts ≡ set more_counts product (product_count_at more_counts product + 1) → AreProductCounts new_rows new new_counts
one_more_name rows new_rows old new counts more_counts new_counts product v a more given same inside is = record {
  counted = λ p. ap (λ (ns : List ℕ). product_count_at ns p) is ∙ elim (cases_eq p product) [
    | inl e ↦
        let one : ◌≡◌ {A = ℕ} (cond (nat_eq product p) 1 0) 1 = ap {B = ℕ} (λ (b : Bool). cond b 1 0) (eq-eqb product p (sym e)) in
        ap (λ (k : ℕ). get_or (set more_counts product (product_count_at more_counts product + 1)) k 0) e ∙ get_or-set_same more_counts product (product_count_at more_counts product + 1) 0 inside
        ∙ omega (arith, same product, a.counted product, more p, one, ap (names_with rows) e)
    | inr ne ↦
        get_or-set_other more_counts product p (product_count_at more_counts product + 1) 0 ne ∙ omega (arith, same p, a.counted p, more p, none product p ne)
  ];
  named = λ p h. elim (cases_eq p product) [
    | inl e ↦ omega (arith, more p, ap {B = ℕ} (λ (b : Bool). cond b 1 0) (eq-eqb product p (sym e)))
    | inr ne ↦ omega (arith, more p, a.named p (subst IsSome (given.others p ne) h))
  ];
}
  where
    none : (product p : ℕ) → p ≢ product → ◌≡◌ {A = ℕ} (cond (nat_eq product p) 1 0) 0
    none product p ne = elim (cases_Bool (nat_eq product p)) [ inl t ↦ absurd (ne (sym (eqb-true product p t))) | inr f ↦ ap {B = ℕ} (λ (b : Bool). cond b 1 0) f ]

pub given_more : (old new : ProductList) (product : ℕ) (v : Value) → HasProductNumber old new product v → (p : ℕ) (w : Value) → product_at old p ≡ Some w → product_at new p ≡ Some w
given_more old new product v g p w h = elim (cases_eq p product) [
  | inl e ↦ ap (product_at new) e ∙ g.has ∙ ap {B = Option Value} (λ (x : Value). Some x) (sym (g.before w (ap (product_at old) (sym e) ∙ h)))
  | inr ne ↦ g.others p ne ∙ h
]

-- The counts are right after a product has one name less.
pub lowered_counts : (rows new_rows : List NameRow) (counts new_counts : List ℕ) (product : ℕ) → ((p : ℕ) → product_count_at counts p ≡ names_with rows p) → ((p : ℕ) → names_with new_rows p + cond (nat_eq product p) 1 0 ≡ names_with rows p)
    → product < length counts → new_counts ≡ set counts product (product_count_at counts product - 1) → (p : ℕ) → product_count_at new_counts p ≡ names_with new_rows p
lowered_counts rows new_rows counts new_counts product counted less inside is p = ap (λ (ns : List ℕ). product_count_at ns p) is ∙ elim (cases_eq p product) [
  | inl e ↦
      let one : ◌≡◌ {A = ℕ} (cond (nat_eq product p) 1 0) 1 = ap {B = ℕ} (λ (b : Bool). cond b 1 0) (eq-eqb product p (sym e)) in
      ap (λ (k : ℕ). get_or (set counts product (product_count_at counts product - 1)) k 0) e ∙ get_or-set_same counts product (product_count_at counts product - 1) 0 inside
      ∙ omega (arith, counted product, less p, one, ap (names_with rows) e)
  | inr ne ↦ get_or-set_other counts product p (product_count_at counts product - 1) 0 ne ∙ omega (arith, counted p, less p, none ne)
]
  where
    none : p ≢ product → ◌≡◌ {A = ℕ} (cond (nat_eq product p) 1 0) 0
    none ne = elim (cases_Bool (nat_eq product p)) [ inl t ↦ absurd (ne (sym (eqb-true product p t))) | inr f ↦ ap {B = ℕ} (λ (b : Bool). cond b 1 0) f ]

-- ---- a product is removed with its last name

pub some_is : (o : Option Value) (v : Value) → o ≡ Some v → IsSome o
some_is o v h = ap is_some h

module _ (names : List Values) (rows : List NameRow) (numbers : List ℕ) (old new : ProductList) (counts : List ℕ) (product : ℕ) (a : AreProductRows names rows numbers old) (counted : (p : ℕ) → product_count_at counts p ≡ names_with rows p)
    (named : (p : ℕ) → p ≢ product → IsSome (product_at old p) → 0 < names_with rows p) (stays : 0 < product_count_at counts product → new ≡ old) (rest_goes : product_count_at counts product ≡ 0 → Removes old new product) where
  gone_none : product_count_at counts product ≡ 0 → (n : ℕ) → n < length rows → (product_row_at rows n).place < length names → (product_row_at rows n).product ≢ product
  gone_none z n lt inside is = absurd (omega (arith, z, counted product, names_known rows n product lt (a.live n lt ∙ lt-ltb (product_row_at rows n).place (length names) inside) is))

  pub settled_rows : AreProductRows names rows numbers new
  settled_rows = elim (cases_lt 0 (product_count_at counts product)) [
    | inl some ↦ subst (AreProductRows names rows numbers) (sym (stays some)) a
    | inr none ↦
        let z : product_count_at counts product ≡ 0 = omega (arith, none) in
        rows_beside names rows numbers old new a (λ n l inside. (rest_goes z).others (product_row_at rows n).product (gone_none z n l inside) ∙ a.product n l inside)
  ]

  pub settled_counts : AreProductCounts rows new counts
  settled_counts = record {
    counted = counted;
    named = λ p h. elim (cases_eq p product) [
      | inl e ↦ elim (cases_lt 0 (product_count_at counts product)) [
        | inl some ↦ omega (arith, some, counted product, ap (names_with rows) e)
        | inr none ↦ absurd (none_some (product_at new p) (ap (product_at new) e ∙ (rest_goes (omega (arith, none))).free) h)
      ]
      | inr ne ↦ named p ne (elim (cases_lt 0 (product_count_at counts product)) [
        | inl some ↦ subst (λ (l : ProductList). IsSome (product_at l p)) (stays some) h
        | inr none ↦ subst IsSome ((rest_goes (omega (arith, none))).others p ne) h
      ])
    ];
  }
    where
      none_some : (o : Option Value) → o ≡ None → IsSome o → ⊥
      none_some o e h = both_ways _ (ap is_some e) h

-- ---- what the functions of a table need

-- A new name gets a number.
module _ (names : List Values) (rows grown_rows : List NameRow) (numbers grown_numbers : List ℕ) (products : ProductList) (place n product : ℕ) (at : place ≡ length names) (a : AreProductRows names rows numbers products)
    (grows : Grows rows numbers place grown_rows grown_numbers) (e : n ≡ row_number_at grown_numbers place) (new_rows : List NameRow) (written : new_rows ≡ set grown_rows n (product_row_with place 1 product)) where
  pub held_more : (p : ℕ) → names_with new_rows p ≡ names_with rows p + cond (nat_eq product p) 1 0
  held_more p =
      let ready = prepared names rows grown_rows numbers grown_numbers products place at a grows in
      let number : n ≡ row_number_at grown_numbers (length names) = e ∙ ap (row_number_at grown_numbers) at in
      let known : n < length grown_rows = omega (arith, number, ready.rows_are.numbered (length names) ready.free) in
      let its_place : (product_row_at grown_rows n).place ≡ length names = ap (λ (k : ℕ). (product_row_at grown_rows k).place) number ∙ ready.rows_are.there (length names) ready.free in
      let free : ltb 0 (product_row_at grown_rows n).holds ≡ false = ready.rows_are.live n known ∙ ap (λ (k : ℕ). ltb k (length names)) its_place ∙ not_less (length names) (length names) (omega arith) in
      ap (λ (rs : List NameRow). names_with rs p) written ∙ names_filled grown_rows n (product_row_with place 1 product) known free refl p ∙ ap (λ (k : ℕ). k + cond (nat_eq product p) 1 0) (names_grown rows grown_rows numbers grown_numbers place grows p)

-- A count that is raised is below the limit.
pub few_counts : (names : List Values) (rows : List NameRow) (numbers : List ℕ) (products : ProductList) (old_rows : List NameRow) (counts more_counts : List ℕ) (product : ℕ) → AreProductRows names rows numbers products → ((p : ℕ) → product_count_at counts p ≡ names_with old_rows p)
    → ((p : ℕ) → product_count_at more_counts p ≡ product_count_at counts p) → ((p : ℕ) → names_with rows p ≡ names_with old_rows p + cond (nat_eq product p) 1 0) → product_count_at more_counts product < 4294967295
few_counts names rows numbers products old_rows counts more_counts product a counted same more =
    omega (arith, a.few, few_names rows product, same product, counted product, more product, ap {B = ℕ} (λ (b : Bool). cond b 1 0) (eq-eqb product product refl))

-- If no name was added, a product that was added for it is removed again.
pub restored : (names : List Values) (rows : List NameRow) (numbers : List ℕ) (old given new : ProductList) (counts more_counts : List ℕ) (product : ℕ) (v : Value) → AreProductRows names rows numbers old → AreProductCounts rows old counts → HasProductNumber old given product v
    → ((p : ℕ) → product_count_at more_counts p ≡ product_count_at counts p) → (0 < product_count_at more_counts product → new ≡ given) → (product_count_at more_counts product ≡ 0 → Removes given new product) → AreProductRows names rows numbers new × AreProductCounts rows new more_counts
restored names rows numbers old given new counts more_counts product v a k g same stays rest_goes =
    let b = same_rows names names rows rows numbers numbers old given refl refl refl (given_more old given product v g) a in
    let counted = λ (p : ℕ). same p ∙ k.counted p in
    let named = λ (p : ℕ) (ne : p ≢ product) (h : IsSome (product_at given p)). k.named p (subst IsSome (g.others p ne) h) in
    (settled_rows names rows numbers given new more_counts product b counted named stays rest_goes, settled_counts names rows numbers given new more_counts product b counted named stays rest_goes)

module _ (names : List Values) (rows : List NameRow) (numbers : List ℕ) (products : ProductList) (counts : List ℕ) (n : ℕ) (a : AreProductRows names rows numbers products) (k : AreProductCounts rows products counts) (l : Lived names rows n) where
  pub its_product : IsSome (product_at products (product_row_at rows n).product)
  its_product = some_is (product_at products (product_row_at rows n).product) (name_in_place names (product_row_at rows n).place).product (a.product n l.known l.inside)

  pub its_count : 0 < product_count_at counts (product_row_at rows n).product
  its_count = omega (arith, k.counted (product_row_at rows n).product, names_known rows n (product_row_at rows n).product l.known l.held refl)

  -- If a number is freed, its product is removed if no other name has it.
  pub discards : (new_names : List Values) (new_rows : List NameRow) (new_numbers : List ℕ) (new : ProductList) (new_counts : List ℕ) (product last : ℕ) → product ≡ (product_row_at rows n).product → last + 1 ≡ length names → AreProductRows new_names new_rows new_numbers products → new_rows ≡ freed_rows rows numbers n last
      → new_counts ≡ set counts product (product_count_at counts product - 1) → (0 < product_count_at new_counts product → new ≡ products) → (product_count_at new_counts product ≡ 0 → Removes products new product) → AreProductRows new_names new_rows new_numbers new × AreProductCounts new_rows new new_counts
  discards new_names new_rows new_numbers new new_counts product last is is_last b freed lowered stays rest_goes =
      let moved : row_number_at numbers last < length rows = a.numbered last (omega (arith, is_last, a.within)) in
      let less = λ (p : ℕ). ap (λ (rs : List NameRow). names_with rs p + cond (nat_eq product p) 1 0) freed ∙ ap (λ (q : ℕ). names_with (freed_rows rows numbers n last) p + cond (nat_eq q p) 1 0) is ∙ names_freed rows numbers n last l.known moved l.held p in
      let some : 0 < product_count_at counts product = subst (λ (q : ℕ). 0 < product_count_at counts q) (sym is) its_count in
      let counted = lowered_counts rows new_rows counts new_counts product k.counted less (count_known counts product some) lowered in
      let named = λ (p : ℕ) (ne : p ≢ product) (h : IsSome (product_at products p)). (let more : 0 < names_with new_rows p = omega (arith, less p, apart p ne, k.named p h) in more) in
      (settled_rows new_names new_rows new_numbers products new new_counts product b counted named stays rest_goes, settled_counts new_names new_rows new_numbers products new new_counts product b counted named stays rest_goes)
    where
      apart : (p : ℕ) → p ≢ product → ◌≡◌ {A = ℕ} (cond (nat_eq product p) 1 0) 0
      apart p ne = elim (cases_Bool (nat_eq product p)) [ inl t ↦ absurd (ne (sym (eqb-true product p t))) | inr f ↦ ap {B = ℕ} (λ (b : Bool). cond b 1 0) f ]
