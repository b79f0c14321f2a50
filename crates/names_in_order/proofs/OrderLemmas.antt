-- Lemmas: numbers in order, the place of each number, and their names.
use Rattle.std.proofs.Common.{◌≡◌, ◌≢◌, ◌⊎◌, ℕ, zero, suc, ◌+◌, ◌<◌, Bool, true, false, cond, not, ltb, List, [], ◌∷◌, ◌++◌, map, length, get_or, set, Option, Some, None, slice_get, position, refl, sym, ap, subst, ◌∙◌, inl, inr, arith, eq-eqb, eqb-true, lt-ltb}
use Rattle.std.specs.Prelude.{IsSome}
use Rattle.std.specs.List.{IsDistinct, position_or_len, sum_by}
use Rattle.std.proofs.lemmas.Bool.{both_ways, false_from_ne_true, ltb-true}
use Rattle.std.proofs.lemmas.Option.{none-some, same_Some, slice_get_within, slice_get-get_or, get_or_from_slice_get}
use Rattle.std.proofs.lemmas.List.{length-map, get_or-map}
use Rattle.std.proofs.lemmas.List.Sums.{sum_by-cons, position_or_len_is}
use Rattle.std.proofs.lemmas.Map.Keys.{IsDistinct-from_apart, apart_from_distinct}
use Rattle.name_index.specs.cpe_name.Eleven.{Values}
use Rattle.name_index.specs.cpe_name.Equal.{same_name, same_name-Decides}
use Rattle.name_index.specs.Elements.{SameElements}
use Rattle.name_index.specs.declared.table.NameId.{NameId}
use Rattle.name_index.specs.Table.{Names, Kept, kept_or, find_kept, kept_at, IsLive, HasName, IsNameTable}
use Rattle.name_index.specs.Index.{ids, name_id, times_held}
use Rattle.name_index.proofs.Postings.{sum_map}
use Rattle.names_in_order.specs.Held.{names_held}
use Rattle.names_in_order.specs.InOrder.{same_id, place_found, names_numbered, HavePlaceOfNumber, AreListedNames}

-- ---- the element at a place

module _ {A : Type 0} where
  pub old_place : (xs : List A) (y x : A) (k : ℕ) → slice_get xs k ≡ Some x → slice_get (xs ++ y ∷ []) k ≡ Some x
  old_place [] y x k e = absurd (none-some x e)
  old_place (z ∷ xs) y x zero e = e
  old_place (z ∷ xs) y x (suc k) e = old_place xs y x k e

  pub last_place : (xs : List A) (y : A) → slice_get (xs ++ y ∷ []) (length xs) ≡ Some y
  last_place [] y = refl
  last_place (z ∷ xs) y = last_place xs y

  pub old_or_last : (xs : List A) (y x : A) (k : ℕ) → slice_get (xs ++ y ∷ []) k ≡ Some x → (slice_get xs k ≡ Some x) ⊎ ((k ≡ length xs) × (y ≡ x))
  old_or_last [] y x zero e = inr (refl, same_Some y x e)
  old_or_last [] y x (suc k) e = absurd (none-some x e)
  old_or_last (z ∷ xs) y x zero e = inl e
  old_or_last (z ∷ xs) y x (suc k) e = elim (old_or_last xs y x k e) [ inl at ↦ inl at | inr last ↦ inr (ap suc last.0, last.1) ]

  pub set_same : (xs : List A) (n : ℕ) (y : A) → n < length xs → slice_get (set xs n y) n ≡ Some y
  set_same [] n y lt = absurd (omega (arith, lt))
  set_same (x ∷ xs) zero y lt = refl
  set_same (x ∷ xs) (suc n) y lt = set_same xs n y (omega (arith, lt))

  pub set_other : (xs : List A) (n m : ℕ) (y : A) → m ≢ n → slice_get (set xs n y) m ≡ slice_get xs m
  set_other [] n m y ne = refl
  set_other (x ∷ xs) zero zero y ne = absurd (ne refl)
  set_other (x ∷ xs) zero (suc m) y ne = refl
  set_other (x ∷ xs) (suc n) zero y ne = refl
  set_other (x ∷ xs) (suc n) (suc m) y ne = set_other xs n m y (λ e. ne (ap suc e))

  -- The first element that passes the test is at place `k`.
  pub first_at : (p : A → Bool) (xs : List A) (k : ℕ) (d : A) → k < length xs → ((j : ℕ) → j < k → p (get_or xs j d) ≡ false) → p (get_or xs k d) ≡ true → position p xs ≡ Some k
  first_at p xs k d lt before here =
      ap (λ (i : ℕ). cond (ltb i (length xs)) (Some i) None) (position_or_len_is p xs k d (omega (arith, lt)) before (λ l. here))
      ∙ ap (λ (b : Bool). cond b (Some k) None) (lt-ltb k (length xs) lt)

  pub none_passes : (p : A → Bool) (xs : List A) → ((k : ℕ) (x : A) → slice_get xs k ≡ Some x → p x ≡ false) → position p xs ≡ None
  none_passes p [] h = refl
  none_passes p (x ∷ xs) h =
      ap (λ (i : ℕ). cond (ltb i (length (x ∷ xs))) (Some i) None)
      (position_or_len_is p (x ∷ xs) (length (x ∷ xs)) x (omega arith) (λ j lt. h j (get_or (x ∷ xs) j x) (slice_get-get_or (x ∷ xs) j x lt)) (λ l. absurd (omega (arith, l))))
      ∙ ap (λ (b : Bool). cond b (Some (length (x ∷ xs))) None) (false_from_ne_true _ (λ (e : ltb (length (x ∷ xs)) (length (x ∷ xs)) ≡ true). absurd (omega (arith, ltb-true (length (x ∷ xs)) (length (x ∷ xs)) e))))

module _ {X Y : Type 0} (p : X → Bool) (q : Y → Bool) (f : X → Y) where
  same_first : (xs : List X) → ((k : ℕ) (x : X) → slice_get xs k ≡ Some x → q (f x) ≡ p x) → position_or_len q (map f xs) ≡ position_or_len p xs
  same_first [] h = refl
  same_first (x ∷ xs) h =
      let head = h 0 x refl in
      let rest = same_first xs (λ k y at. h (suc k) y at) in
      λ i. cond (not (head i)) (1 + rest i) 0

  pub same_position : (xs : List X) → ((k : ℕ) (x : X) → slice_get xs k ≡ Some x → q (f x) ≡ p x) → position q (map f xs) ≡ position p xs
  same_position xs h =
      let first = same_first xs h in
      let len = length-map xs f in
      λ i. cond (ltb (first i) (len i)) (Some (first i)) None

-- ---- numbers and their places

abbrev pub no_id : NameId
no_id = name_id 0

pub same_number : (a b : NameId) → same_id a b ≡ true → a ≡ b
same_number a b h = ap name_id (eqb-true a.0 b.0 h)

pub itself : (a : NameId) → same_id a a ≡ true
itself a = eq-eqb a.0 a.0 refl

-- the place that is kept for a number, if the number is there
abbrev pub found_by : List NameId → Option ℕ → NameId → Option ℕ
found_by numbers None id = None
found_by numbers (Some p) id = place_found (slice_get numbers p) p id

module _ (numbers : List NameId) (places : List ℕ) (placed : HavePlaceOfNumber numbers places) where
  once : (j k : ℕ) (id : NameId) → slice_get numbers j ≡ Some id → slice_get numbers k ≡ Some id → j ≡ k
  once j k id a b = same_Some j k (sym (placed j id a) ∙ placed k id b)

  at_place : (k : ℕ) (id : NameId) → slice_get numbers k ≡ Some id → position (same_id id) numbers ≡ Some k
  at_place k id at =
      first_at (same_id id) numbers k no_id lt
      (λ j below. false_from_ne_true _ (λ e.
      let other = get_or numbers j no_id in
      let there : slice_get numbers j ≡ Some id = slice_get-get_or numbers j no_id (omega (arith, lt, below)) ∙ ap {B = Option NameId} (λ (x : NameId). Some x) (sym (same_number id other e)) in
      absurd (omega (arith, below, once j k id there at))))
      (ap (same_id id) (get_or_from_slice_get numbers k id no_id at) ∙ itself id)
    where
      lt : k < length numbers
      lt = slice_get_within numbers k id at

  nowhere : (id : NameId) → ((k : ℕ) → slice_get numbers k ≡ Some id → ⊥) → position (same_id id) numbers ≡ None
  nowhere id none = none_passes (same_id id) numbers (λ k x at. false_from_ne_true _ (λ e. none k (at ∙ ap {B = Option NameId} (λ (y : NameId). Some y) (sym (same_number id x e)))))

  pub found_number : (id : NameId) (o : Option ℕ) → slice_get places id.0 ≡ o → position (same_id id) numbers ≡ found_by numbers o id
  found_number id None e = nowhere id (λ k at. none-some k (sym e ∙ placed k id at))
  found_number id (Some p) e = go (slice_get numbers p) refl
    where
      only : (k : ℕ) → slice_get numbers k ≡ Some id → p ≡ k
      only k at = same_Some p k (sym e ∙ placed k id at)

      go : (o : Option NameId) → slice_get numbers p ≡ o → position (same_id id) numbers ≡ place_found o p id
      go None n = nowhere id (λ k at. none-some id (sym n ∙ ap (slice_get numbers) (only k at) ∙ at))
      go (Some other) n = by (same_id other id) refl
        where
          by : (b : Bool) → same_id other id ≡ b → position (same_id id) numbers ≡ cond b (Some p) None
          by true s = at_place p id (n ∙ ap {B = Option NameId} (λ (y : NameId). Some y) (same_number other id s))
          by false s = nowhere id (λ k at. both_ways (same_id other id) s (ap (λ (x : NameId). same_id x id) (same_Some other id (sym n ∙ ap (slice_get numbers) (only k at) ∙ at)) ∙ itself id))

  pub distinct : IsDistinct same_id numbers
  distinct = IsDistinct-from_apart same_id numbers (λ i j d below within. false_from_ne_true _ (λ e.
      let x = get_or numbers i d in
      let y = get_or numbers j d in
      let one : slice_get numbers i ≡ Some x = slice_get-get_or numbers i d (omega (arith, below, within)) in
      let two : slice_get numbers j ≡ Some x = slice_get-get_or numbers j d within ∙ ap {B = Option NameId} (λ (z : NameId). Some z) (sym (same_number x y e)) in
      absurd (omega (arith, below, once i j x one two))))

  -- Keeping a place for one number more changes nothing for the numbers of the list.
  pub longer : (place : ℕ) → HavePlaceOfNumber numbers (places ++ place ∷ [])
  longer place k id at = old_place places place k id.0 (placed k id at)

  pub append_number : (id : NameId) → ((k : ℕ) → slice_get numbers k ≢ Some id) → id.0 < length places → HavePlaceOfNumber (numbers ++ id ∷ []) (set places id.0 (length numbers))
  append_number id fresh known k x at = elim (old_or_last numbers id x k at) [
    | inl old ↦
        set_other places id.0 x.0 (length numbers) (λ e. fresh k (old ∙ ap {B = Option NameId} (λ (n : ℕ). Some (name_id n)) e)) ∙ placed k x old
    | inr last ↦
        ap (λ (y : NameId). slice_get (set places id.0 (length numbers)) y.0) (sym last.1) ∙ set_same places id.0 (length numbers) known ∙ ap {B = Option ℕ} (λ (n : ℕ). Some n) (sym last.0)
  ]

-- ---- the names of the numbers

pub kept_live : (table : Names) (id : ℕ) → IsLive table id → (k : Kept) × (find_kept table id ≡ Some k)
kept_live table id live = by (find_kept table id) refl live
  where
    by : (o : Option Kept) → find_kept table id ≡ o → IsSome o → (k : Kept) × (find_kept table id ≡ Some k)
    by None e some = absurd cc
    by (Some k) e some = (k, e)

abbrev name_by : Names → NameId → Values
name_by table id = (kept_at table id.0).name

-- Live numbers with the same name are equal.
one_number : (table : Names) (a b : NameId) → IsNameTable table → IsLive table a.0 → IsLive table b.0 → name_by table a ≡ name_by table b → a ≡ b
one_number table a b names la lb e =
    let k = kept_live table a.0 la in
    let l = kept_live table b.0 lb in
    ap name_id (names.different a.0 b.0 k.0 l.0 k.1 l.1 (sym (ap (λ (o : Option Kept). (kept_or o).name) k.1) ∙ e ∙ ap (λ (o : Option Kept). (kept_or o).name) l.1))

module _ (table : Names) (numbers : List NameId) (names : IsNameTable table) (live : AreListedNames table numbers) where
  -- Two live numbers have the same name exactly if the numbers are equal.
  pub name_by_number : (id : NameId) → IsLive table id.0 → (x : NameId) → IsLive table x.0 → same_name (name_by table id) (name_by table x) ≡ same_id id x
  name_by_number id here x there = by (same_id id x) refl
    where
      by : (b : Bool) → same_id id x ≡ b → same_name (name_by table id) (name_by table x) ≡ same_id id x
      by true e = (same_name-Decides (name_by table id) (name_by table x)).1 (ap (name_by table) (same_number id x e)) ∙ sym e
      by false e =
          false_from_ne_true _ (λ s. both_ways (same_id id x) e (eq-eqb id.0 x.0 (ap (λ (y : NameId). y.0) (one_number table id x names here there ((same_name-Decides (name_by table id) (name_by table x)).0 s))))) ∙ sym e

  pub place_by_name : (id : NameId) → IsLive table id.0 → position (same_name (name_by table id)) (names_numbered table numbers) ≡ position (same_id id) numbers
  place_by_name id here = same_position (same_id id) (same_name (name_by table id)) (name_by table) numbers (λ k x at. name_by_number id here x (live k x at))

  pub names_distinct : IsDistinct same_id numbers → IsDistinct same_name (names_numbered table numbers)
  names_distinct apart = IsDistinct-from_apart same_name (names_numbered table numbers) (λ i j d below within. false_from_ne_true _ (λ e.
      let long = length-map numbers (name_by table) in
      let x = get_or numbers i no_id in
      let y = get_or numbers j no_id in
      let in_y : j < length numbers = omega (arith, within, long) in
      let in_x : i < length numbers = omega (arith, below, in_y) in
      let same : name_by table x ≡ name_by table y = sym (get_or-map (name_by table) numbers i no_id d in_x) ∙ (same_name-Decides (get_or (names_numbered table numbers) i d) (get_or (names_numbered table numbers) j d)).0 e ∙ get_or-map (name_by table) numbers j no_id d in_y in
      let is = one_number table x y names (live i x (slice_get-get_or numbers i no_id in_x)) (live j y (slice_get-get_or numbers j no_id in_y)) same in
      both_ways (same_id x y) (apart_from_distinct same_id numbers i j no_id apart below in_y) (eq-eqb x.0 y.0 (ap (λ (z : NameId). z.0) is))))

-- If no live number has a name, the name is not among the names of the list.
pub name_nowhere : (table : Names) (numbers : List NameId) (name : Values) → AreListedNames table numbers → ((id : ℕ) → HasName table id name → ⊥) → position (same_name name) (names_numbered table numbers) ≡ None
name_nowhere table numbers name live none =
    same_position (λ (x : NameId). same_name name (name_by table x)) (same_name name) (name_by table) numbers (λ k x at. refl)
    ∙ none_passes (λ (x : NameId). same_name name (name_by table x)) numbers (λ k x at. false_from_ne_true _ (λ e.
    let kept = kept_live table x.0 (live k x at) in
    none x.0 (kept.0, kept.1, sym (ap (λ (o : Option Kept). (kept_or o).name) kept.1) ∙ sym ((same_name-Decides name (name_by table x)).0 e))))

-- If a number has a name, the table keeps this name for the number.
pub its_name : (table : Names) (id : ℕ) (name : Values) → HasName table id name → (kept_at table id).name ≡ name
its_name table id name has = ap (λ (o : Option Kept). (kept_or o).name) has.1 ∙ has.2

pub its_live : (table : Names) (id : ℕ) (name : Values) → HasName table id name → IsLive table id
its_live table id name has = subst IsSome (sym has.1) refl

-- The names of the list's numbers are the names of the held numbers.
pub names_same : (table : Names) (held : List (ℕ × ℕ)) (numbers : List NameId) → SameElements (ids held) numbers → SameElements (names_numbered table numbers) (names_held table held)
names_same table held numbers same f =
    sum_map f (name_by table) numbers
    ∙ sym (same (λ (id : NameId). f (name_by table id)))
    ∙ sum_map (λ (id : NameId). f (name_by table id)) (λ (x : ℕ × ℕ). name_id x.0) held
    ∙ sym (sum_map f (λ (x : ℕ × ℕ). (kept_at table x.0).name) held)

-- ---- one number is added

-- A number that is not in the list is not held.
pub not_held : (held : List (ℕ × ℕ)) (numbers : List NameId) (id : NameId) → SameElements (ids held) numbers → ((k : ℕ) → slice_get numbers k ≢ Some id) → times_held held id.0 ≡ 0
not_held held numbers id same fresh =
    sym (sum_map (is_number id) (λ (x : ℕ × ℕ). name_id x.0) held) ∙ same (is_number id) ∙ none numbers fresh
  where
    is_number : NameId → NameId → ℕ
    is_number a b = cond (same_id a b) 1 0

    none : (xs : List NameId) → ((k : ℕ) → slice_get xs k ≢ Some id) → sum_by (is_number id) xs ≡ 0
    none [] h = refl
    none (x ∷ xs) h =
        let differ : same_id id x ≡ false = false_from_ne_true _ (λ e. h 0 (ap {B = Option NameId} (λ (y : NameId). Some y) (sym (same_number id x e)))) in
        omega (arith, sum_by-cons (is_number id) x xs, ap {B = ℕ} (λ (b : Bool). cond b 1 0) differ, none xs (λ k. h (suc k)))

pub held_more : (held more : List (ℕ × ℕ)) (numbers : List NameId) (id : NameId) (product : ℕ) → SameElements (ids held) numbers → SameElements ((id.0, product) ∷ held) more → SameElements (ids more) (numbers ++ id ∷ [])
held_more held more numbers id product same added f =
    sum_map f (λ (x : ℕ × ℕ). name_id x.0) more
    ∙ sym (added (λ (x : ℕ × ℕ). f (name_id x.0)))
    ∙ omega (arith, sum_by-cons (λ (x : ℕ × ℕ). f (name_id x.0)) (id.0, product) held, sum_map f (λ (x : ℕ × ℕ). name_id x.0) held, same f, pushed numbers)
  where
    pushed : (xs : List NameId) → sum_by f (xs ++ id ∷ []) ≡ sum_by f xs + f id
    pushed [] = omega (arith, sum_by-cons f id [])
    pushed (x ∷ xs) = omega (arith, sum_by-cons f x (xs ++ id ∷ []), sum_by-cons f x xs, pushed xs)

pub live_more : (table : Names) (numbers : List NameId) (id : NameId) → AreListedNames table numbers → IsLive table id.0 → AreListedNames table (numbers ++ id ∷ [])
live_more table numbers id live here k x at = elim (old_or_last numbers id x k at) [ inl old ↦ live k x old | inr last ↦ subst (λ (y : NameId). IsLive table y.0) last.1 here ]
