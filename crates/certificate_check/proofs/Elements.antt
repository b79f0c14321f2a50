-- Lemmas: tests of a list's elements, their places, and lists of different names.
use Rattle.std.proofs.Common.{◌≡◌, ◌↔◌, ◌⊎◌, inl, inr, ℕ, zero, suc, ◌<◌, List, [], ◌∷◌, ◌++◌, Bool, true, false, ◌||◌, Some, None, map, fold, slice_get, if◌then◌else◌, refl, ap, sym, ◌∙◌, subst, arith}
use Rattle.std.specs.Borrow.{Bor}
use Rattle.std.specs.List.{list_any}
use Rattle.std.specs.Option.{unwrap_or}
use Rattle.indexmap.specs.IndexSet.{insert_key}
use Rattle.cpe_rows.specs.cpe_name.Eleven.{Values}
use Rattle.cpe_rows.specs.cpe_name.Equal.{same_name}
use Rattle.cpe_rows.specs.Names.{is_same}
use Rattle.cpe_rows.specs.Reach.{Among}
use Rattle.cpe_rows.proofs.NameTests.{same_is}
use Rattle.cpe_rows.proofs.Paths.{element_passes, some_element}
use Rattle.certificate_check.specs.Seen.{with_seen_name}

pub same_some : {A : Type 0} (x y : A) → Some x ≡ Some y → x ≡ y
same_some x y e = ap (λ o. unwrap_or o x) e

-- ---- tests

abbrev pub DecidesTruth : Bool → Type 0 → Type 0
DecidesTruth b P = (b ≡ true) ↔ P

pub some_truth_decides : {A : Type 0} (p : A → Bool) (P : A → Type 0) → ((x : A) → DecidesTruth (p x) (P x)) → (xs : List A)
    → DecidesTruth (list_any p xs) ((x : A) × Among xs x × P x)
some_truth_decides p P t xs = (
  λ h. let w = some_element p xs h in (w.0, w.1, (t w.0).0 w.2),
  λ w. element_passes p xs w.0 w.1 ((t w.0).1 w.2),
)

pub any_map : {A B : Type 0} (f : A → B) (p : B → Bool) (xs : List A) → list_any p (map f xs) ≡ list_any (λ x. p (f x)) xs
any_map f p [] = refl
any_map f p (x ∷ xs) = ap (λ b. p (f x) || b) (any_map f p xs)

pub map_last : {A B : Type 0} (f : A → B) (xs : List A) (y : A) → map f (xs ++ y ∷ []) ≡ map f xs ++ f y ∷ []
map_last f [] y = refl
map_last f (x ∷ xs) y = ap (λ ys. f x ∷ ys) (map_last f xs y)

pub listed_decides : (m : Values) (ns : List Values) → DecidesTruth (list_any (is_same m) ns) (Among ns m)
listed_decides m ns = (
  λ h. let w = some_element (is_same m) ns h in subst (Among ns) (sym ((same_is m w.0).0 w.2)) w.1,
  λ k. element_passes (is_same m) ns m k ((same_is m m).1 refl),
)

-- ---- places

pub placed : {A : Type 0} (xs : List A) (x : A) → Among xs x → (k : ℕ) × (slice_get xs k ≡ Some x)
placed [] x m = absurd m
placed (y ∷ xs) x (inl e) = (zero, ap Some e)
placed (y ∷ xs) x (inr m) = let rest = placed xs x m in (suc rest.0, rest.1)

pub present : {A : Type 0} (xs : List A) (k : ℕ) (x : A) → slice_get xs k ≡ Some x → Among xs x
present [] k x e = absurd (let w : ⊥ = cc in w)
present (y ∷ xs) zero x e = inl (same_some y x e)
present (y ∷ xs) (suc k) x e = inr (present xs k x e)

pub before_end : {A : Type 0} (xs : List A) (j k : ℕ) (x : A) → slice_get xs j ≡ Some x → slice_get xs k ≡ None → j < k
before_end [] j k x e f = absurd (let w : ⊥ = cc in w)
before_end (y ∷ xs) j zero x e f = absurd (let w : ⊥ = cc in w)
before_end (y ∷ xs) zero (suc k) x e f = omega arith
before_end (y ∷ xs) (suc j) (suc k) x e f = let rest = before_end xs j k x e f in omega arith

pub earlier_at : {A : Type 0} (xs : List A) (j k : ℕ) (x : A) → slice_get xs k ≡ Some x → j < k → (y : A) × (slice_get xs j ≡ Some y)
earlier_at [] j k x e below = absurd (let w : ⊥ = cc in w)
earlier_at (y ∷ xs) zero k x e below = (y, refl)
earlier_at (y ∷ xs) (suc j) zero x e below = absurd (omega arith)
earlier_at (y ∷ xs) (suc j) (suc k) x e below = earlier_at xs j k x e (omega arith)

-- ---- lists of different names

appended : {A : Type 0} (xs : List A) (y x : A) → Among (xs ++ y ∷ []) x → Among xs x ⊎ (y ≡ x)
appended [] y x (inl e) = inr e
appended [] y x (inr m) = absurd m
appended (z ∷ xs) y x (inl e) = inl (inl e)
appended (z ∷ xs) y x (inr m) = elim (appended xs y x m) [ inl k ↦ inl (inr k) | inr e ↦ inr e ]

still_among : {A : Type 0} (xs : List A) (y x : A) → Among xs x → Among (xs ++ y ∷ []) x
still_among [] y x m = absurd m
still_among (z ∷ xs) y x (inl e) = inl e
still_among (z ∷ xs) y x (inr m) = inr (still_among xs y x m)

last_among : {A : Type 0} (xs : List A) (y : A) → Among (xs ++ y ∷ []) y
last_among [] y = inl refl
last_among (z ∷ xs) y = inr (last_among xs y)

still_at : {A : Type 0} (xs : List A) (y : A) (k : ℕ) (x : A) → slice_get xs k ≡ Some x → slice_get (xs ++ y ∷ []) k ≡ Some x
still_at [] y k x e = absurd (let w : ⊥ = cc in w)
still_at (z ∷ xs) y zero x e = e
still_at (z ∷ xs) y (suc k) x e = still_at xs y k x e

module _ (ns : List Values) (n : Values) where
  -- a property of the list with the name: it is proved for both cases, the name already in the list or appended
  either : (P : List Values → Type 0) → (list_any (is_same n) ns ≡ true → P ns) → P (ns ++ n ∷ []) → P (with_seen_name ns n)
  either P there new = go (list_any (is_same n) ns) refl where
    go : (b : Bool) → list_any (is_same n) ns ≡ b → P (if b then ns else ns ++ n ∷ [])
    go true e = there e
    go false e = new

  pub name_keeps : (k : ℕ) (x : Values) → slice_get ns k ≡ Some x → slice_get (with_seen_name ns n) k ≡ Some x
  name_keeps k x e = either (λ ms. slice_get ms k ≡ Some x) (λ h. e) (still_at ns n k x e)

  pub name_stays : (m : Values) → Among ns m → Among (with_seen_name ns n) m
  name_stays m k = either (λ ms. Among ms m) (λ h. k) (still_among ns n m k)

  pub name_reached : Among (with_seen_name ns n) n
  name_reached = either (λ ms. Among ms n) (λ h. (listed_decides n ns).0 h) (last_among ns n)

  pub name_was : (m : Values) → Among (with_seen_name ns n) m → Among ns m ⊎ (n ≡ m)
  name_was m = either (λ ms. Among ms m → Among ns m ⊎ (n ≡ m)) (λ h k. inl k) (appended ns n m)

-- the names that are borrowed
abbrev pub seen : List (Bor Values) → List Values
seen ks = map (λ k. k.now) ks

pub seen_insert : (ks : List (Bor Values)) (k : Bor Values) → seen (insert_key (λ a b. same_name a.now b.now) ks k) ≡ with_seen_name (seen ks) k.now
unfolding is_same
seen_insert ks k =
    go (list_any (λ b. same_name k.now b.now) ks)
    ∙ ap (λ b. if b then seen ks else seen ks ++ k.now ∷ []) (sym (any_map (λ (r : Bor Values). r.now) (is_same k.now) ks)) where
      go : (b : Bool) → seen (if b then ks else ks ++ k ∷ []) ≡ (if b then seen ks else seen ks ++ k.now ∷ [])
      go true = refl
      go false = map_last (λ (r : Bor Values). r.now) ks k

pub names_keep : (ns xs : List Values) (k : ℕ) (x : Values) → slice_get ns k ≡ Some x → slice_get (fold with_seen_name ns xs) k ≡ Some x
names_keep ns [] k x e = e
names_keep ns (y ∷ xs) k x e = names_keep (with_seen_name ns y) xs k x (name_keeps ns y k x e)

pub names_stay : (ns xs : List Values) (m : Values) → Among ns m → Among (fold with_seen_name ns xs) m
names_stay ns [] m k = k
names_stay ns (y ∷ xs) m k = names_stay (with_seen_name ns y) xs m (name_stays ns y m k)

pub names_reached : (ns xs : List Values) (m : Values) → Among xs m → Among (fold with_seen_name ns xs) m
names_reached ns [] m k = absurd k
names_reached ns (y ∷ xs) m (inl e) = names_stay (with_seen_name ns y) xs m (subst (Among (with_seen_name ns y)) e (name_reached ns y))
names_reached ns (y ∷ xs) m (inr k) = names_reached (with_seen_name ns y) xs m k

pub names_were : (ns xs : List Values) (m : Values) → Among (fold with_seen_name ns xs) m → Among ns m ⊎ Among xs m
names_were ns [] m k = inl k
names_were ns (y ∷ xs) m k = elim (names_were (with_seen_name ns y) xs m k) [
  | inl h ↦ elim (name_was ns y m h) [ inl g ↦ inl g | inr e ↦ inr (inl e) ]
  | inr h ↦ inr (inr h)
]
