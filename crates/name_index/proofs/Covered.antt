-- Lemmas: the covered names among the near names, sorted.
use Rattle.std.proofs.Common.{◌≡◌, ℕ, zero, suc, ◌+◌, ◌<◌, ◌≤◌, Bool, true, false, cond, eqb, List, [], ◌∷◌, ◌++◌, map, length, get_or, Option, Some, None, is_some, count_by, refl, sym, ap, subst, ◌∙◌, inl, inr, arith, eq-eqb, add-one, append_assoc}
use Rattle.std.specs.Prelude.{nat_eq, IsSome}
use Rattle.std.specs.List.{list_all, sum_by, filter, AllByRecursion, slice_index_or}
use Rattle.std.specs.List.Sorted.{IsPermutation, IsNonDecreasingBy, IsStrictlyIncreasing}
use Rattle.std.proofs.lemmas.Bool.{cases_Bool, both_ways, and_parts, false≢true}
use Rattle.std.proofs.lemmas.List.{append-nil}
use Rattle.std.proofs.lemmas.List.Sums.{sum_by-cons, sum_by-le-sum_by, length-filter}
use Rattle.std.proofs.lemmas.List.Sorted.{sum_by-IsPermutation}
use Rattle.std.proofs.lemmas.List.Elements.{recursion_from_All, All-weaker}
use Rattle.cpe_values.specs.declared.value.Value.{Value}
use Rattle.cpe_name.specs.Eleven.{Values}
use Rattle.cpe_name.specs.declared.attribute.Attribute.{Attribute}
use Rattle.cpe_name.specs.declared.attribute.Attribute.TheVariants.{Vendor, Product, Version, Update, Edition, Language, SwEdition, TargetSw, TargetHw, Other}
use Rattle.cpe_name.specs.Names.{value_of}
use Rattle.cpe_relation.specs.Table.{relation}
use Rattle.cpe_relation.specs.NameRelation.{is_above, covers}
use Rattle.cpe_relation.proofs.NearLaws.{above_near}
use Rattle.name_index.specs.declared.products.Side.TheVariants as side
use Rattle.name_index.specs.Elements.{SameElements}
use Rattle.name_index.specs.Near.{covers_product}
use Rattle.name_index.proofs.Sums.{if_passes, sum_filter, sum_passing}
use Rattle.name_index.specs.declared.table.NameId.{NameId}
use Rattle.name_index.specs.Table.{Names, Kept, find_kept, kept_at, IsLive}
use Rattle.name_index.specs.Index.{ids, name_id, FitsTable, is_near, is_product_covered, times_held}
use Rattle.name_index.proofs.Postings.{sum_map}
use Rattle.name_index.proofs.NearSums.{none_all}

-- ---- each number of a walk is live

abbrev dead : Names → NameId → ℕ
dead names id = cond (is_some (find_kept names id.0)) 0 1

live_by : (names : Names) (id : NameId) → dead names id ≡ 0 → IsLive names id.0
live_by names id h = by (find_kept names id.0) refl
  where
    by : (o : Option Kept) → find_kept names id.0 ≡ o → IsLive names id.0
    by None e = absurd (omega (arith, h, ap {B = ℕ} (λ (u : Option Kept). cond (is_some u) 0 1) e))
    by (Some k) e = subst IsSome (sym e) refl

zero_terms : {X : Type 0} (f : X → ℕ) (xs : List X) → sum_by f xs ≡ 0 → AllByRecursion (λ x. f x ≡ 0) xs
zero_terms f [] h = tt
zero_terms f (x ∷ xs) h = (omega (arith, h, sum_by-cons f x xs), zero_terms f xs (omega (arith, h, sum_by-cons f x xs)))

weaker : {X : Type 0} (P Q : X → Type 0) (xs : List X) → ((x : X) → P x → Q x) → AllByRecursion P xs → AllByRecursion Q xs
weaker P Q [] f h = tt
weaker P Q (x ∷ xs) f h = (f x h.0, weaker P Q xs f h.1)

less_filtered : {X : Type 0} (f : X → ℕ) (q : X → Bool) (xs : List X) → sum_by f xs ≡ 0 → sum_by f (filter q xs) ≡ 0
less_filtered f q xs h = sum_filter f q xs ∙ none_all (if_passes q f) xs (weaker (λ x. f x ≡ 0) (λ x. if_passes q f x ≡ 0) xs (λ x e. none (q x) (f x) e) (zero_terms f xs h))
  where
    none : (b : Bool) (n : ℕ) → n ≡ 0 → cond b n 0 ≡ 0
    none true n e = e
    none false n e = refl

pub walk_live : (names : Names) (held : List (ℕ × ℕ)) (q : NameId → Bool) (walk : List NameId) → FitsTable held names → SameElements (filter q (ids held)) walk → AllByRecursion (λ (id : NameId). IsLive names id.0) walk
walk_live names held q walk fits same =
    weaker (λ (id : NameId). dead names id ≡ 0) (λ (id : NameId). IsLive names id.0) walk (live_by names) (zero_terms (dead names) walk (sym (same (dead names)) ∙ less_filtered (dead names) q (ids held) (all_live held fits)))
  where
    all_live : (held : List (ℕ × ℕ)) → FitsTable held names → sum_by (dead names) (ids held) ≡ 0
    all_live held fits = sum_map (dead names) (λ (x : ℕ × ℕ). name_id x.0) held ∙ none_all (λ (x : ℕ × ℕ). dead names (name_id x.0)) held (recursion_from_All (λ (x : ℕ × ℕ). dead names (name_id x.0) ≡ 0) held
        (All-weaker (λ (x : ℕ × ℕ). (k : Kept) × (find_kept names x.0 ≡ Some k) × (k.product ≡ x.1)) (λ (x : ℕ × ℕ). dead names (name_id x.0) ≡ 0) (λ x h. ap {B = ℕ} (λ (u : Option Kept). cond (is_some u) 0 1) h.1) held fits))

pub tail_live : (names : Names) (id : NameId) (rest walk : List NameId) → walk ≡ id ∷ rest → AllByRecursion (λ (x : NameId). IsLive names x.0) walk → IsLive names id.0 × AllByRecursion (λ (x : NameId). IsLive names x.0) rest
tail_live names id rest walk e h = let k = subst (λ (xs : List NameId). AllByRecursion (λ (x : NameId). IsLive names x.0) xs) e h in (k.0, k.1)

-- ---- the found names grow by the names that are looked at

pub found_more : (q : NameId → Bool) (found all rest xs : List NameId) (x : NameId) (b : Bool) → xs ≡ x ∷ rest → q x ≡ b → found ++ filter q xs ≡ all → cond b (found ++ x ∷ []) found ++ filter q rest ≡ all
found_more q found all rest xs x b e t h =
    let k : found ++ filter q (x ∷ rest) ≡ all = subst (λ (zs : List NameId). found ++ filter q zs ≡ all) e h in
    go b (subst (λ (c : Bool). found ++ cond c (x ∷ filter q rest) (filter q rest) ≡ all) t k)
  where
    go : (c : Bool) → found ++ cond c (x ∷ filter q rest) (filter q rest) ≡ all → cond c (found ++ x ∷ []) found ++ filter q rest ≡ all
    go true k = append_assoc found (x ∷ []) (filter q rest) ∙ k
    go false k = k

-- If nothing is left of a walk, the found names are all names that pass.
pub found_all : (q : NameId → Bool) (found left all : List NameId) → left ≡ [] → found ++ filter q left ≡ filter q all → found ≡ filter q all
found_all q found left all ends h = sym (append-nil found) ∙ ap (λ (xs : List NameId). found ++ filter q xs) (sym ends) ∙ h

-- ---- the number of near names, and the covered names among them

pub walk_length : {X : Type 0} (q : X → Bool) (held walk : List X) → SameElements (filter q held) walk → length walk ≡ count_by q held
walk_length q held walk same = sym (count_all walk) ∙ sym (same (λ x. 1)) ∙ count_all (filter q held) ∙ length-filter q held
  where
    count_all : {Y : Type 0} (xs : List Y) → sum_by (λ (y : Y). 1) xs ≡ length xs
    count_all [] = refl
    count_all {Y} (x ∷ xs) = omega (arith, sum_by-cons (λ (y : Y). 1) x xs, count_all xs)

pub covered_same : (p q : NameId → Bool) (held walk found : List NameId) → ((x : NameId) → q x ≡ true → p x ≡ true) → SameElements (filter p held) walk → IsPermutation (filter q walk) found → SameElements (filter q held) found
covered_same p q held walk found imp same sorted f =
    sum_filter f q held ∙ agree (λ x. both x (q x) refl) held ∙ sym (sum_filter (if_passes q f) p held) ∙ same (if_passes q f) ∙ sym (sum_filter f q walk) ∙ sym (sum_by-IsPermutation f (filter q walk) found sorted)
  where
    agree : ((x : NameId) → if_passes q f x ≡ if_passes p (if_passes q f) x) → (xs : List NameId) → sum_by (if_passes q f) xs ≡ sum_by (if_passes p (if_passes q f)) xs
    agree h [] = refl
    agree h (x ∷ xs) = omega (arith, sum_by-cons (if_passes q f) x xs, sum_by-cons (if_passes p (if_passes q f)) x xs, h x, agree h xs)

    zero_either : (c : Bool) → ◌≡◌ {A = ℕ} 0 (cond c 0 0)
    zero_either true = refl
    zero_either false = refl

    both : (x : NameId) (b : Bool) → q x ≡ b → cond (q x) (f x) 0 ≡ cond (p x) (cond (q x) (f x) 0) 0
    both x true e = sym (ap {B = ℕ} (λ (c : Bool). cond c (cond (q x) (f x) 0) 0) (imp x e))
    both x false e = ap {B = ℕ} (λ (c : Bool). cond c (f x) 0) e ∙ zero_either (p x) ∙ sym (ap {B = ℕ} (λ (c : Bool). cond (p x) (cond c (f x) 0) 0) e)

-- ---- products that are covered

above_in : Values → Values → List Attribute → Bool
above_in a b ws = list_all is_above (map (λ w. relation (value_of a w) (value_of b w)) ws)

-- A name covers another only if its product covers the other's product.
pub product_covered : (a b : Values) → covers a b ≡ true → covers_product a.product b.product ≡ true
unfolding covers above_in
product_covered a b h =
    let from_version = Version ∷ Update ∷ Edition ∷ Language ∷ SwEdition ∷ TargetSw ∷ TargetHw ∷ Other ∷ [] in
    let p = and_parts (is_above (relation a.part b.part)) (above_in a b (Vendor ∷ Product ∷ from_version)) h in
    let q = and_parts (is_above (relation a.vendor b.vendor)) (above_in a b (Product ∷ from_version)) p.1 in
    (and_parts (is_above (relation a.product b.product)) (above_in a b from_version) q.1).0

-- There are no more covered products than near products: a product is near each product that it covers.
pub fewer_covered : (names : Names) (asked : Value) (xs : List NameId) → count_by (is_product_covered names asked) xs ≤ count_by (is_near names side.Source asked) xs
fewer_covered names asked xs =
    sum_by-le-sum_by (λ id. cond (is_product_covered names asked id) 1 0) (λ id. cond (is_near names side.Source asked id) 1 0) xs
    (λ id. by (is_product_covered names asked id) (is_near names side.Source asked id) 1 (above_near asked (kept_at names id.0).name.product))
  where
    by : (a b : Bool) (n : ℕ) → (a ≡ true → b ≡ true) → cond a n 0 ≤ cond b n 0
    by true true n h = omega arith
    by true false n h = absurd (false≢true (h refl))
    by false b n h = omega arith

-- ---- the numbers rise, since each is in the list once

abbrev pub Rising : List NameId → Type 0
Rising xs = IsStrictlyIncreasing (map (λ (id : NameId). id.0) xs)

abbrev is_number : ℕ → NameId → ℕ
is_number n id = cond (nat_eq n id.0) 1 0

pub rises : (xs : List NameId) → IsNonDecreasingBy (λ (id : NameId). id.0) xs → ((n : ℕ) → sum_by (is_number n) xs ≤ 1) → Rising xs
rises xs up once k lt = strict xs k (λ d i j le l. up i j d le l) once lt
  where
    here : (n : ℕ) → ◌≡◌ {A = ℕ} (cond (nat_eq n n) 1 0) 1
    here n = ap {B = ℕ} (λ (b : Bool). cond b 1 0) (eq-eqb n n refl)

    strict : (xs : List NameId) (k : ℕ) → ((d : NameId) (i j : ℕ) → i ≤ j → j < length xs → (slice_index_or xs i d).0 ≤ (slice_index_or xs j d).0) → ((n : ℕ) → sum_by (is_number n) xs ≤ 1) → k + 1 < length (map (λ (id : NameId). id.0) xs) → get_or (map (λ (id : NameId). id.0) xs) k 0 < get_or (map (λ (id : NameId). id.0) xs) (k + 1) 0
    strict [] k up once lt = absurd (omega (arith, lt))
    strict (x ∷ []) k up once lt = absurd (omega (arith, lt))
    strict (x ∷ (y ∷ ys)) zero up once lt =
        let le : x.0 ≤ y.0 = up x 0 1 (omega arith) (omega arith) in
        elim (cases_Bool (eqb x.0 y.0)) [
          | inl same ↦ absurd (omega (arith, once x.0, sum_by-cons (is_number x.0) x (y ∷ ys), sum_by-cons (is_number x.0) y ys, here x.0, ap {B = ℕ} (λ (b : Bool). cond b 1 0) same))
          | inr differ ↦ less x.0 y.0 le differ
        ]
      where
        less : (a b : ℕ) → a ≤ b → eqb a b ≡ false → a < b
        less a b le differ = omega (arith, le, apart a b differ)
          where
            apart : (a b : ℕ) → eqb a b ≡ false → a ≡ b → ⊥
            apart a b h e = both_ways _ h (eq-eqb a b e)
    strict (x ∷ (y ∷ ys)) (suc k) up once lt =
        rw add-one (let z = strict (y ∷ ys) k (λ d i j le l. up d (suc i) (suc j) (omega (arith, le)) (omega (arith, l))) (λ n. omega (arith, once n, sum_by-cons (is_number n) x (y ∷ ys))) (omega (arith, lt)) in rw add-one at z)

pub once_filtered : (held : List (ℕ × ℕ)) (q : NameId → Bool) (n : ℕ) → ((id : ℕ) → times_held held id ≤ 1) → sum_by (is_number n) (filter q (ids held)) ≤ 1
once_filtered held q n once = omega (arith, once n, sum_map (is_number n) (λ (x : ℕ × ℕ). name_id x.0) held, sum_passing (is_number n) q (ids held))
