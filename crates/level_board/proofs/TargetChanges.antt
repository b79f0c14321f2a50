-- Lemmas: a target is added or removed.
use Rattle.std.proofs.Common.{◌≡◌, ◌≢◌, ◌⊎◌, ℕ, suc, ◌+◌, ◌-◌, ◌<◌, ◌≤◌, Bool, true, false, not, cond, List, [], ◌∷◌, ◌++◌, length, get_or, Option, Some, None, count_by, refl, sym, ap, subst, ◌∙◌, inl, inr, arith, eqb-true}
use Rattle.std.specs.Prelude.{IsSome, nat_eq, vec_capacity}
use Rattle.std.specs.List.{sum_by, position, position_from, Contains, AllByRecursion, swap_remove}
use Rattle.std.proofs.lemmas.Bool.{cases_eq, ne_eqb}
use Rattle.std.proofs.lemmas.Option.{none-some}
use Rattle.std.proofs.lemmas.List.{get_or-map}
use Rattle.std.proofs.lemmas.List.Quantifiers.{position-Some}
use Rattle.std.proofs.lemmas.List.Sums.{sum_by-cons, sum_by-append, sum_by-swap_remove}
use Rattle.std.proofs.lemmas.List.Elements.{recursion_from_All, All-contains}
use Rattle.std.proofs.lemmas.Iterator.Adapters.{position_from-zero}
use Rattle.name_index.specs.Elements.{SameElements}
use Rattle.name_index.proofs.Sums.{one_at_most}
use Rattle.name_index.specs.Table.{Names, Kept, find_kept, kept_at, kept_or, IsLive}
use Rattle.name_index.specs.Index.{FitsTable, times_held}
use Rattle.name_index.proofs.Postings.{sum_map}
use Rattle.name_index.proofs.Fitting.{added_fits, dropped_fits}
use Rattle.level_board.specs.declared.target_parts.Loose.{Loose}
use Rattle.level_board.specs.declared.target_parts.TargetParts.{TargetParts}
use Rattle.level_board.specs.Targets.{Targets, held, is_open, is_loose, open_count, AreNone, FitsTargets, SameTargets}
use Rattle.level_board.specs.TargetParts.{ArePartsOf, pair_of_loose, pairs_of}

-- ---- an element is added to one of two lists

module _ {X : Type 0} (x : X) (a b c : List X) where
  pub put_first : SameElements (x ∷ a) b → SameElements (x ∷ (a ++ c)) (b ++ c)
  put_first same f = omega (arith, sum_by-cons f x (a ++ c), sum_by-append f a c, sum_by-append f b c, sum_by-cons f x a, same f)

  pub put_second : SameElements (x ∷ a) b → SameElements (x ∷ (c ++ a)) (c ++ b)
  put_second same f = omega (arith, sum_by-cons f x (c ++ a), sum_by-append f c a, sum_by-append f c b, sum_by-cons f x a, same f)

  pub take_first : SameElements a (x ∷ b) → SameElements (a ++ c) (x ∷ (b ++ c))
  take_first same f = omega (arith, sum_by-cons f x (b ++ c), sum_by-append f a c, sum_by-append f b c, sum_by-cons f x b, same f)

  pub take_second : SameElements a (x ∷ b) → SameElements (c ++ a) (x ∷ (c ++ b))
  take_second same f = omega (arith, sum_by-cons f x (c ++ b), sum_by-append f c a, sum_by-append f c b, sum_by-cons f x b, same f)

-- ---- counts after an element is added or removed

module _ (q : ℕ × ℕ → Bool) (x : ℕ × ℕ) (a b : List (ℕ × ℕ)) where
  one : ℕ × ℕ → ℕ
  one y = cond (q y) 1 0

  pub count_more : SameElements (x ∷ a) b → sum_by (λ y. cond (q y) 1 0) b ≡ cond (q x) 1 0 + sum_by (λ y. cond (q y) 1 0) a
  count_more same = omega (arith, same (λ y. cond (q y) 1 0), sum_by-cons (λ y. cond (q y) 1 0) x a)

  pub count_less : SameElements a (x ∷ b) → sum_by (λ y. cond (q y) 1 0) a ≡ cond (q x) 1 0 + sum_by (λ y. cond (q y) 1 0) b
  count_less same = omega (arith, same (λ y. cond (q y) 1 0), sum_by-cons (λ y. cond (q y) 1 0) x b)

-- If a number that isn't held is added, no number is held twice.
pub once_more : (x : ℕ × ℕ) (a b : List (ℕ × ℕ)) → SameElements (x ∷ a) b → times_held a x.0 ≡ 0 → ((id : ℕ) → times_held a id ≤ 1) → (id : ℕ) → times_held b id ≤ 1
once_more x a b same fresh once id = by (cases_eq id x.0)
  where
    more : times_held b id ≡ cond (nat_eq id x.0) 1 0 + times_held a id
    more = count_more (λ y. nat_eq id y.0) x a b same

    by : (id ≡ x.0) ⊎ (id ≢ x.0) → times_held b id ≤ 1
    by (inl e) = omega (arith, more, one_at_most (nat_eq id x.0), ap (times_held a) e, fresh)
    by (inr ne) = omega (arith, more, once id, ap {B = ℕ} (λ (b : Bool). cond b 1 0) (ne_eqb id x.0 ne))

pub once_less : (x : ℕ × ℕ) (a b : List (ℕ × ℕ)) → SameElements a (x ∷ b) → ((id : ℕ) → times_held a id ≤ 1) → (id : ℕ) → times_held b id ≤ 1
once_less x a b same once id = omega (arith, once id, count_less (λ y. nat_eq id y.0) x a b same)

pub held_apart : (a b : List (ℕ × ℕ)) (id : ℕ) → times_held (a ++ b) id ≡ times_held a id + times_held b id
held_apart a b id = sum_by-append (λ (y : ℕ × ℕ). cond (nat_eq id y.0) 1 0) a b

-- ---- a number is in the list to which its product belongs

module _ (names : Names) (id : ℕ) where
  small : (a b : Bool) → (a ≡ true → b ≡ true) → cond a 1 0 ≤ cond b 1 0
  small true true h = omega arith
  small true false h = absurd (true_false (h refl))
    where
      true_false : false ≡ true → ⊥
      true_false e = absurd cc
  small false b h = omega arith

  not_true : (b : Bool) → b ≡ false → not b ≡ true
  not_true true e = absurd cc
  not_true false e = refl

  pub not_loose : (xs : List (ℕ × ℕ)) → is_loose names id ≡ false → count_by (λ (x : ℕ × ℕ). not (is_loose names x.0)) xs ≡ 0 → times_held xs id ≡ 0
  not_loose [] e all = refl
  not_loose (x ∷ xs) e all =
      omega (arith, sum_by-cons (λ (y : ℕ × ℕ). cond (nat_eq id y.0) 1 0) x xs, split, all, not_loose xs e (omega (arith, all, split)), small (nat_eq id x.0) (not (is_loose names x.0)) (λ s. not_true (is_loose names x.0) (ap (is_loose names) (sym (eqb-true id x.0 s)) ∙ e)))
    where
      split : count_by (λ (y : ℕ × ℕ). not (is_loose names y.0)) (x ∷ xs) ≡ cond (not (is_loose names x.0)) 1 0 + count_by (λ (y : ℕ × ℕ). not (is_loose names y.0)) xs
      split = sum_by-cons (λ (y : ℕ × ℕ). cond (not (is_loose names y.0)) 1 0) x xs

  pub not_plain : (xs : List (ℕ × ℕ)) → is_loose names id ≡ true → count_by (λ (x : ℕ × ℕ). is_loose names x.0) xs ≡ 0 → times_held xs id ≡ 0
  not_plain [] e all = refl
  not_plain (x ∷ xs) e all =
      omega (arith, sum_by-cons (λ (y : ℕ × ℕ). cond (nat_eq id y.0) 1 0) x xs, split, all, not_plain xs e (omega (arith, all, split)), small (nat_eq id x.0) (is_loose names x.0) (λ s. ap (is_loose names) (sym (eqb-true id x.0 s)) ∙ e))
    where
      split : count_by (λ (y : ℕ × ℕ). is_loose names y.0) (x ∷ xs) ≡ cond (is_loose names x.0) 1 0 + count_by (λ (y : ℕ × ℕ). is_loose names y.0) xs
      split = sum_by-cons (λ (y : ℕ × ℕ). cond (is_loose names y.0) 1 0) x xs

  -- A number is held with the product number that the table has for it.
  abbrev pub FitsAt : ℕ × ℕ → Type 0
  FitsAt x = (k : Kept) × (find_kept names x.0 ≡ Some k) × (k.product ≡ x.1)

  same_pair : (x : ℕ × ℕ) → FitsAt x → id ≡ x.0 → x ≡ (id, (kept_at names id).product)
  same_pair x h e = subst (λ (k : ℕ). x ≡ (k, (kept_at names k).product)) (sym e) (ap (λ (n : ℕ). (x.0, n)) (sym h.2 ∙ ap (λ (o : Option Kept). (kept_or o).product) (sym h.1)))

  find : (xs : List (ℕ × ℕ)) → AllByRecursion FitsAt xs → 1 ≤ times_held xs id → Contains xs (id, (kept_at names id).product)
  find [] h some = absurd (omega (arith, some))
  find (x ∷ xs) h some = by (cases_eq id x.0) (find xs h.1)
    where
      later : id ≢ x.0 → 1 ≤ times_held xs id
      later ne = omega (arith, some, sum_by-cons (λ (y : ℕ × ℕ). cond (nat_eq id y.0) 1 0) x xs, ap {B = ℕ} (λ (b : Bool). cond b 1 0) (ne_eqb id x.0 ne))

      by : (id ≡ x.0) ⊎ (id ≢ x.0) → (1 ≤ times_held xs id → Contains xs (id, (kept_at names id).product)) → Contains (x ∷ xs) (id, (kept_at names id).product)
      by (inl e) k = (0, omega arith, same_pair x h.0 e)
      by (inr ne) k = let m = k (later ne) in (suc m.0, omega (arith, m.1), m.2)

  pub held_there : (xs : List (ℕ × ℕ)) → FitsTable xs names → 1 ≤ times_held xs id → Contains xs (id, (kept_at names id).product)
  held_there xs fits some = find xs (recursion_from_All FitsAt xs fits) some

  -- If a number is held with a product number, this is the product number of its name.
  pub its_product : (xs : List (ℕ × ℕ)) (product : ℕ) → FitsTable xs names → Contains xs (id, product) → ◌≡◌ {A = ℕ × ℕ} (id, product) (id, (kept_at names id).product)
  its_product xs product fits has = same_pair (id, product) (All-contains FitsAt xs (id, product) fits has) refl

-- ---- the targets fit the table

module _ (names : Names) (id : ℕ) (t u : Targets) (f : FitsTargets t names) where
  abbrev x : ℕ × ℕ
  x = (id, (kept_at names id).product)

  opens_more : SameElements (x ∷ held t) (held u) → u.opens ≡ t.opens + cond (is_open names id) 1 0 → u.opens ≡ open_count names (held u)
  opens_more same opens = omega (arith, opens, f.opens, count_more (λ y. is_open names y.0) x (held t) (held u) same)

  opens_less : SameElements (held t) (x ∷ held u) → u.opens ≡ t.opens - cond (is_open names id) 1 0 → u.opens ≡ open_count names (held u)
  opens_less same opens = omega (arith, opens, f.opens, count_less (λ y. is_open names y.0) x (held t) (held u) same)

  pub plain_added : IsLive names id → is_loose names id ≡ false → u.loose ≡ t.loose → SameElements (x ∷ t.plain) u.plain → u.opens ≡ t.opens + cond (is_open names id) 1 0 → SameElements (x ∷ held t) (held u) × FitsTargets u names
  plain_added live plain same_loose same opens = (
    all,
    record {
      plain = added_fits names id t.plain u.plain live same f.plain;
      loose = subst (λ (xs : List (ℕ × ℕ)). FitsTable xs names) (sym same_loose) f.loose;
      none_loose = omega (arith, count_more (λ y. is_loose names y.0) x t.plain u.plain same, f.none_loose, ap {B = ℕ} (λ (b : Bool). cond b 1 0) plain);
      all_loose = subst (λ (xs : List (ℕ × ℕ)). count_by (λ (y : ℕ × ℕ). not (is_loose names y.0)) xs ≡ 0) (sym same_loose) f.all_loose;
      opens = opens_more all opens;
    },
  )
    where
      all : SameElements (x ∷ held t) (held u)
      all = subst (λ (xs : List (ℕ × ℕ)). SameElements (x ∷ held t) (u.plain ++ xs)) (sym same_loose) (put_first x t.plain u.plain t.loose same)

  pub loose_added : IsLive names id → is_loose names id ≡ true → u.plain ≡ t.plain → SameElements (x ∷ t.loose) u.loose → u.opens ≡ t.opens + cond (is_open names id) 1 0 → SameElements (x ∷ held t) (held u) × FitsTargets u names
  loose_added live loose same_plain same opens = (
    all,
    record {
      plain = subst (λ (xs : List (ℕ × ℕ)). FitsTable xs names) (sym same_plain) f.plain;
      loose = added_fits names id t.loose u.loose live same f.loose;
      none_loose = subst (λ (xs : List (ℕ × ℕ)). count_by (λ (y : ℕ × ℕ). is_loose names y.0) xs ≡ 0) (sym same_plain) f.none_loose;
      all_loose = omega (arith, count_more (λ y. not (is_loose names y.0)) x t.loose u.loose same, f.all_loose, ap {B = ℕ} (λ (b : Bool). cond (not b) 1 0) loose);
      opens = opens_more all opens;
    },
  )
    where
      all : SameElements (x ∷ held t) (held u)
      all = subst (λ (xs : List (ℕ × ℕ)). SameElements (x ∷ held t) (xs ++ u.loose)) (sym same_plain) (put_second x t.loose u.loose t.plain same)

  pub plain_dropped : u.loose ≡ t.loose → SameElements t.plain (x ∷ u.plain) → u.opens ≡ t.opens - cond (is_open names id) 1 0 → SameElements (held t) (x ∷ held u) × FitsTargets u names
  plain_dropped same_loose same opens = (
    all,
    record {
      plain = dropped_fits names id (kept_at names id).product t.plain u.plain same f.plain;
      loose = subst (λ (xs : List (ℕ × ℕ)). FitsTable xs names) (sym same_loose) f.loose;
      none_loose = omega (arith, count_less (λ y. is_loose names y.0) x t.plain u.plain same, f.none_loose);
      all_loose = subst (λ (xs : List (ℕ × ℕ)). count_by (λ (y : ℕ × ℕ). not (is_loose names y.0)) xs ≡ 0) (sym same_loose) f.all_loose;
      opens = opens_less all opens;
    },
  )
    where
      all : SameElements (held t) (x ∷ held u)
      all = subst (λ (xs : List (ℕ × ℕ)). SameElements (held t) (x ∷ (u.plain ++ xs))) (sym same_loose) (take_first x t.plain u.plain t.loose same)

  pub loose_dropped : u.plain ≡ t.plain → SameElements t.loose (x ∷ u.loose) → u.opens ≡ t.opens - cond (is_open names id) 1 0 → SameElements (held t) (x ∷ held u) × FitsTargets u names
  loose_dropped same_plain same opens = (
    all,
    record {
      plain = subst (λ (xs : List (ℕ × ℕ)). FitsTable xs names) (sym same_plain) f.plain;
      loose = dropped_fits names id (kept_at names id).product t.loose u.loose same f.loose;
      none_loose = subst (λ (xs : List (ℕ × ℕ)). count_by (λ (y : ℕ × ℕ). is_loose names y.0) xs ≡ 0) (sym same_plain) f.none_loose;
      all_loose = omega (arith, count_less (λ y. not (is_loose names y.0)) x t.loose u.loose same, f.all_loose);
      opens = opens_less all opens;
    },
  )
    where
      all : SameElements (held t) (x ∷ held u)
      all = subst (λ (xs : List (ℕ × ℕ)). SameElements (held t) (x ∷ (xs ++ u.loose))) (sym same_plain) (take_second x t.loose u.loose t.plain same)

-- ---- each number of a list is live

pub loose_live : (names : Names) (xs : List Loose) → FitsTable (pairs_of xs) names → AllByRecursion (λ (l : Loose). IsLive names l.id) xs
loose_live names xs fits = go xs (recursion_from_All (FitsAt names 0) (pairs_of xs) fits)
  where
    go : (ys : List Loose) → AllByRecursion (FitsAt names 0) (pairs_of ys) → AllByRecursion (λ (l : Loose). IsLive names l.id) ys
    go [] h = tt
    go (y ∷ ys) h = (subst IsSome (sym h.0.1) refl, go ys h.1)

-- ---- a number is appended

pub pushed : (id product known : ℕ) (xs new : List Loose) → product ≡ known → new ≡ xs ++ record { id = id; product = product } ∷ [] → SameElements ((id, known) ∷ pairs_of xs) (pairs_of new)
pushed id product known xs new is grown f =
    omega (arith, sum_by-cons f (id, known) (pairs_of xs), sum_map f pair_of_loose xs, sum_map f pair_of_loose new, ap {B = ℕ} (λ (ys : List Loose). sum_by (λ (l : Loose). f (pair_of_loose l)) ys) grown, sum_by-append (λ (l : Loose). f (pair_of_loose l)) xs (y ∷ []), sum_by-cons (λ (l : Loose). f (pair_of_loose l)) y [], ap {B = ℕ} (λ (p : ℕ). f (id, p)) is)
  where
    y : Loose
    y = record { id = id; product = product }

-- ---- the parts keep their room

pub same_parts : (a b : TargetParts) → ArePartsOf a → b.plain.held ≡ a.plain.held → b.loose.items ≡ a.loose.items → b.room ≤ b.plain.spare → length b.loose.items + b.room ≤ vec_capacity b.loose → ArePartsOf b
same_parts a b p plain loose plain_room loose_room = record {
  once = λ id. omega (arith, p.once id, ap {B = ℕ} (λ (xs : List (ℕ × ℕ)). times_held (xs ++ pairs_of b.loose.items) id) plain, ap {B = ℕ} (λ (ls : List Loose). times_held (a.plain.held ++ pairs_of ls) id) loose);
  plain_room = plain_room;
  loose_room = loose_room;
}

-- ---- the number at a place is removed

none_from : (id n : ℕ) (xs : List Loose) → position_from (λ l. nat_eq id l.id) n xs ≡ None → times_held (pairs_of xs) id ≡ 0
none_from id n [] e = refl
none_from id n (x ∷ xs) e = by (nat_eq id x.id) refl (none_from id (n + 1) xs)
  where
    by : (b : Bool) → nat_eq id x.id ≡ b → (position_from (λ l. nat_eq id l.id) (n + 1) xs ≡ None → times_held (pairs_of xs) id ≡ 0) → times_held (pairs_of (x ∷ xs)) id ≡ 0
    by true t k = absurd (none-some n (sym e ∙ ap (λ (b : Bool). cond b (Some n) (position_from (λ l. nat_eq id l.id) (n + 1) xs)) t))
    by false t k =
        omega (arith, sum_by-cons (λ (y : ℕ × ℕ). cond (nat_eq id y.0) 1 0) (pair_of_loose x) (pairs_of xs), ap {B = ℕ} (λ (b : Bool). cond b 1 0) t, k (sym (ap (λ (b : Bool). cond b (Some n) (position_from (λ l. nat_eq id l.id) (n + 1) xs)) t) ∙ e))

pub nowhere : (id : ℕ) (xs : List Loose) → position (λ l. nat_eq id l.id) xs ≡ None → times_held (pairs_of xs) id ≡ 0
nowhere id xs e = none_from id 0 xs (sym (position_from-zero (λ l. nat_eq id l.id) xs) ∙ e)

pub taken_out : (id k : ℕ) (xs new : List Loose) (y : Loose) → position (λ l. nat_eq id l.id) xs ≡ Some k → y ≡ get_or xs k y → new ≡ swap_remove xs k y
    → (product : ℕ) × Contains (pairs_of xs) (id, product) × SameElements (pairs_of xs) ((id, product) ∷ pairs_of new)
taken_out id k xs new y at value cut = (y.product, (k, inside, here), λ f. same f)
  where
    found : (k < length xs) × (nat_eq id (get_or xs k y).id ≡ true) × ((j : ℕ) → j < k → nat_eq id (get_or xs j y).id ≡ false)
    found = position-Some (λ l. nat_eq id l.id) xs k y at

    is : pair_of_loose (get_or xs k y) ≡ (id, y.product)
    is = ap pair_of_loose (sym value) ∙ ap (λ (n : ℕ). (n, y.product)) (sym (eqb-true id (get_or xs k y).id found.1 ∙ ap (λ (l : Loose). l.id) (sym value)))

    inside : k < length (pairs_of xs)
    inside = omega (arith, found.0, many xs)
      where
        many : (ys : List Loose) → length (pairs_of ys) ≡ length ys
        many [] = refl
        many (z ∷ ys) = omega (arith, many ys)

    here : get_or (pairs_of xs) k (id, y.product) ≡ (id, y.product)
    here = get_or-map pair_of_loose xs k y (id, y.product) found.0 ∙ is

    same : (f : ℕ × ℕ → ℕ) → sum_by f (pairs_of xs) ≡ sum_by f ((id, y.product) ∷ pairs_of new)
    same f = omega (arith, sum_map f pair_of_loose xs, sum_map f pair_of_loose new, sum_by-cons f (id, y.product) (pairs_of new), sum_by-swap_remove (λ (l : Loose). f (pair_of_loose l)) xs k y found.0, ap {B = ℕ} (λ (ys : List Loose). sum_by (λ (l : Loose). f (pair_of_loose l)) ys) cut, ap {B = ℕ} f is)

-- ---- the targets are unchanged, or there are none

pub same_held : (t u : Targets) → SameTargets t u → held u ≡ held t
same_held t u s = ap (λ (xs : List (ℕ × ℕ)). xs ++ u.loose) s.plain ∙ ap (λ (xs : List (ℕ × ℕ)). t.plain ++ xs) s.loose

pub same_targets : (t u : Targets) → SameTargets t u → (names : Names) → FitsTargets t names → FitsTargets u names
same_targets t u s names f = record {
  plain = subst (λ (xs : List (ℕ × ℕ)). FitsTable xs names) (sym s.plain) f.plain;
  loose = subst (λ (xs : List (ℕ × ℕ)). FitsTable xs names) (sym s.loose) f.loose;
  none_loose = ap (count_by (λ (x : ℕ × ℕ). is_loose names x.0)) s.plain ∙ f.none_loose;
  all_loose = ap (count_by (λ (x : ℕ × ℕ). not (is_loose names x.0))) s.loose ∙ f.all_loose;
  opens = s.opens ∙ f.opens ∙ sym (ap (open_count names) (same_held t u s));
}

pub none_fit : (t : Targets) → AreNone t → (names : Names) → FitsTargets t names
none_fit t e names = record {
  plain = subst (λ (xs : List (ℕ × ℕ)). FitsTable xs names) (sym e.plain) nothing;
  loose = subst (λ (xs : List (ℕ × ℕ)). FitsTable xs names) (sym e.loose) nothing;
  none_loose = ap (count_by (λ (x : ℕ × ℕ). is_loose names x.0)) e.plain;
  all_loose = ap (count_by (λ (x : ℕ × ℕ). not (is_loose names x.0))) e.loose;
  opens = e.opens ∙ sym (ap (open_count names) (ap (λ (xs : List (ℕ × ℕ)). xs ++ t.loose) e.plain ∙ e.loose));
}
  where
    nothing : FitsTable [] names
    nothing = λ i d lt. absurd (omega (arith, lt))
