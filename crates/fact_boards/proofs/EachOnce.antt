-- Lemmas: a sorted list of numbers, each number kept once.
use Rattle.std.proofs.Common.{◌≡◌, ◌≢◌, ℕ, zero, suc, ◌+◌, ◌≤◌, ◌<◌, Bool, true, false, cond, List, [], ◌∷◌, refl, sym, ap, ◌∙◌, inl, inr, arith}
use Rattle.std.specs.Prelude.{nat_eq, ⊤}
use Rattle.std.specs.List.{AllByRecursion, dedup, dedup_from}
use Rattle.std.specs.List.Sorted.{IsNonDecreasingBy}
use Rattle.std.proofs.lemmas.Bool.{cases_eq, lt-ltb}
use Rattle.std.proofs.lemmas.List.Elements.{recursion_from_All}
use Rattle.name_index.specs.declared.table.NameId.{NameId}
use Rattle.fact_laws.specs.Shown.{one_if_some, times_in_list}
use Rattle.fact_laws.proofs.Shown.{number_first, other_number}

abbrev Rises : List NameId → Type 0
Rises [] = ⊤
Rises (x ∷ xs) = AllByRecursion (λ (y : NameId). x.0 ≤ y.0) xs × Rises xs

pub rises : (xs : List NameId) → IsNonDecreasingBy (λ (x : NameId). x.0) xs → Rises xs
rises [] h = tt
rises (x ∷ xs) h = (
  recursion_from_All (λ (y : NameId). x.0 ≤ y.0) xs (λ i d lt. h 0 (suc i) d (omega arith) (omega (arith, lt))),
  rises xs (λ i j d le lt. h (suc i) (suc j) d (omega (arith, le)) (omega (arith, lt))),
)

none_below : (id : ℕ) (x : NameId) (xs : List NameId) → AllByRecursion (λ (y : NameId). x.0 ≤ y.0) xs → id < x.0 → times_in_list id xs ≡ 0
none_below id x [] h lt = refl
none_below id x (y ∷ xs) h lt = omega (arith, number_first id y xs, ap {B = ℕ} (λ (b : Bool). cond b 1 0) (other_number id y.0 (λ e. omega (arith, e, h.0, lt))), none_below id x xs h.1 lt)

one_at_most : (b : Bool) → cond b 1 0 ≤ 1
one_at_most true = omega arith
one_at_most false = omega arith

some_is : (n : ℕ) → 1 ≤ n → one_if_some n ≡ 1
some_is n h = ap {B = ℕ} (λ (b : Bool). cond b 1 0) (lt-ltb 0 n (omega (arith, h)))

small : (n : ℕ) → n ≤ 1 → n ≡ one_if_some n
small zero h = refl
small (suc n) h = omega (arith, h, some_is (suc n) (omega arith))

alike : (a b : ℕ) → (1 ≤ a → 1 ≤ b) → (a ≡ 0 → b ≡ 0) → one_if_some a ≡ one_if_some b
alike zero b more none = sym (ap one_if_some (none refl))
alike (suc a) b more none = some_is (suc a) (omega arith) ∙ sym (some_is b (more (omega arith)))

module _ (same : NameId → NameId → Bool) (yes : (x y : NameId) → same x y ≡ true → x.0 ≡ y.0) (no : (x y : NameId) → same x y ≡ false → x.0 ≢ y.0) where
  once_from : (k : NameId) (xs : List NameId) → Rises (k ∷ xs) → (id : ℕ) → times_in_list id (dedup_from same k xs) ≡ one_if_some (times_in_list id (k ∷ xs))
  once_from k [] r id = small (times_in_list id (k ∷ [])) (omega (arith, number_first id k [], one_at_most (nat_eq id k.0)))
  once_from k (x ∷ xs) r id = by (same x k) refl (once_from k xs (r.0.1, r.1.1) id) (once_from x xs r.1 id)
    where
      here : ℕ
      here = cond (nat_eq id k.0) 1 0

      all : times_in_list id (k ∷ x ∷ xs) ≡ here + times_in_list id (x ∷ xs)
      all = number_first id k (x ∷ xs)

      by : (b : Bool) → same x k ≡ b → times_in_list id (dedup_from same k xs) ≡ one_if_some (times_in_list id (k ∷ xs)) → times_in_list id (dedup_from same x xs) ≡ one_if_some (times_in_list id (x ∷ xs))
          → times_in_list id (cond b (dedup_from same k xs) (k ∷ dedup_from same x xs)) ≡ one_if_some (times_in_list id (k ∷ x ∷ xs))
      by true e kept next =
          let is : x.0 ≡ k.0 = yes x k e in
          let first : times_in_list id (x ∷ xs) ≡ here + times_in_list id xs = omega (arith, number_first id x xs, ap {B = ℕ} (λ (n : ℕ). cond (nat_eq id n) 1 0) is) in
          kept ∙ alike (times_in_list id (k ∷ xs)) (times_in_list id (k ∷ x ∷ xs)) (λ more. omega (arith, more, number_first id k xs, all, first)) (λ none. omega (arith, none, number_first id k xs, all, first))
      by false e kept next = elim (cases_eq id k.0) [
        | inl at ↦
            let below : id < x.0 = omega (arith, at, r.0.0, apart) in
            let none : times_in_list id (x ∷ xs) ≡ 0 = omega (arith, number_first id x xs, ap {B = ℕ} (λ (b : Bool). cond b 1 0) (other_number id x.0 (λ is. omega (arith, below, is))), none_below id x xs r.1.0 below) in
            let one : times_in_list id (k ∷ x ∷ xs) ≡ here = omega (arith, all, none) in
            number_first id k (dedup_from same x xs) ∙ omega (arith, next, ap one_if_some none, ap one_if_some one, small here (one_at_most (nat_eq id k.0)))
        | inr ne ↦
            let not_here : here ≡ 0 = ap {B = ℕ} (λ (b : Bool). cond b 1 0) (other_number id k.0 ne) in
            let rest : times_in_list id (k ∷ x ∷ xs) ≡ times_in_list id (x ∷ xs) = omega (arith, all, not_here) in
            omega (arith, number_first id k (dedup_from same x xs), not_here, next, ap one_if_some rest)
      ]
        where
          apart : x.0 ≢ k.0
          apart = no x k e

  pub once_each : (xs : List NameId) → Rises xs → (id : ℕ) → times_in_list id (dedup same xs) ≡ one_if_some (times_in_list id xs)
  once_each [] r id = refl
  once_each (x ∷ xs) r id = once_from x xs r id
