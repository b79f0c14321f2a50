-- Different names that are sorted by their formatted strings are the names sorted, each once.
use Rattle.std.proofs.Common.{◌≡◌, ℕ, suc, ◌<◌, ◌≤◌, Bool, true, false, cond, ◌||◌, List, [], ◌∷◌, length, get_or, refl, sym, ap, ◌∙◌, inl, inr, arith}
use Rattle.std.specs.Cmp.{both_ways as agree}
use Rattle.std.specs.Cmp.{IsStrictWeakOrder}
use Rattle.std.specs.List.{AllByRecursion, Contains, IsDistinct, filter, sum_by}
use Rattle.std.specs.List.Sorted.{IsPermutation, IsSortedBy}
use Rattle.std.specs.Ordering.{is_lt}
use Rattle.std.specs.declared.cmp.Ordering.TheVariants.{Less}
use Rattle.std.proofs.lemmas.Bool.{false_from_ne_true, or_cases, or_left, or_right}
use Rattle.std.proofs.lemmas.Cmp.{nat_list_cmp_total}
use Rattle.std.proofs.lemmas.List.Sorted.{ranks_by, sorted_far, sum_by-IsPermutation}
use Rattle.std.proofs.lemmas.List.Sums.{sum_by-cons}
use Rattle.std.proofs.lemmas.Map.Views.{Contains-from_any}
use Rattle.cpe_rows.specs.cpe_name.Eleven.{Values}
use Rattle.cpe_rows.specs.cpe_name.Equal.{same_name}
use Rattle.cpe_rows.specs.cpe_name.Names.{IsName}
use Rattle.cpe_fs.specs.Grammar.{fs_text, Fs}
use Rattle.cover_lines.specs.Cover.{fs_order, ordered}
use Rattle.cover_lines.specs.Laws.{AreWellFormed, is_among}
use Rattle.cover_lines.proofs.Among.{all_among, itself, same_is}
use Rattle.cover_lines.proofs.CoverLemmas.{apart, ordered_rises}
use Rattle.cover_lines.proofs.Order.{Rises, among_ordered, behind, same_rising}

abbrev pub before : Values → Values → Bool
before a b = is_lt (fs_order a b)

pub weak_order : IsStrictWeakOrder before
unfolding fs_order
weak_order = ranks_by nat_list_cmp_total fs_text

-- ---- how often a name is in a list

abbrev times : Values → List Values → ℕ
times n ns = sum_by (λ m. cond (same_name n m) 1 0) ns

among_times : (ns : List Values) (n : Values) → is_among ns n ≡ true → 1 ≤ times n ns
among_times [] n h = absurd cc
among_times (m ∷ ms) n h = elim (or_cases (same_name n m) (is_among ms n) h) [
  | inl here ↦ omega (arith, sum_by-cons (λ k. cond (same_name n k) 1 0) m ms, ap {B = ℕ} (λ (b : Bool). cond b 1 0) here)
  | inr later ↦ omega (arith, sum_by-cons (λ k. cond (same_name n k) 1 0) m ms, among_times ms n later)
]

times_among : (ns : List Values) (n : Values) → 1 ≤ times n ns → is_among ns n ≡ true
times_among [] n h = absurd (omega (arith, h))
times_among (m ∷ ms) n h = by (same_name n m) refl (times_among ms n)
  where
    by : (b : Bool) → same_name n m ≡ b → (1 ≤ times n ms → is_among ms n ≡ true) → (same_name n m || is_among ms n) ≡ true
    by true e rest = or_left (same_name n m) (is_among ms n) e
    by false e rest = or_right (same_name n m) (is_among ms n) (rest (omega (arith, h, sum_by-cons (λ k. cond (same_name n k) 1 0) m ms, ap {B = ℕ} (λ (b : Bool). cond b 1 0) e)))

none_of : (ns : List Values) (n : Values) → AllByRecursion (λ (m : Values). same_name n m ≡ false) ns → times n ns ≡ 0
none_of [] n all = refl
none_of (m ∷ ms) n all = omega (arith, sum_by-cons (λ k. cond (same_name n k) 1 0) m ms, ap {B = ℕ} (λ (b : Bool). cond b 1 0) all.0, none_of ms n all.1)

once : (ns : List Values) → IsDistinct same_name ns → (n : Values) → times n ns ≤ 1
unfolding IsDistinct
once [] d n = omega arith
once (m ∷ ms) d n = by (same_name n m) refl (once ms d.1 n)
  where
    by : (b : Bool) → same_name n m ≡ b → times n ms ≤ 1 → times n (m ∷ ms) ≤ 1
    by true e rest =
        let is : n ≡ m = same_is n m e in
        omega (arith, sum_by-cons (λ k. cond (same_name n k) 1 0) m ms, ap {B = ℕ} (λ (b : Bool). cond b 1 0) e, ap (λ (x : Values). times x ms) is, none_of ms m d.0)
    by false e rest = omega (arith, rest, sum_by-cons (λ k. cond (same_name n k) 1 0) m ms, ap {B = ℕ} (λ (b : Bool). cond b 1 0) e)

-- ---- a filter

filter_all : (P : Values → Type 0) (p : Values → Bool) (ns : List Values) → AllByRecursion P ns → AllByRecursion P (filter p ns)
filter_all P p [] all = tt
filter_all P p (n ∷ ns) all = by (p n) (filter_all P p ns all.1)
  where
    by : (b : Bool) → AllByRecursion P (filter p ns) → AllByRecursion P (cond b (n ∷ filter p ns) (filter p ns))
    by true rest = (all.0, rest)
    by false rest = rest

pub filter_names : (p : Values → Bool) (ns : List Values) → AreWellFormed ns → AreWellFormed (filter p ns)
filter_names p ns all = filter_all IsName p ns all

pub filter_distinct : (p : Values → Bool) (ns : List Values) → IsDistinct same_name ns → IsDistinct same_name (filter p ns)
unfolding IsDistinct
filter_distinct p [] d = tt
filter_distinct p (n ∷ ns) d = by (p n) (filter_distinct p ns d.1)
  where
    by : (b : Bool) → IsDistinct same_name (filter p ns) → IsDistinct same_name (cond b (n ∷ filter p ns) (filter p ns))
    by true rest = (filter_all (λ (m : Values). same_name n m ≡ false) p ns d.0, rest)
    by false rest = rest

-- ---- a sorted list rises

module _ (one : (a b : Values) (text : List ℕ) → Fs a text → Fs b text → a ≡ b) where
  rises_sorted : (xs : List Values) → ((i j : ℕ) (d : Values) → i ≤ j → j < length xs → before (get_or xs j d) (get_or xs i d) ≡ false)
      → ((n : Values) → times n xs ≤ 1) → ((n : Values) → is_among xs n ≡ true → IsName n) → Rises xs
  rises_sorted [] up few names = tt
  rises_sorted (x ∷ xs) up few names = (
    first,
    rises_sorted xs (λ i j d le lt. up (suc i) (suc j) d (omega (arith, le)) (omega (arith, lt))) (λ n. omega (arith, few n, sum_by-cons (λ k. cond (same_name n k) 1 0) x xs)) (λ n h. names n (or_right (same_name n x) (is_among xs n) h)),
  )
    where
      first : (m : Values) → is_among xs m ≡ true → fs_order x m ≡ Less
      first m h =
          let at : Contains xs m = Contains-from_any same_is m xs h in
          let not_before : before m x ≡ false = ap (λ (y : Values). before y x) (sym at.2) ∙ up 0 (suc at.0) m (omega arith) (omega (arith, at.1)) in
          let other : same_name m x ≡ false = false_from_ne_true _ (λ e.
          let twice : 2 ≤ times m (x ∷ xs) = omega (arith, sum_by-cons (λ k. cond (same_name m k) 1 0) x xs, ap {B = ℕ} (λ (b : Bool). cond b 1 0) e, among_times xs m h) in
          absurd (omega (arith, few m, twice))) in
          behind IsName (apart one) m x (names m (or_right (same_name m x) (is_among xs m) h)) (names x (or_left (same_name x x) (is_among xs x) (itself x))) other not_before

  pub sorted_is : (rows sorted : List Values) → AreWellFormed rows → IsDistinct same_name rows → IsPermutation rows sorted → IsSortedBy before sorted → sorted ≡ ordered rows
  sorted_is rows sorted names different moved up =
      same_rising sorted (ordered rows)
      (rises_sorted sorted (sorted_far before weak_order sorted up) (λ n. omega (arith, once rows different n, same_times n)) (λ n h. all_among IsName rows names n (sym (same_among n) ∙ h)))
      (ordered_rises one rows (all_among IsName rows names))
      (λ n. same_among n ∙ sym (among_ordered rows n))
    where
      same_times : (n : Values) → times n sorted ≡ times n rows
      same_times n = sum_by-IsPermutation (λ m. cond (same_name n m) 1 0) rows sorted moved

      same_among : (n : Values) → is_among sorted n ≡ is_among rows n
      same_among n =
          agree (is_among sorted n) (is_among rows n)
          (λ h. times_among rows n (omega (arith, among_times sorted n h, same_times n)))
          (λ h. times_among sorted n (omega (arith, among_times rows n h, same_times n)))
