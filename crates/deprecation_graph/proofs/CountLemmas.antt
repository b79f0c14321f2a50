-- Lemmas: edges that are stored in both directions are equally many in each direction.
use Rattle.std.proofs.Common.{◌≡◌, ℕ, zero, suc, ◌+◌, ◌<◌, ◌≤◌, eqb, Bool, cond, List, [], ◌∷◌, length, refl, sym, ap, ◌∙◌, inl, inr, arith, eq-eqb}
use Rattle.std.specs.List.{Contains}
use Rattle.std.proofs.lemmas.Bool.{cases_eq, ne_eqb}
use Rattle.std.proofs.lemmas.List.Sums.{sum_by-cons}
use Rattle.deprecation_graph.specs.Indexed.{list_of_node, size_of}
use Rattle.deprecation_graph.specs.Mirror.{node_times, IsMirror}
use Rattle.deprecation_graph.specs.Groups.{group_total}
use Rattle.deprecation_graph.proofs.Rising.{Contains-rest}

pub total-alike : (f g : ℕ → ℕ) (n : ℕ) → ((i : ℕ) → i < n → f i ≡ g i) → group_total f n ≡ group_total g n
total-alike f g zero e = refl
total-alike f g (suc n) e = omega (arith, total-alike f g n (λ i lt. e i (omega arith)), e n (omega arith))

pub total-add : (f g : ℕ → ℕ) (n : ℕ) → group_total (λ i. f i + g i) n ≡ group_total f n + group_total g n
total-add f g zero = refl
total-add f g (suc n) = omega (arith, total-add f g n)

pub total-none : (n : ℕ) → group_total (λ i. 0) n ≡ 0
total-none zero = refl
total-none (suc n) = omega (arith, total-none n)

pub total-first : (f : ℕ → ℕ) (n : ℕ) → group_total f (suc n) ≡ f 0 + group_total (λ i. f (suc i)) n
total-first f zero = omega arith
total-first f (suc n) = omega (arith, total-first f n)

total-swap : (f : ℕ → ℕ → ℕ) (m n : ℕ) → group_total (λ a. group_total (f a) n) m ≡ group_total (λ b. group_total (λ a. f a b) m) n
total-swap f zero n = sym (total-none n)
total-swap f (suc m) n = omega (arith, total-swap f m n, total-add (λ b. group_total (λ a. f a b) m) (f m) n)

-- the sum of a function that is 1 more at x; the sum is 1 more only if x is below n
total-past : (f : ℕ → ℕ) (x n : ℕ) → n ≤ x → group_total (λ v. cond (eqb x v) (f v + 1) (f v)) n ≡ group_total f n
total-past f x zero le = refl
total-past f x (suc n) le = omega (arith, total-past f x n (omega arith), ap (λ (b : Bool). cond b (f n + 1) (f n)) (ne_eqb x n (λ e. omega arith)))

total-more : (f : ℕ → ℕ) (x n : ℕ) → x < n → group_total (λ v. cond (eqb x v) (f v + 1) (f v)) n ≡ group_total f n + 1
total-more f x zero lt = absurd (omega arith)
total-more f x (suc n) lt = elim (cases_eq x n) [
  | inl same ↦ omega (arith, total-past f x n (omega arith), ap (λ (b : Bool). cond b (f n + 1) (f n)) (eq-eqb x n same))
  | inr other ↦ omega (arith, total-more f x n (omega arith), ap (λ (b : Bool). cond b (f n + 1) (f n)) (ne_eqb x n other))
]

pub length_total : (xs : List ℕ) (n : ℕ) → ((x : ℕ) → Contains xs x → x < n) → length xs ≡ group_total (λ v. node_times v xs) n
length_total [] n below = sym (total-none n)
length_total (x ∷ xs) n below = omega (arith, length_total xs n (λ y c. below y (Contains-rest y x xs c)), total-more (λ v. node_times v xs) x n (below x (0, omega arith, refl)))

size_total : (lists : List (List ℕ)) → size_of lists ≡ group_total (λ i. length (list_of_node lists i)) (length lists) + length lists
size_total [] = refl
size_total (xs ∷ lists) = omega (arith, sum_by-cons (λ (ys : List ℕ). length ys + 1) xs lists, total-first (λ i. length (list_of_node (xs ∷ lists) i)) (length lists), size_total lists)

pub mirror_size : (next before : List (List ℕ)) → IsMirror next before → length before ≡ length next → ((a b : ℕ) → a < length next → Contains (list_of_node next a) b → b < length next) → ((b a : ℕ) → b < length next → Contains (list_of_node before b) a → a < length next) → size_of before ≡ size_of next
mirror_size next before mirror count forth back =
    let n = length next in
    let forwards : group_total (λ a. length (list_of_node next a)) n ≡ group_total (λ a. group_total (λ b. node_times b (list_of_node next a)) n) n = total-alike (λ a. length (list_of_node next a)) (λ a. group_total (λ b. node_times b (list_of_node next a)) n) n (λ a lt. length_total (list_of_node next a) n (λ b c. forth a b lt c)) in
    let swapped = total-swap (λ a b. node_times b (list_of_node next a)) n n in
    let mirrored : group_total (λ b. group_total (λ a. node_times b (list_of_node next a)) n) n ≡ group_total (λ b. group_total (λ a. node_times a (list_of_node before b)) n) n = total-alike (λ b. group_total (λ a. node_times b (list_of_node next a)) n) (λ b. group_total (λ a. node_times a (list_of_node before b)) n) n (λ b lt. total-alike (λ a. node_times b (list_of_node next a)) (λ a. node_times a (list_of_node before b)) n (λ a le. sym (mirror a b))) in
    let backwards : group_total (λ b. length (list_of_node before b)) n ≡ group_total (λ b. group_total (λ a. node_times a (list_of_node before b)) n) n = total-alike (λ b. length (list_of_node before b)) (λ b. group_total (λ a. node_times a (list_of_node before b)) n) n (λ b lt. length_total (list_of_node before b) n (λ a c. back b a lt c)) in
    let both : group_total (λ b. length (list_of_node before b)) n ≡ group_total (λ a. length (list_of_node next a)) n = backwards ∙ sym mirrored ∙ sym swapped ∙ sym forwards in
    size_total before ∙ ap (λ (m : ℕ). group_total (λ b. length (list_of_node before b)) m + m) count ∙ ap (λ (t : ℕ). t + n) both ∙ sym (size_total next)
