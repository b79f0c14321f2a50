-- Multiplicities of a part of the names on a board.
use Rattle.std.proofs.Common.{◌≡◌, ◌≤◌, ◌+◌, ℕ, Bool, true, false, not, cond, List, [], ◌∷◌, ◌++◌, filter, refl, arith}
use Rattle.std.specs.List.{flat_map, sum_by}
use Rattle.std.proofs.lemmas.List.Sums.{sum_by-append, sum_by-cons}
use Rattle.cpe_rows.specs.cpe_name.Eleven.{Values}
use Rattle.name_index.specs.Elements.{SameElements}
use Rattle.name_index.specs.declared.table.NameId.{NameId}
use Rattle.name_index.specs.Table.{IsNameTable, Names}
use Rattle.fact_laws.specs.Shown.{names_at, Shows, times_in_list}
use Rattle.fact_laws.proofs.Shown.{shows_order, shows_part}
use Rattle.fact_laws.proofs.Names.{sum_flat}
use Rattle.fact_boards.specs.Kept.{AreFactNames}

-- the names that pass and those that don't are all names
parts : (h : Values → ℕ) (p : Values → Bool) (xs : List Values) → sum_by h xs ≡ sum_by h (filter p xs) + sum_by h (filter (λ x. not (p x)) xs)
parts h p [] = refl
parts h p (x ∷ xs) = by (p x) (parts h p xs)
  where
    by : (b : Bool) → sum_by h xs ≡ sum_by h (filter p xs) + sum_by h (filter (λ y. not (p y)) xs)
        → sum_by h (x ∷ xs) ≡ sum_by h (cond b (x ∷ filter p xs) (filter p xs)) + sum_by h (cond (not b) (x ∷ filter (λ y. not (p y)) xs) (filter (λ y. not (p y)) xs))
    by true later = omega (arith, later, sum_by-cons h x xs, sum_by-cons h x (filter p xs))
    by false later = omega (arith, later, sum_by-cons h x xs, sum_by-cons h x (filter (λ y. not (p y)) xs))

pub led_part : (g : Values → List Values) (p : Values → Bool) (xs led : List Values) → SameElements led (flat_map g (filter p xs)) → SameElements (flat_map g xs) (led ++ flat_map g (filter (λ x. not (p x)) xs))
led_part g p xs led same f =
    omega (
      arith,
      sum_flat f g xs,
      parts (λ x. sum_by f (g x)) p xs,
      sum_flat f g (filter p xs),
      sum_flat f g (filter (λ x. not (p x)) xs),
      same f,
      sum_by-append f led (flat_map g (filter (λ x. not (p x)) xs)),
    )

-- the numbers of a part of the names have at most the multiplicities of all
pub part_there : (names : Names) → IsNameTable names → (times : ℕ → ℕ) (g : Values → List Values) (p : Values → Bool) (xs : List Values) (numbers : List NameId) → AreFactNames names numbers
    → Shows names times (flat_map g xs) → SameElements (names_at names numbers) (flat_map g (filter p xs)) → (t : ℕ) → times_in_list t numbers ≤ times t
part_there names are times g p xs numbers live shows same t =
    shows_part names times numbers (flat_map g (filter (λ x. not (p x)) xs)) t are live
    (shows_order names times (flat_map g xs) (names_at names numbers ++ flat_map g (filter (λ x. not (p x)) xs)) (led_part g p xs (names_at names numbers) same) shows)
