-- Lemmas: one more number of a list is added to a board, or removed, as a target or as a probe.
use Rattle.std.proofs.Common.{◌≡◌, ◌≢◌, ℕ, suc, ◌+◌, ◌-◌, ◌≤◌, ◌<◌, Bool, true, false, cond, List, [], ◌∷◌, drop, length, get_or, refl, ap, subst, ◌∙◌, inl, inr, arith, eq-eqb}
use Rattle.std.specs.Prelude.{nat_eq}
use Rattle.std.specs.List.{AllByRecursion}
use Rattle.std.proofs.Math.Seq.{drop-cons}
use Rattle.std.proofs.lemmas.Bool.{cases_eq, ne_eqb}
use Rattle.std.proofs.lemmas.List.Sums.{sum_by-cons}
use Rattle.name_index.specs.declared.products.Side.{Side}
use Rattle.name_index.specs.declared.table.NameId.{NameId}
use Rattle.name_index.specs.Table.{Names, kept_at, IsLive}
use Rattle.level_board.specs.Board.{Board, TargetsTo, ProbesTo, probe_times, target_times}
use Rattle.level_board.proofs.Marks.{levels_then}
use Rattle.fact_laws.specs.Shown.{times_in_list}
use Rattle.fact_laws.proofs.Shown.{number_first, live_is}
use Rattle.fact_boards.specs.Lists.{IsWide, looks_at, fact_looks, Arriving, Leaving, Asking, Unasking}

add_one : (i : ℕ) → suc i ≡ i + 1
add_one i = omega arith

-- the rest of a list begins with the element at this place
pub first_there : {A : Type 0} (xs : List A) (i : ℕ) (d : A) → i < length xs → drop i xs ≡ get_or xs i d ∷ drop (i + 1) xs
first_there xs i d lt = drop-cons xs i d lt ∙ ap (λ (k : ℕ). get_or xs i d ∷ drop k xs) (add_one i)

-- the multiplicity of a number in a list that begins with it
pub itself : (x : NameId) (rest : List NameId) → times_in_list x.0 (x ∷ rest) ≡ 1 + times_in_list x.0 rest
itself x rest = omega (arith, number_first x.0 x rest, ap {B = ℕ} (λ (b : Bool). cond b 1 0) (eq-eqb x.0 x.0 refl))

another : (t : ℕ) (x : NameId) (rest : List NameId) → t ≢ x.0 → times_in_list t (x ∷ rest) ≡ times_in_list t rest
another t x rest ne = omega (arith, number_first t x rest, ap {B = ℕ} (λ (b : Bool). cond b 1 0) (ne_eqb t x.0 ne))

-- a list of one number, which is a target
pub one_there : (board : Board) (x : NameId) → 1 ≤ target_times board x.0 → (t : ℕ) → times_in_list t (x ∷ []) ≤ target_times board t
one_there board x some t = elim (cases_eq t x.0) [
  | inl at ↦ omega (arith, some, itself x [], ap (λ (k : ℕ). times_in_list k (x ∷ [])) at, ap (target_times board) at)
  | inr ne ↦ omega (arith, another t x [] ne)
]

one_at_most : (b : Bool) → cond b 1 0 ≤ 1
one_at_most true = omega arith
one_at_most false = omega arith

pub at_most_all : (t : ℕ) (xs : List NameId) → times_in_list t xs ≤ length xs
at_most_all t [] = omega arith
at_most_all t (x ∷ xs) = omega (arith, number_first t x xs, one_at_most (nat_eq t x.0), at_most_all t xs)

-- in a list of live numbers, the first number is live, and so are the others
pub first_live : (names : Names) (x : NameId) (rest xs : List NameId) → xs ≡ x ∷ rest → AllByRecursion (λ (y : NameId). IsLive names y.0) xs → IsLive names x.0 × AllByRecursion (λ (y : NameId). IsLive names y.0) rest
first_live names x rest xs e live = subst (AllByRecursion (λ (y : NameId). IsLive names y.0)) e live

-- the board has room for the product of a live number
pub wide_there : (board now : Board) (names : Names) (id : ℕ) → IsWide board names → now.wide ≡ board.wide → IsLive names id → (kept_at names id).product < now.wide
wide_there board now names id wide same live = omega (arith, wide id (kept_at names id) (live_is names id live), same)

pub looks_first : (names : Names) (side : Side) (others : List (ℕ × ℕ)) (x : NameId) (rest xs : List NameId) → xs ≡ x ∷ rest → fact_looks names side others xs ≡ looks_at names side others x + fact_looks names side others rest
looks_first names side others x rest xs e = ap (fact_looks names side others) e ∙ sum_by-cons (looks_at names side others) x rest

module _ (names : Names) (old now new : Board) (all : List NameId) (x : NameId) (rest xs : List NameId) (e : xs ≡ x ∷ rest) where
  first_times : (t : ℕ) → times_in_list t xs ≡ times_in_list t (x ∷ rest)
  first_times t = ap (times_in_list t) e

  longer : length xs ≡ 1 + length rest
  longer = omega (arith, ap length e)

  -- ---- one target more

  pub arriving_few : Arriving old now names all xs → ((t : ℕ) → target_times old t + length all ≤ 4294967295) → target_times now x.0 < 4294967295
  arriving_few a few = omega (arith, few x.0, a.times x.0, first_times x.0, itself x rest, at_most_all x.0 all)

  pub arriving_room : Arriving old now names all xs → length all ≤ old.target_room → 1 ≤ now.target_room
  arriving_room a room = omega (arith, a.room, room, longer)

  pub arriving_next : Arriving old now names all xs → TargetsTo now new names x.0 (target_times now x.0 + 1) → now.target_room ≤ new.target_room + 1 → Arriving old new names all rest
  arriving_next a t room = record {
    fits = t.fits;
    times = times;
    stay = record {
      times = λ p. t.probes p ∙ a.stay.times p;
      levels = levels_then old now new (λ p some more. omega (arith, some, a.stay.times p)) a.stay.levels t.levels;
      marked = t.marked;
      probe_ids = t.probe_ids ∙ a.stay.probe_ids;
      probe_room = t.probe_room ∙ a.stay.probe_room;
      wide = t.wide ∙ a.stay.wide;
    };
    room = omega (arith, a.room, room, longer);
  }
    where
      times : (s : ℕ) → target_times new s + times_in_list s rest ≡ target_times old s + times_in_list s all
      times s = elim (cases_eq s x.0) [
        | inl at ↦ omega (arith, a.times s, first_times s, ap (λ (k : ℕ). times_in_list k (x ∷ rest)) at, itself x rest, ap (λ (k : ℕ). times_in_list k rest) at, ap (target_times new) at, ap (target_times now) at, t.times_now)
        | inr ne ↦ omega (arith, a.times s, first_times s, another s x rest ne, t.others s ne)
      ]

  -- ---- one target less

  pub leaving_some : Leaving old now names all xs → ((t : ℕ) → times_in_list t all ≤ target_times old t) → 1 ≤ target_times now x.0
  leaving_some a there = omega (arith, a.times x.0, there x.0, first_times x.0, itself x rest)

  pub leaving_next : Leaving old now names all xs → ((t : ℕ) → times_in_list t all ≤ target_times old t) → TargetsTo now new names x.0 (target_times now x.0 - 1) → now.target_room ≤ new.target_room → Leaving old new names all rest
  leaving_next a there t room = record {
    fits = t.fits;
    times = times;
    stay = record {
      times = λ p. t.probes p ∙ a.stay.times p;
      levels = levels_then old now new (λ p some more. omega (arith, some, a.stay.times p)) a.stay.levels t.levels;
      marked = t.marked;
      probe_ids = t.probe_ids ∙ a.stay.probe_ids;
      probe_room = t.probe_room ∙ a.stay.probe_room;
      wide = t.wide ∙ a.stay.wide;
    };
    room = omega (arith, a.room, room);
  }
    where
      times : (s : ℕ) → target_times new s + times_in_list s all ≡ target_times old s + times_in_list s rest
      times s = elim (cases_eq s x.0) [
        | inl at ↦ omega (arith, a.times s, first_times s, ap (λ (k : ℕ). times_in_list k (x ∷ rest)) at, itself x rest, ap (λ (k : ℕ). times_in_list k rest) at, ap (target_times new) at, ap (target_times now) at, t.times_now, leaving_some a there)
        | inr ne ↦ omega (arith, a.times s, first_times s, another s x rest ne, t.others s ne)
      ]

  -- ---- one probe more

  pub asking_few : Asking old now names all xs → ((p : ℕ) → probe_times old p + length all ≤ 4294967295) → probe_times now x.0 < 4294967295
  asking_few a few = omega (arith, few x.0, a.times x.0, first_times x.0, itself x rest, at_most_all x.0 all)

  pub asking_room : Asking old now names all xs → length all ≤ old.probe_room → 1 ≤ now.probe_room
  asking_room a room = omega (arith, a.room, room, longer)

  pub asking_next : Asking old now names all xs → ProbesTo now new names x.0 (probe_times now x.0 + 1) → now.probe_room ≤ new.probe_room + 1 → Asking old new names all rest
  asking_next a t room = record {
    fits = t.fits;
    still = still;
    times = times;
    stay = record {
      marks = t.marks ∙ a.stay.marks;
      targets = t.targets ∙ a.stay.targets;
      target_index = t.target_index ∙ a.stay.target_index;
      target_room = t.target_room ∙ a.stay.target_room;
      wide = t.wide ∙ a.stay.wide;
    };
    levels = levels_then old now new (λ p some more. a.still p some) a.levels t.levels;
    room = omega (arith, a.room, room, longer);
  }
    where
      times : (s : ℕ) → probe_times new s + times_in_list s rest ≡ probe_times old s + times_in_list s all
      times s = elim (cases_eq s x.0) [
        | inl at ↦ omega (arith, a.times s, first_times s, ap (λ (k : ℕ). times_in_list k (x ∷ rest)) at, itself x rest, ap (λ (k : ℕ). times_in_list k rest) at, ap (probe_times new) at, ap (probe_times now) at, t.times_now)
        | inr ne ↦ omega (arith, a.times s, first_times s, another s x rest ne, t.others s ne)
      ]

      still : (p : ℕ) → 0 < probe_times old p → 0 < probe_times new p
      still p some = elim (cases_eq p x.0) [
        | inl at ↦ omega (arith, ap (probe_times new) at, t.times_now)
        | inr ne ↦ omega (arith, a.still p some, t.others p ne)
      ]

  -- ---- one probe less

  pub unasking_some : Unasking old now names all xs → ((p : ℕ) → times_in_list p all ≤ probe_times old p) → 1 ≤ probe_times now x.0
  unasking_some a asked = omega (arith, a.times x.0, asked x.0, first_times x.0, itself x rest)

  pub unasking_next : Unasking old now names all xs → ((p : ℕ) → times_in_list p all ≤ probe_times old p) → ProbesTo now new names x.0 (probe_times now x.0 - 1) → now.probe_room ≤ new.probe_room → Unasking old new names all rest
  unasking_next a asked t room = record {
    fits = t.fits;
    times = times;
    stay = record {
      marks = t.marks ∙ a.stay.marks;
      targets = t.targets ∙ a.stay.targets;
      target_index = t.target_index ∙ a.stay.target_index;
      target_room = t.target_room ∙ a.stay.target_room;
      wide = t.wide ∙ a.stay.wide;
    };
    levels = levels_then old now new still a.levels t.levels;
    room = omega (arith, a.room, room);
  }
    where
      some_now : 1 ≤ probe_times now x.0
      some_now = unasking_some a asked

      times : (s : ℕ) → probe_times new s + times_in_list s all ≡ probe_times old s + times_in_list s rest
      times s = elim (cases_eq s x.0) [
        | inl at ↦ omega (arith, a.times s, first_times s, ap (λ (k : ℕ). times_in_list k (x ∷ rest)) at, itself x rest, ap (λ (k : ℕ). times_in_list k rest) at, ap (probe_times new) at, ap (probe_times now) at, t.times_now, some_now)
        | inr ne ↦ omega (arith, a.times s, first_times s, another s x rest ne, t.others s ne)
      ]

      still : (p : ℕ) → 0 < probe_times old p → 0 < probe_times new p → 0 < probe_times now p
      still p some more = elim (cases_eq p x.0) [
        | inl at ↦ omega (arith, some_now, ap (probe_times now) at)
        | inr ne ↦ omega (arith, more, t.others p ne)
      ]
