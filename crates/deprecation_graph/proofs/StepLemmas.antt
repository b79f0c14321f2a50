-- Lemmas: what a step of a filling reads, and what follows from it.
use Rattle.std.proofs.Common.{◌≡◌, ◌⊎◌, ℕ, ◌+◌, ◌-◌, ◌<◌, ◌≤◌, true, false, List, [], ◌∷◌, ◌++◌, length, get_or, refl, sym, ap, subst, ◌∙◌, arith, inl, inr, Option, Some, None, slice_get, slice_set, replicate, take, zero, suc}
use Rattle.std.proofs.lemmas.Bool.{cases_Bool, both_ways}
use Rattle.std.proofs.lemmas.List.{get_or_default}
use Rattle.std.proofs.lemmas.Option.{get_or_from_slice_get, slice_get-get_or, slice_get_read, slice_get_within}
use Rattle.deprecation_graph.specs.Paths.{HasEdge}
use Rattle.deprecation_graph.specs.Graph.{Node, next_of_node, node_of, successors, changed_nodes, IsLawfulGraph}
use Rattle.deprecation_graph.specs.Faults.{change_fault}
use Rattle.deprecation_graph.specs.declared.filling.Mark.{Mark}
use Rattle.deprecation_graph.specs.declared.filling.Mark.TheVariants.{New, Waiting, Done}
use Rattle.deprecation_graph.specs.Filled.{nodes_of_lists}
use Rattle.deprecation_graph.specs.Fit.{AreFit}
use Rattle.deprecation_graph.specs.Filling.{is_new, is_waiting, mark_of, IsLastWaiting, IsOnWay, NoneIsNewer}
use Rattle.deprecation_graph.proofs.BetweenLemmas.{all_are_done}
use Rattle.deprecation_graph.proofs.ListLemmas.{count_nodes, node_at, next_at, next_is_node}
use Rattle.deprecation_graph.proofs.FillingLemmas.{Moves, begun, mark_cases, entered, last_is_node, enters, advances, settles, is_allowed, waiting_is_cyclic}

pub mark_read : (marks : List Mark) (b : ℕ) (m : Mark) → b < length marks → m ≡ get_or marks b m → mark_of marks b ≡ m
mark_read marks b m lt e = get_or_default marks b New m lt ∙ sym e

module _ {lists : List (Option (List ℕ))} {now : List Node} {marks : List Mark} {seen waiting : List ℕ} (fit : AreFit lists)
    (way : IsOnWay (nodes_of_lists lists) now marks seen waiting) (a : ℕ) (last : IsLastWaiting waiting a) (list : Option (List ℕ))
    (read : list ≡ get_or lists a list) where
  pub list_here : slice_get lists a ≡ Some list
  list_here = slice_get_read lists (length lists) a list refl (omega (arith, last_is_node way a last, count_nodes lists)) read

  pub settles_here : {now' : List Node} {marks' : List Mark} {rest : List ℕ} → length (next_of_node (nodes_of_lists lists) a) ≤ get_or seen a 0
      → now' ≡ changed_nodes now a list → marks' ≡ slice_set marks a Done → waiting ≡ rest ++ a ∷ []
      → Moves (nodes_of_lists lists) marks seen waiting now' marks' seen rest
  settles_here all e f left = settles way a last list (node_at lists a list list_here) all e f left

  pub allowed_here : length (next_of_node (nodes_of_lists lists) a) ≤ get_or seen a 0 → IsLawfulGraph (nodes_of_lists lists) → change_fault now a list ≡ None
  allowed_here all ok = is_allowed way a last list (node_at lists a list list_here) all ok

  module _ (next : List ℕ) (these : next ≡ successors list) (s b : ℕ) (was : s ≡ get_or seen a s) (within : s < length next)
      (at : b ≡ get_or next s b) (m : Mark) (mark : m ≡ get_or marks b m) where
    found : slice_get (next_of_node (nodes_of_lists lists) a) s ≡ Some b
    found = subst (λ (ys : List ℕ). slice_get ys s ≡ Some b) (these ∙ sym (next_at lists a list list_here))
        (slice_get_read next (length next) s b refl within at)

    edge : HasEdge (next_of_node (nodes_of_lists lists)) a b
    edge = (s, slice_get_within (next_of_node (nodes_of_lists lists) a) s b found, get_or_from_slice_get (next_of_node (nodes_of_lists lists) a) s b b found)

    place : b < length (nodes_of_lists lists)
    place = next_is_node lists fit a list list_here b edge

    marked : mark_of marks b ≡ m
    marked = mark_read marks b m (omega (arith, place, way.marked)) mark

    pub looks_on : m ≡ Done → {seen' : List ℕ} → seen' ≡ slice_set seen a (s + 1)
        → Moves (nodes_of_lists lists) marks seen waiting now marks seen' waiting
    looks_on done e = advances way a last b s was found (marked ∙ done) e

    pub enters_here : m ≡ New → {marks' : List Mark} {waiting' : List ℕ} → marks' ≡ slice_set marks b Waiting → waiting' ≡ waiting ++ b ∷ []
        → Moves (nodes_of_lists lists) marks seen waiting now marks' seen waiting'
    enters_here new e f = enters way a last b place edge (marked ∙ new) e f

    pub refuses_here : m ≡ Waiting → IsLawfulGraph (nodes_of_lists lists) → ⊥
    refuses_here waits ok = waiting_is_cyclic way a b last edge (marked ∙ waits) ok

-- ---- from a new node to the next

pub still_newer : (old between marks : List Mark) → NoneIsNewer old between → NoneIsNewer between marks → NoneIsNewer old marks
still_newer old between marks h k a e = h a (k a e)

pub stays_entered : (old marks : List Mark) (a : ℕ) → NoneIsNewer old marks → is_new (mark_of old a) ≡ false → is_new (mark_of marks a) ≡ false
stays_entered old marks a newer e = elim (cases_Bool (is_new (mark_of marks a))) [
  | inl f ↦ absurd (both_ways (is_new (mark_of old a)) e (newer a f))
  | inr f ↦ f
]

pub none_is_last : (xs : List ℕ) → slice_get xs (length xs - 1) ≡ None → xs ≡ []
none_is_last [] e = refl
none_is_last (x ∷ xs) e = absurd (not_none (sym (slice_get-get_or (x ∷ xs) (length (x ∷ xs) - 1) 0 (omega arith)) ∙ e))
  where
    not_none : {n : ℕ} → Some n ≡ None → ⊥
    not_none f = cc

module _ {nodes now : List Node} {marks : List Mark} {seen waiting : List ℕ} (way : IsOnWay nodes now marks seen waiting) (idle : waiting ≡ []) where
  pub enters_first : (b : ℕ) {marks' : List Mark} {waiting' : List ℕ} → b < length nodes → mark_of marks b ≡ New
      → marks' ≡ slice_set marks b Waiting → waiting' ≡ waiting ++ b ∷ [] → IsOnWay nodes now marks' seen waiting'
  enters_first b {marks'} {waiting'} lt new e f =
      subst (λ (ms : List Mark). IsOnWay nodes now ms seen waiting') (sym e)
      (subst (IsOnWay nodes now (slice_set marks b Waiting) seen) (sym f)
      (entered way b lt new (λ i d within. absurd (omega (arith, ap length idle)))))

  -- if no node is new and none waits, all nodes have their successors
  pub finished : ((a : ℕ) → a < length nodes → is_new (mark_of marks a) ≡ false) → now ≡ nodes
  finished none = all_are_done way.between (λ a lt. mark_cases (mark_of marks a) (none a lt)
      (not_waiting a (cases_Bool (is_waiting (mark_of marks a)))))
    where
      not_waiting : (a : ℕ) → (is_waiting (mark_of marks a) ≡ true) ⊎ (is_waiting (mark_of marks a) ≡ false) → is_waiting (mark_of marks a) ≡ false
      not_waiting a (inl w) = absurd (omega (arith, (way.waits a w).1, ap length idle))
      not_waiting a (inr f) = f

-- a beginning of an empty list is empty
take_none : {A : Type 0} (n : ℕ) → ◌≡◌ {A = List A} (take n []) []
take_none zero = refl
take_none (suc n) = refl

pub filled_up : {A : Type 0} (n : ℕ) (old items : List A) (k : ℕ) (x : A) → old ≡ [] → k ≡ 0 → items ≡ take n old ++ replicate (n - k) x
    → items ≡ replicate n x
filled_up {A} n old items k x empty none e =
    let all : n - k ≡ n = omega arith in
    e ∙ ap (λ (xs : List A). take n xs ++ replicate (n - k) x) empty ∙ ap (λ (xs : List A). xs ++ replicate (n - k) x) (take_none n)
    ∙ ap (λ (m : ℕ). replicate m x) all

-- the first state of a filling: all nodes are new
pub begins : (lists : List (Option (List ℕ))) {now : List Node} {marks : List Mark} {seen waiting : List ℕ}
    → now ≡ replicate (length lists) (node_of None) → marks ≡ replicate (length lists) New → seen ≡ replicate (length lists) 0 → waiting ≡ []
    → IsOnWay (nodes_of_lists lists) now marks seen waiting
begins lists {now} {marks} {seen} {waiting} nodes new none idle =
    subst (λ (ns : List Node). IsOnWay (nodes_of_lists lists) ns marks seen waiting) (sym nodes)
    (subst (λ (ms : List Mark). IsOnWay (nodes_of_lists lists) (replicate (length lists) (node_of None)) ms seen waiting) (sym new)
    (subst (λ (ks : List ℕ). IsOnWay (nodes_of_lists lists) (replicate (length lists) (node_of None)) (replicate (length lists) New) ks waiting)
    (sym none)
    (subst (IsOnWay (nodes_of_lists lists) (replicate (length lists) (node_of None)) (replicate (length lists) New) (replicate (length lists) 0))
    (sym idle) (begun (nodes_of_lists lists) (length lists) (sym (count_nodes lists))))))
