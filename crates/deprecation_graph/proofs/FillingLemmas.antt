-- Lemmas: each step of a filling keeps its state sound and lowers the remaining work.
use Rattle.std.proofs.Common.{◌≡◌, ◌≢◌, ◌⊎◌, ℕ, zero, suc, ◌+◌, ◌-◌, ◌<◌, ◌≤◌, true, false, List, [], ◌∷◌, ◌++◌, length, get_or, set, replicate, refl, sym, ap, subst, ◌∙◌, inl, inr, arith, Option, Some, None, slice_get, slice_set}
use Rattle.std.specs.List.{Contains}
use Rattle.std.proofs.lemmas.Bool.{cases_eq, cases_lt, both_ways}
use Rattle.std.proofs.lemmas.List.{length-set, length_push, length-replicate, get_or-set_same, get_or-set_other, get_or_append_left, get_or_push, get_or_default}
use Rattle.std.proofs.lemmas.List.Elements.{All-push, All-contains, Contains-append_left, Contains-push, Contains-push_cases}
use Rattle.std.proofs.lemmas.List.Sums.{sum_by-set}
use Rattle.std.proofs.lemmas.Option.{get_or_from_slice_get, slice_get_within}
use Rattle.deprecation_graph.specs.Paths.{HasEdge, Leads}
use Rattle.deprecation_graph.specs.Graph.{Node, next_of_node, node_of, changed_nodes, IsLawfulGraph}
use Rattle.deprecation_graph.proofs.PathLemmas.{Leads-self, Leads-then}
use Rattle.deprecation_graph.specs.declared.filling.Mark.{Mark}
use Rattle.deprecation_graph.specs.declared.filling.Mark.TheVariants.{New, Waiting, Done}
use Rattle.deprecation_graph.specs.Filling.{is_new, is_waiting, is_done, mark_of, done_in, NoneIsNewer, IsLastWaiting, IsOnWay, mark_work, unseen, work_of}
use Rattle.deprecation_graph.specs.Faults.{change_fault}
use Rattle.deprecation_graph.proofs.BetweenLemmas.{IsNext, between_same, between_changed, allowed_between}

-- ---- marks after the mark of node a is replaced

module _ (marks : List Mark) (a : ℕ) (m : Mark) (within : a < length marks) where
  pub mark_here : mark_of (slice_set marks a m) a ≡ m
  mark_here = get_or-set_same marks a m New within

  pub mark_else : (b : ℕ) → b ≢ a → mark_of (slice_set marks a m) b ≡ mark_of marks b
  mark_else b ne = get_or-set_other marks a b m New ne

  pub none_newer : is_new m ≡ false → NoneIsNewer marks (slice_set marks a m)
  none_newer old b e = elim (cases_eq b a) [
    | inl same ↦ absurd (both_ways (is_new m) old (sym (ap (λ (x : ℕ). is_new (mark_of (slice_set marks a m) x)) same ∙ ap is_new mark_here) ∙ e))
    | inr ne ↦ sym (ap is_new (mark_else b ne)) ∙ e
  ]

  -- if the mark of node a stays done, or stays not done, the same nodes are done
  pub done_same : is_done m ≡ is_done (mark_of marks a) → (b : ℕ) → done_in (slice_set marks a m) b ≡ done_in marks b
  done_same same b = elim (cases_eq b a) [
    | inl e ↦ ap (done_in (slice_set marks a m)) e ∙ ap is_done mark_here ∙ same ∙ ap (done_in marks) (sym e)
    | inr ne ↦ ap is_done (mark_else b ne)
  ]

pub mark_cases : (m : Mark) → is_new m ≡ false → is_waiting m ≡ false → is_done m ≡ true
mark_cases New e f = absurd cc
mark_cases Waiting e f = absurd cc
mark_cases Done e f = refl

get_or-all : {A : Type 0} (n i : ℕ) (x : A) → get_or (replicate n x) i x ≡ x
get_or-all zero i x = refl
get_or-all (suc n) zero x = refl
get_or-all (suc n) (suc i) x = get_or-all n i x

-- ---- the first state of a filling

next_in-all : (n a : ℕ) → next_of_node (replicate n (node_of None)) a ≡ []
next_in-all zero a = refl
next_in-all (suc n) zero = refl
next_in-all (suc n) (suc a) = next_in-all n a

pub begun : (nodes : List Node) (n : ℕ) → n ≡ length nodes → IsOnWay nodes (replicate n (node_of None)) (replicate n New) (replicate n 0) []
begun nodes n e = record {
  between = record {
    count = length-replicate n (node_of None) ∙ e;
    done = λ a d. absurd (not_done a d);
    bare = λ a _. next_in-all n a;
    first = λ a b d _. absurd (not_done a d);
  };
  marked = length-replicate n New ∙ e;
  counted = length-replicate n 0 ∙ e;
  below = λ k d lt. absurd (omega arith);
  waits = λ a w. absurd (both_ways (is_waiting (mark_of (replicate n New) a)) (ap is_waiting (get_or-all n a New)) w);
  leads = λ i j d le lt. absurd (omega arith);
  known = λ a k d lt _. absurd (omega (arith, get_or-all {A = ℕ} n a 0));
}
  where
    not_done : (a : ℕ) → done_in (replicate n New) a ≡ true → ⊥
    not_done a d = both_ways (done_in (replicate n New) a) (ap is_done (get_or-all n a New)) d

-- ---- a node begins to wait, looks at a successor, and is done

module _ {nodes now : List Node} {marks : List Mark} {seen waiting : List ℕ} (way : IsOnWay nodes now marks seen waiting) where
  pub entered : (b : ℕ) → b < length nodes → mark_of marks b ≡ New → ((i d : ℕ) → i < length waiting → Leads (next_of_node nodes) (get_or waiting i d) b)
      → IsOnWay nodes now (slice_set marks b Waiting) seen (waiting ++ b ∷ [])
  entered b lt new led = record {
    between = between_same way.between same;
    marked = length-set marks b Waiting ∙ way.marked;
    counted = way.counted;
    below = All-push (λ a. a < length nodes) waiting b way.below lt;
    waits = λ a w. elim (cases_eq a b) [
      | inl e ↦ subst (Contains (waiting ++ b ∷ [])) (sym e) (Contains-push waiting b)
      | inr ne ↦ Contains-append_left waiting (b ∷ []) a (way.waits a (sym (ap is_waiting (mark_else marks b Waiting within a ne)) ∙ w))
    ];
    leads = λ i j d le below. go i j d le below (cases_lt j (length waiting)) (cases_lt i (length waiting));
    known = λ a k d s n. same (get_or (next_of_node nodes a) k d) ∙ way.known a k d s n;
  }
    where
      within : b < length marks
      within = omega (arith, way.marked)

      same : (a : ℕ) → done_in (slice_set marks b Waiting) a ≡ done_in marks a
      same a = done_same marks b Waiting within (sym (ap is_done new)) a

      go : (i j d : ℕ) → i ≤ j → j < length (waiting ++ b ∷ []) → (j < length waiting) ⊎ (length waiting ≤ j)
          → (i < length waiting) ⊎ (length waiting ≤ i) → Leads (next_of_node nodes) (get_or (waiting ++ b ∷ []) i d) (get_or (waiting ++ b ∷ []) j d)
      go i j d le below (inl old) _ =
          let first : get_or (waiting ++ b ∷ []) i d ≡ get_or waiting i d = get_or_append_left waiting (b ∷ []) d i (omega arith) in
          let last : get_or (waiting ++ b ∷ []) j d ≡ get_or waiting j d = get_or_append_left waiting (b ∷ []) d j old in
          subst (λ (x : ℕ). Leads (next_of_node nodes) x (get_or (waiting ++ b ∷ []) j d)) (sym first)
          (subst (Leads (next_of_node nodes) (get_or waiting i d)) (sym last) (way.leads i j d le old))
      go i j d le below (inr new') (inl old) =
          let first : get_or (waiting ++ b ∷ []) i d ≡ get_or waiting i d = get_or_append_left waiting (b ∷ []) d i old in
          let last : get_or (waiting ++ b ∷ []) j d ≡ b = get_or_push waiting b d j (omega (arith, length_push waiting b)) in
          subst (λ (x : ℕ). Leads (next_of_node nodes) x (get_or (waiting ++ b ∷ []) j d)) (sym first)
          (subst (Leads (next_of_node nodes) (get_or waiting i d)) (sym last) (led i d old))
      go i j d le below (inr new') (inr new'') =
          let here : i ≡ j = omega (arith, length_push waiting b) in
          subst (λ (x : ℕ). Leads (next_of_node nodes) (get_or (waiting ++ b ∷ []) i d) (get_or (waiting ++ b ∷ []) x d)) here
          (Leads-self (get_or (waiting ++ b ∷ []) i d))

  -- each waiting node leads to the last waiting node
  pub leads_to_last : (a i d : ℕ) → IsLastWaiting waiting a → i < length waiting → Leads (next_of_node nodes) (get_or waiting i d) a
  leads_to_last a i d last lt =
      subst (Leads (next_of_node nodes) (get_or waiting i d)) (get_or_from_slice_get waiting (length waiting - 1) a d last)
      (way.leads i (length waiting - 1) d (omega arith) (omega arith))

  pub entered_next : (a b : ℕ) → b < length nodes → IsLastWaiting waiting a → HasEdge (next_of_node nodes) a b → mark_of marks b ≡ New
      → IsOnWay nodes now (slice_set marks b Waiting) seen (waiting ++ b ∷ [])
  entered_next a b lt last edge new = entered b lt new (λ i d within. Leads-then (leads_to_last a i d last within) edge)

  -- if a successor of the last waiting node waits too, the last state has a cycle
  pub waiting_is_cyclic : (a b : ℕ) → IsLastWaiting waiting a → HasEdge (next_of_node nodes) a b → mark_of marks b ≡ Waiting → IsLawfulGraph nodes → ⊥
  waiting_is_cyclic a b last edge waits ok =
      let c : Contains waiting b = way.waits b (ap is_waiting waits) in
      ok.acyclic a b edge (subst (λ (x : ℕ). Leads (next_of_node nodes) x a) c.2 (leads_to_last a c.0 b last c.1))

  pub last_is_node : (a : ℕ) → IsLastWaiting waiting a → a < length nodes
  last_is_node a last =
      let lt : length waiting - 1 < length waiting = slice_get_within waiting (length waiting - 1) a last in
      subst (λ (x : ℕ). x < length nodes) (get_or_from_slice_get waiting (length waiting - 1) a 0 last) (way.below (length waiting - 1) 0 lt)

  pub advanced : (a b : ℕ) → a < length nodes → slice_get (next_of_node nodes a) (get_or seen a 0) ≡ Some b → done_in marks b ≡ true
      → IsOnWay nodes now marks (slice_set seen a (get_or seen a 0 + 1)) waiting
  advanced a b lt here done = record {
    between = way.between;
    marked = way.marked;
    counted = length-set seen a (get_or seen a 0 + 1) ∙ way.counted;
    below = way.below;
    waits = way.waits;
    leads = way.leads;
    known = λ x k d s n. elim (cases_eq x a) [
      | inr ne ↦ way.known x k d (omega (arith, get_or-set_other seen a x (get_or seen a 0 + 1) 0 ne)) n
      | inl same ↦ subst (λ (y : ℕ). done_in marks (get_or (next_of_node nodes y) k d) ≡ true) (sym same)
          (now_known k d (omega (
            arith,
            ap (λ (y : ℕ). get_or (set seen a (get_or seen a 0 + 1)) y 0) same,
            get_or-set_same seen a
                (get_or seen a 0 + 1) 0 (omega (arith, way.counted)),
          )) (omega (arith, ap (λ (y : ℕ). length (next_of_node nodes y)) same))
          (cases_eq k (get_or seen a 0)))
    ];
  }
    where
      now_known : (k d : ℕ) → k < get_or seen a 0 + 1 → k < length (next_of_node nodes a) → (k ≡ get_or seen a 0) ⊎ (k ≢ get_or seen a 0)
          → done_in marks (get_or (next_of_node nodes a) k d) ≡ true
      now_known k d s n (inr ne) = way.known a k d (omega arith) n
      now_known k d s n (inl same) = ap (λ (j : ℕ). done_in marks (get_or (next_of_node nodes a) j d)) same ∙ ap (done_in marks)
          (get_or_from_slice_get (next_of_node nodes a) (get_or seen a 0) b d here) ∙ done

  -- a node is done next if all its successors are known to be done
  pub is_next : (a : ℕ) (to : Option (List ℕ)) → a < length nodes → slice_get nodes a ≡ Some (node_of to)
      → length (next_of_node nodes a) ≤ get_or seen a 0 → IsNext nodes (done_in marks) (done_in (slice_set marks a Done)) a to
  is_next a to place node all = record {
    place = place;
    node = node;
    now = ap is_done (mark_here marks a Done within);
    others = λ b ne. ap is_done (mark_else marks a Done within b ne);
    ready = λ b edge. ap (done_in marks) (sym edge.2) ∙ way.known a edge.0 b (omega (arith, edge.1)) edge.1;
  }
    where
      within : a < length marks
      within = omega (arith, place, way.marked)

  module _ (a : ℕ) (rest : List ℕ) (to : Option (List ℕ)) (last : waiting ≡ rest ++ a ∷ []) (node : slice_get nodes a ≡ Some (node_of to))
      (all : length (next_of_node nodes a) ≤ get_or seen a 0) where
    place : a < length nodes
    place = All-contains (λ x. x < length nodes) waiting a way.below (subst (λ (xs : List ℕ). Contains xs a) (sym last) (Contains-push rest a))

    within : a < length marks
    within = omega (arith, place, way.marked)

    next : IsNext nodes (done_in marks) (done_in (slice_set marks a Done)) a to
    next = is_next a to place node all

    at_rest : (k d : ℕ) → k < length rest → get_or waiting k d ≡ get_or rest k d
    at_rest k d lt = ap (λ (xs : List ℕ). get_or xs k d) last ∙ get_or_append_left rest (a ∷ []) d k lt

    longer : length waiting ≡ length rest + 1
    longer = ap length last ∙ length_push rest a

    kept : (b : ℕ) → done_in marks b ≡ true → done_in (slice_set marks a Done) b ≡ true
    kept b e = elim (cases_eq b a) [
      | inl same ↦ ap (done_in (slice_set marks a Done)) same ∙ next.now
      | inr ne ↦ next.others b ne ∙ e
    ]

    pub settled : IsOnWay nodes (changed_nodes now a to) (slice_set marks a Done) seen rest
    settled = record {
      between = between_changed way.between next;
      marked = length-set marks a Done ∙ way.marked;
      counted = way.counted;
      below = λ k d lt. subst (λ (x : ℕ). x < length nodes) (at_rest k d lt) (way.below k d (omega (arith, longer)));
      waits = λ b w. elim (cases_eq b a) [
        | inl same ↦ absurd (both_ways (is_waiting (mark_of (slice_set marks a Done) b))
            (ap (λ (x : ℕ). is_waiting (mark_of (slice_set marks a Done) x)) same ∙ ap is_waiting (mark_here marks a Done within)) w)
        | inr ne ↦ elim (Contains-push_cases rest a b
            (subst (λ (xs : List ℕ). Contains xs b) last (way.waits b (sym (ap is_waiting (mark_else marks a Done within b ne)) ∙ w)))) [
              | inl c ↦ c
              | inr same ↦ absurd (ne (sym same))
            ]
      ];
      leads = λ i j d le lt.
          subst (λ (x : ℕ). Leads (next_of_node nodes) x (get_or rest j d)) (at_rest i d (omega arith))
          (subst (Leads (next_of_node nodes) (get_or waiting i d)) (at_rest j d lt) (way.leads i j d le (omega (arith, longer))));
      known = λ b k d s n. kept (get_or (next_of_node nodes b) k d) (way.known b k d s n);
    }

-- ---- less work remains

module _ (nodes : List Node) (marks : List Mark) (seen waiting : List ℕ) where
  pub entered_less : (b : ℕ) → b < length marks → mark_of marks b ≡ New
      → work_of nodes (slice_set marks b Waiting) seen (waiting ++ b ∷ []) < work_of nodes marks seen waiting
  entered_less b lt new = omega (arith, sum_by-set mark_work marks b Waiting New lt, ap mark_work new, length_push waiting b)

  unseen_less : (ns : List Node) (ks : List ℕ) (a : ℕ) → a < length ks → get_or ks a 0 < length (next_of_node ns a)
      → unseen ns (slice_set ks a (get_or ks a 0 + 1)) + 1 ≡ unseen ns ks
  unseen_less [] ks a lt more = absurd (omega arith)
  unseen_less (n ∷ ns) [] a lt more = absurd (omega arith)
  unseen_less (n ∷ ns) (k ∷ ks) zero lt more = omega arith
  unseen_less (n ∷ ns) (k ∷ ks) (suc a) lt more = omega (arith, unseen_less ns ks a (omega arith) more)

  pub advanced_less : (a : ℕ) → a < length seen → get_or seen a 0 < length (next_of_node nodes a)
      → work_of nodes marks (slice_set seen a (get_or seen a 0 + 1)) waiting < work_of nodes marks seen waiting
  advanced_less a lt more = omega (arith, unseen_less nodes seen a lt more)

  pub settled_less : (a : ℕ) (rest : List ℕ) → a < length marks → waiting ≡ rest ++ a ∷ []
      → work_of nodes (slice_set marks a Done) seen rest < work_of nodes marks seen waiting
  settled_less a rest lt last = omega (arith, sum_by-set mark_work marks a Done New lt, ap length last, length_push rest a)

-- ---- each step keeps the state and lowers the remaining work

-- a step: the new state is sound, less work remains, and no node becomes new
pub record Moves (nodes : List Node) (old_marks : List Mark) (old_seen old_waiting : List ℕ) (now : List Node) (marks : List Mark)
    (seen waiting : List ℕ) : Type 0 where
  pub way : IsOnWay nodes now marks seen waiting
  pub less : work_of nodes marks seen waiting < work_of nodes old_marks old_seen old_waiting
  pub newer : NoneIsNewer old_marks marks

module _ {nodes now : List Node} {marks : List Mark} {seen waiting : List ℕ} (way : IsOnWay nodes now marks seen waiting) (a : ℕ)
    (last : IsLastWaiting waiting a) where
  pub enters : (b : ℕ) {marks' : List Mark} {waiting' : List ℕ} → b < length nodes → HasEdge (next_of_node nodes) a b → mark_of marks b ≡ New
      → marks' ≡ slice_set marks b Waiting → waiting' ≡ waiting ++ b ∷ [] → Moves nodes marks seen waiting now marks' seen waiting'
  enters b {marks'} {waiting'} lt edge new e f =
      let within : b < length marks = omega (arith, way.marked) in
      subst (λ (ms : List Mark). Moves nodes marks seen waiting now ms seen waiting') (sym e)
      (subst (Moves nodes marks seen waiting now (slice_set marks b Waiting) seen) (sym f) (record {
        way = entered_next way a b lt last edge new;
        less = entered_less nodes marks seen waiting b within new;
        newer = none_newer marks b Waiting within refl;
      }))

  pub advances : (b s : ℕ) {seen' : List ℕ} → s ≡ get_or seen a s → slice_get (next_of_node nodes a) s ≡ Some b → mark_of marks b ≡ Done
      → seen' ≡ slice_set seen a (s + 1) → Moves nodes marks seen waiting now marks seen' waiting
  advances b s {seen'} was here done e =
      let lt : a < length nodes = last_is_node way a last in
      let within : a < length seen = omega (arith, way.counted) in
      let count : s ≡ get_or seen a 0 = was ∙ get_or_default seen a s 0 within in
      let at : slice_get (next_of_node nodes a) (get_or seen a 0) ≡ Some b = subst (λ (k : ℕ). slice_get (next_of_node nodes a) k ≡ Some b) count here in
      let now_seen : seen' ≡ slice_set seen a (get_or seen a 0 + 1) = subst (λ (k : ℕ). seen' ≡ slice_set seen a (k + 1)) count e in
      subst (λ (ks : List ℕ). Moves nodes marks seen waiting now marks ks waiting) (sym now_seen) (record {
        way = advanced way a b lt at (ap is_done done);
        less = advanced_less nodes marks seen waiting a within (slice_get_within (next_of_node nodes a) (get_or seen a 0) b at);
        newer = λ _ new. new;
      })

  pub settles : (to : Option (List ℕ)) {now' : List Node} {marks' : List Mark} {rest : List ℕ} → slice_get nodes a ≡ Some (node_of to)
      → length (next_of_node nodes a) ≤ get_or seen a 0 → now' ≡ changed_nodes now a to → marks' ≡ slice_set marks a Done → waiting ≡ rest ++ a ∷ []
      → Moves nodes marks seen waiting now' marks' seen rest
  settles to {now'} {marks'} {rest} node all e f left =
      let within : a < length marks = omega (arith, last_is_node way a last, way.marked) in
      subst (λ (ns : List Node). Moves nodes marks seen waiting ns marks' seen rest) (sym e)
      (subst (λ (ms : List Mark). Moves nodes marks seen waiting (changed_nodes now a to) ms seen rest) (sym f) (record {
        way = settled way a rest to left node all;
        less = settled_less nodes marks seen waiting a rest within left;
        newer = none_newer marks a Done within refl;
      }))

  -- if the last state is lawful, the change of the node is allowed
  pub is_allowed : (to : Option (List ℕ)) → slice_get nodes a ≡ Some (node_of to) → length (next_of_node nodes a) ≤ get_or seen a 0 → IsLawfulGraph nodes
      → change_fault now a to ≡ None
  is_allowed to node all ok = allowed_between way.between (is_next way a to (last_is_node way a last) node all) ok
