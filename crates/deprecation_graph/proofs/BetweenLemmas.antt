-- Lemmas: if the last state of a filling is lawful, each state before it is lawful too.
use Rattle.std.proofs.Common.{◌≡◌, ◌≢◌, ◌⊎◌, ℕ, zero, suc, ◌+◌, ◌<◌, ◌≤◌, Bool, true, false, List, [], ◌∷◌, length, get_or, cond, refl, sym, ap, subst, ◌∙◌, inl, inr, arith, Option, Some, None, slice_get, slice_set}
use Rattle.std.specs.List.{Contains, position_from, range_with_len}
use Rattle.std.specs.List.Sorted.{IsStrictlyIncreasing}
use Rattle.std.proofs.lemmas.Bool.{cases_Bool, cases_eq, both_ways, le-ltb}
use Rattle.std.proofs.lemmas.List.{length-set, same_lists}
use Rattle.std.proofs.lemmas.Option.{slice_get-get_or, same_Some}
use Rattle.list_pool.proofs.SlotReads.{slice_get-set_same, slice_get-set_other}
use Rattle.deprecation_graph.specs.declared.limits.TheConstants.{MOST_ENDS}
use Rattle.deprecation_graph.specs.Paths.{HasEdge, Leads, IsClosed, IsAcyclic}
use Rattle.deprecation_graph.specs.Chains.{reaches}
use Rattle.deprecation_graph.specs.Graph.{Node, next_or_none, active_or_not, next_of_node, active_in, ends_in, successors, node_of, changed_nodes, IsLawfulGraph}
use Rattle.deprecation_graph.specs.Faults.{cycle_in, is_wide_node, wide_in, first_graph_fault, change_fault}
use Rattle.deprecation_graph.proofs.Rising.{Contains-range, Contains-rest, length-le_rising}
use Rattle.deprecation_graph.proofs.PathLemmas.{Leads-self, Leads-cons, Leads-back, Leads-forth, Leads-last}
use Rattle.deprecation_graph.proofs.ChainLemmas.{reaches-leads, Contains-ends, ends_rising}
use Rattle.deprecation_graph.proofs.GraphLemmas.{find-None}
use Rattle.deprecation_graph.specs.Between.{IsBetween}

module _ {nodes now : List Node} {is_done : ℕ → Bool} (between : IsBetween nodes now is_done) where
  -- each edge of the state starts at a node that is done
  edge_is_done : (a b : ℕ) → HasEdge (next_of_node now) a b → is_done a ≡ true
  edge_is_done a b edge = elim (cases_Bool (is_done a)) [
    | inl e ↦ e
    | inr e ↦ absurd (omega (arith, edge.1, ap length (between.bare a e)))
  ]

  pub old_edge : (a b : ℕ) → HasEdge (next_of_node now) a b → HasEdge (next_of_node nodes) a b
  old_edge a b edge = subst (λ (ys : List ℕ). Contains ys b) (ap next_or_none (between.done a (edge_is_done a b edge))) edge

  pub old_path : (a b : ℕ) → Leads (next_of_node now) a b → Leads (next_of_node nodes) a b
  old_path a b l = Leads-back (λ x. Leads (next_of_node nodes) x b) (Leads-self b) (λ x y edge _ r. Leads-cons (old_edge x y edge) r) l

  -- a path from a node that is done leads only to nodes that are done
  path_is_done : (a b : ℕ) → is_done a ≡ true → Leads (next_of_node now) a b → is_done b ≡ true
  path_is_done a b e l = Leads-forth (λ x. is_done x ≡ true) (λ x y edge h. between.first x y h (old_edge x y edge)) l e

  module _ (ok : IsLawfulGraph nodes) where
    closed_between : IsClosed (next_of_node now) (length now)
    closed_between a b lt edge = omega (arith, between.count, ok.closed a b (omega (arith, between.count)) (old_edge a b edge))

    acyclic_between : IsAcyclic (next_of_node now)
    acyclic_between a b edge l = ok.acyclic a b (old_edge a b edge) (old_path b a l)

    bare_between : (a : ℕ) → active_in now a ≡ true → next_of_node now a ≡ []
    bare_between a active = elim (cases_Bool (is_done a)) [
      | inl e ↦ ap next_or_none (between.done a e) ∙ ok.bare a (sym (ap active_or_not (between.done a e)) ∙ active)
      | inr e ↦ between.bare a e
    ]

    -- a node that is done has its last ends, and any other node is its own only end
    narrow_between : (a : ℕ) → a < length now → length (ends_in now a) ≤ MOST_ENDS
    narrow_between a lt = go (cases_Bool (is_done a))
      where
        here : (b : ℕ) → Contains (ends_in now a) b → Leads (next_of_node now) a b × (active_in now b ≡ true)
        here b c = (Contains-ends (next_of_node now) (active_in now) (length now) a closed_between lt b).0 c

        rising : IsStrictlyIncreasing (ends_in now a)
        rising = ends_rising (next_of_node now) (active_in now) (length now) a

        go : (is_done a ≡ true) ⊎ (is_done a ≡ false) → length (ends_in now a) ≤ MOST_ENDS
        go (inl e) =
            let below : a < length nodes = omega (arith, between.count) in
            omega (
              arith,
              ok.narrow a below,
              length-le_rising (ends_in now a) (ends_in nodes a) rising (λ b c.
                  let h = here b c in
                  (Contains-ends (next_of_node nodes) (active_in nodes) (length nodes) a ok.closed below b).1
                  (old_path a b h.0, sym (ap active_or_not (between.done b (path_is_done a b e h.0))) ∙ h.1)),
            )
        go (inr e) = omega (
          arith,
          length-le_rising (ends_in now a) (a ∷ []) rising (λ b c.
              (0, omega arith, Leads-last (λ y edge. omega (arith, edge.1, ap length (between.bare a e))) (here b c).0)),
        )

    pub lawful_between : IsLawfulGraph now
    lawful_between = record {
      few = omega (arith, between.count, ok.few);
      closed = closed_between;
      bare = bare_between;
      acyclic = acyclic_between;
      narrow = narrow_between;
    }

-- a state for a test of done nodes is also a state for any equal test
pub between_same : {nodes now : List Node} {was is : ℕ → Bool} → IsBetween nodes now was → ((a : ℕ) → is a ≡ was a) → IsBetween nodes now is
between_same {nodes} {now} {was} {is} between same = record {
  count = between.count;
  done = λ a e. between.done a (sym (same a) ∙ e);
  bare = λ a e. between.bare a (sym (same a) ∙ e);
  first = λ a b e edge. same b ∙ between.first a b (sym (same a) ∙ e) edge;
}

-- ---- a node gets its successors, which are done

position_from-None : (p : ℕ → Bool) (k : ℕ) (xs : List ℕ) → ((x : ℕ) → Contains xs x → p x ≡ false) → position_from p k xs ≡ None
position_from-None p k [] h = refl
position_from-None p k (x ∷ xs) h =
    ap (λ (b : Bool). cond b (Some k) (position_from p (k + 1) xs)) (h x (0, omega arith, refl))
    ∙ position_from-None p (k + 1) xs (λ y c. h y (Contains-rest y x xs c))

-- the test `is` differs from `was` only at node a, which is done next
pub record IsNext (nodes : List Node) (was is : ℕ → Bool) (a : ℕ) (to : Option (List ℕ)) : Type 0 where
  pub place : a < length nodes
  pub node : slice_get nodes a ≡ Some (node_of to)
  pub now : is a ≡ true
  pub others : (b : ℕ) → b ≢ a → is b ≡ was b
  pub ready : (b : ℕ) → HasEdge (next_of_node nodes) a b → was b ≡ true

module _ {nodes now : List Node} {was is : ℕ → Bool} {a : ℕ} {to : Option (List ℕ)} (between : IsBetween nodes now was)
    (next : IsNext nodes was is a to) where
  kept : (b : ℕ) → was b ≡ true → is b ≡ true
  kept b e = elim (cases_eq b a) [
    | inl same ↦ ap is same ∙ next.now
    | inr ne ↦ next.others b ne ∙ e
  ]

  pub between_changed : IsBetween nodes (changed_nodes now a to) is
  between_changed = record {
    count = length-set now a (node_of to) ∙ between.count;
    done = λ b e. elim (cases_eq b a) [
      | inl same ↦ ap (slice_get (changed_nodes now a to)) same ∙ slice_get-set_same now a (node_of to) (omega (arith, between.count, next.place))
          ∙ sym next.node ∙ ap (slice_get nodes) (sym same)
      | inr ne ↦ slice_get-set_other now a b (node_of to) ne ∙ between.done b (sym (next.others b ne) ∙ e)
    ];
    bare = λ b e. elim (cases_eq b a) [
      | inl same ↦ absurd (both_ways (is b) e (ap is same ∙ next.now))
      | inr ne ↦ ap next_or_none (slice_get-set_other now a b (node_of to) ne) ∙ between.bare b (sym (next.others b ne) ∙ e)
    ];
    first = λ b c e edge. elim (cases_eq b a) [
      | inl same ↦ kept c (next.ready c (subst (λ (x : ℕ). HasEdge (next_of_node nodes) x c) same edge))
      | inr ne ↦ kept c (between.first b c (sym (next.others b ne) ∙ e) edge)
    ];
  }

  -- if the last state is lawful, the change is allowed
  pub allowed_between : IsLawfulGraph nodes → change_fault now a to ≡ None
  allowed_between ok = ap (λ (cycle : Option ℕ). first_graph_fault cycle (wide_in (changed_nodes now a to))) no_cycle ∙ ap (first_graph_fault None) not_wide
    where
      after : IsLawfulGraph (changed_nodes now a to)
      after = lawful_between between_changed ok

      edge : (b : ℕ) → Contains (successors to) b → HasEdge (next_of_node nodes) a b
      edge b c = subst (λ (ys : List ℕ). Contains ys b) (sym (ap next_or_none next.node ∙ next_of to)) c
        where
          next_of : (o : Option (List ℕ)) → next_or_none (Some (node_of o)) ≡ successors o
          next_of None = refl
          next_of (Some ys) = refl

      no_cycle : cycle_in now a (successors to) ≡ None
      no_cycle = position_from-None (λ b. reaches (next_of_node now) (length now) b a) 1 (successors to)
          (λ b c. elim (cases_Bool (reaches (next_of_node now) (length now) b a)) [
            | inl led ↦ absurd (ok.acyclic a b (edge b c) (old_path between b a (reaches-leads (next_of_node now) (length now) b a led)))
            | inr not_led ↦ not_led
          ])

      not_wide : wide_in (changed_nodes now a to) ≡ None
      not_wide = find-None (is_wide_node (changed_nodes now a to)) (range_with_len 0 (length (changed_nodes now a to))) (λ x c.
          le-ltb MOST_ENDS (length (ends_in (changed_nodes now a to) x)) (after.narrow x ((Contains-range (length (changed_nodes now a to)) x).0 c)))

-- if all nodes are done, the state is the last one
pub all_are_done : {nodes now : List Node} {is_done : ℕ → Bool} → IsBetween nodes now is_done → ((a : ℕ) → a < length nodes → is_done a ≡ true)
    → now ≡ nodes
all_are_done {nodes} {now} {is_done} between all = same_lists now nodes between.count (λ k d lt.
    same_Some (get_or now k d) (get_or nodes k d)
    (sym (slice_get-get_or now k d lt) ∙ between.done k (all k (omega (arith, between.count))) ∙ slice_get-get_or nodes k d
    (omega (arith, between.count))))
