-- Lemmas: a graph after a change of one node, and after the addition of a node.
use Rattle.std.proofs.Common.{◌≡◌, ◌≢◌, ◌↔◌, ◌⊎◌, ℕ, zero, suc, ◌+◌, ◌<◌, ◌≤◌, Bool, true, false, not, eqb, cond, List, [], ◌∷◌, ◌++◌, length, get_or, refl, sym, ap, subst, ◌∙◌, inl, inr, arith, Option, Some, None, slice_get, slice_set, IsTrue}
use Rattle.std.specs.List.{All, Contains, find, filter, position_from, range_with_len}
use Rattle.std.proofs.lemmas.Bool.{cases_eq, cases_Bool, cases_lt, both_ways, ne_eqb, not_from_false, le-ltb, ltb-false}
use Rattle.std.specs.List.Sorted.{IsStrictlyIncreasing}
use Rattle.std.proofs.lemmas.List.{length-set, length_push, length-append}
use Rattle.std.proofs.lemmas.Option.{slice_get_past}
use Rattle.std.proofs.lemmas.List.Elements.{Contains-append_left, Contains-append_right, Contains-get_or}
use Rattle.list_pool.proofs.SlotReads.{slice_get-set_same, slice_get-set_other, slice_get_push, slice_get-push_other}
use Rattle.deprecation_graph.specs.declared.limits.TheConstants.{MOST_ENDS, MOST_SUCCESSORS, MOST_NODES}
use Rattle.deprecation_graph.specs.Paths.{HasEdge, IsPathFrom, last_from, Leads, IsClosed, IsAcyclic}
use Rattle.deprecation_graph.specs.Chains.{reaches, chain_of}
use Rattle.deprecation_graph.specs.Graph.{Node, next_or_none, active_or_not, next_of_node, active_in, ends_in, successors, node_of, changed_nodes, NamesNodes, IsLawfulGraph}
use Rattle.deprecation_graph.specs.Faults.{cycle_in, is_wide_node, wide_in, first_graph_fault, change_fault}
use Rattle.deprecation_graph.proofs.Rising.{Contains-cases, Contains-rest, Contains-filter, Contains-range, length-le_rising, length-filter_one, same_rising}
use Rattle.deprecation_graph.proofs.PathLemmas.{Leads-self, Leads-trans, Leads-last, Leads-below}
use Rattle.deprecation_graph.proofs.ChainLemmas.{reaches-leads, leads-reaches, Contains-chain, Contains-ends, ends_rising}
use Rattle.deprecation_graph.proofs.ChangeLemmas.{old_or_through, others_alike, still_leads, acyclic_after}

-- ---- a node that is changed, and a node that is added at the end

pub next_in-changed : (nodes : List Node) (a : ℕ) (to : Option (List ℕ)) → a < length nodes → next_of_node (changed_nodes nodes a to) a ≡ successors to
next_in-changed nodes a to lt = ap next_or_none (slice_get-set_same nodes a (node_of to) lt) ∙ next_of to
  where
    next_of : (o : Option (List ℕ)) → next_or_none (Some (node_of o)) ≡ successors o
    next_of None = refl
    next_of (Some ys) = refl

pub next_in-other : (nodes : List Node) (a : ℕ) (to : Option (List ℕ)) (b : ℕ) → b ≢ a → next_of_node (changed_nodes nodes a to) b ≡ next_of_node nodes b
next_in-other nodes a to b ne = ap next_or_none (slice_get-set_other nodes a b (node_of to) ne)

active_in-changed : (nodes : List Node) (a : ℕ) (to : Option (List ℕ)) → a < length nodes → active_in (changed_nodes nodes a to) a ≡ (node_of to).active
active_in-changed nodes a to lt = ap active_or_not (slice_get-set_same nodes a (node_of to) lt)

pub active_in-other : (nodes : List Node) (a : ℕ) (to : Option (List ℕ)) (b : ℕ) → b ≢ a → active_in (changed_nodes nodes a to) b ≡ active_in nodes b
active_in-other nodes a to b ne = ap active_or_not (slice_get-set_other nodes a b (node_of to) ne)

-- ---- searches that find nothing

pub find-None : (p : ℕ → Bool) (xs : List ℕ) → ((x : ℕ) → Contains xs x → p x ≡ false) → find p xs ≡ None
find-None p [] h = refl
find-None p (x ∷ xs) h = ap (λ (b : Bool). cond b (Some x) (find p xs)) (h x (0, omega arith, refl)) ∙ find-None p xs (λ y c. h y (Contains-rest y x xs c))

pub find-none_at : (p : ℕ → Bool) (xs : List ℕ) (x : ℕ) → find p xs ≡ None → Contains xs x → p x ≡ false
find-none_at p [] x e c = absurd (omega (arith, c.1))
find-none_at p (y ∷ ys) x e c = go (p y) refl e (Contains-cases x y ys c) (find-none_at p ys x)
  where
    go : (b : Bool) → p y ≡ b → cond b (Some y) (find p ys) ≡ None → (x ≡ y) ⊎ Contains ys x → (find p ys ≡ None → Contains ys x → p x ≡ false) → p x ≡ false
    go true f e' r rest = absurd cc
    go false f e' (inl same) rest = ap p same ∙ f
    go false f e' (inr d) rest = rest e' d

position_from-none_at : (p : ℕ → Bool) (k : ℕ) (xs : List ℕ) (x : ℕ) → position_from p k xs ≡ None → Contains xs x → p x ≡ false
position_from-none_at p k [] x e c = absurd (omega (arith, c.1))
position_from-none_at p k (y ∷ ys) x e c = go (p y) refl e (Contains-cases x y ys c) (position_from-none_at p (k + 1) ys x)
  where
    go : (b : Bool) → p y ≡ b → cond b (Some k) (position_from p (k + 1) ys) ≡ None → (x ≡ y) ⊎ Contains ys x → (position_from p (k + 1) ys ≡ None → Contains ys x → p x ≡ false) → p x ≡ false
    go true f e' r rest = absurd cc
    go false f e' (inl same) rest = ap p same ∙ f
    go false f e' (inr d) rest = rest e' d

first_fault-none : (cycle wide : Option ℕ) → first_graph_fault cycle wide ≡ None → (cycle ≡ None) × (wide ≡ None)
first_fault-none (Some k) wide e = absurd cc
first_fault-none None (Some n) e = absurd cc
first_fault-none None None e = (refl, refl)

-- ---- a change of node a

module _ (nodes : List Node) (a : ℕ) (to : Option (List ℕ)) (ok : IsLawfulGraph nodes) (change : NamesNodes nodes a to) where
  -- after the change all successors are below the number of nodes before it
  pub closed_after : IsClosed (next_of_node (changed_nodes nodes a to)) (length nodes)
  closed_after x y lt edge = elim (cases_eq x a) [
    | inl e ↦ change.next y (subst (λ (ys : List ℕ). Contains ys y) (ap (next_of_node (changed_nodes nodes a to)) e ∙ next_in-changed nodes a to change.node) edge)
    | inr ne ↦ ok.closed x y lt (subst (λ (ys : List ℕ). Contains ys y) (next_in-other nodes a to x ne) edge)
  ]

  pub edge_is_successor : (y : ℕ) → HasEdge (next_of_node (changed_nodes nodes a to)) a y → Contains (successors to) y
  edge_is_successor y edge = subst (λ (ys : List ℕ). Contains ys y) (next_in-changed nodes a to change.node) edge

  -- if `cycle_in` finds nothing, no new successor leads to the changed node
  away_from_node : cycle_in nodes a (successors to) ≡ None → (y : ℕ) → Contains (successors to) y → Leads (next_of_node nodes) y a → ⊥
  away_from_node none y c l =
      both_ways (reaches (next_of_node nodes) (length nodes) y a) (position_from-none_at (λ b. reaches (next_of_node nodes) (length nodes) b a) 1 (successors to) y none c) (leads-reaches (next_of_node nodes) (length nodes) y a ok.closed (change.next y c) l)

  bare_after : (x : ℕ) → active_in (changed_nodes nodes a to) x ≡ true → next_of_node (changed_nodes nodes a to) x ≡ []
  bare_after x e = elim (cases_eq x a) [
    | inl same ↦ ap (next_of_node (changed_nodes nodes a to)) same ∙ next_in-changed nodes a to change.node ∙ none to (sym (active_in-changed nodes a to change.node) ∙ ap (active_in (changed_nodes nodes a to)) (sym same) ∙ e)
    | inr ne ↦ next_in-other nodes a to x ne ∙ ok.bare x (sym (active_in-other nodes a to x ne) ∙ e)
  ]
    where
      none : (o : Option (List ℕ)) → (node_of o).active ≡ true → successors o ≡ []
      none None h = refl
      none (Some ys) h = absurd cc

  -- a change without a fault makes a lawful graph
  pub lawful_after : change_fault nodes a to ≡ None → IsLawfulGraph (changed_nodes nodes a to)
  lawful_after allowed =
      let none = first_fault-none (cycle_in nodes a (successors to)) (wide_in (changed_nodes nodes a to)) allowed in
      let same = length-set nodes a (node_of to) in
      record {
        few = omega (arith, same, ok.few);
        closed = subst (IsClosed (next_of_node (changed_nodes nodes a to))) (sym same) closed_after;
        bare = bare_after;
        acyclic = acyclic_after (next_of_node nodes) (next_of_node (changed_nodes nodes a to)) a (next_in-other nodes a to) ok.acyclic (λ y edge. away_from_node none.0 y (edge_is_successor y edge));
        narrow = λ x lt. ltb-false MOST_ENDS (length (ends_in (changed_nodes nodes a to) x)) (find-none_at (is_wide_node (changed_nodes nodes a to)) (range_with_len 0 (length (changed_nodes nodes a to))) x none.1 ((Contains-range (length (changed_nodes nodes a to)) x).1 lt));
      }

  pub Contains-ends_after : (x y : ℕ) → x < length nodes → Contains (ends_in (changed_nodes nodes a to) x) y ↔ (Leads (next_of_node (changed_nodes nodes a to)) x y × (active_in (changed_nodes nodes a to) y ≡ true))
  Contains-ends_after x y lt =
      let same = length-set nodes a (node_of to) in
      Contains-ends (next_of_node (changed_nodes nodes a to)) (active_in (changed_nodes nodes a to)) (length (changed_nodes nodes a to)) x (subst (IsClosed (next_of_node (changed_nodes nodes a to))) (sym same) closed_after) (omega (arith, same)) y

  Contains-ends_before : (x y : ℕ) → x < length nodes → Contains (ends_in nodes x) y ↔ (Leads (next_of_node nodes) x y × (active_in nodes y ≡ true))
  Contains-ends_before x y lt = Contains-ends (next_of_node nodes) (active_in nodes) (length nodes) x ok.closed lt y

  -- a node that doesn't lead to the changed node keeps its ends
  pub same_ends : (x : ℕ) → x < length nodes → (Leads (next_of_node nodes) x a → ⊥) → ends_in (changed_nodes nodes a to) x ≡ ends_in nodes x
  same_ends x lt away = same_rising (ends_in (changed_nodes nodes a to) x) (ends_in nodes x) (ends_rising (next_of_node (changed_nodes nodes a to)) (active_in (changed_nodes nodes a to)) (length (changed_nodes nodes a to)) x) (ends_rising (next_of_node nodes) (active_in nodes) (length nodes) x) (λ y. (
    λ c. let h = (Contains-ends_after x y lt).0 c in let l = (alike y).1 h.0 in (Contains-ends_before x y lt).1 (l, sym (active_in-other nodes a to y (other y l)) ∙ h.1),
    λ c. let h = (Contains-ends_before x y lt).0 c in (Contains-ends_after x y lt).1 ((alike y).0 h.0, active_in-other nodes a to y (other y h.0) ∙ h.1),
  ))
    where
      alike : (y : ℕ) → Leads (next_of_node nodes) x y ↔ Leads (next_of_node (changed_nodes nodes a to)) x y
      alike y = others_alike (next_of_node nodes) (next_of_node (changed_nodes nodes a to)) a (next_in-other nodes a to) x y away

      other : (y : ℕ) → Leads (next_of_node nodes) x y → y ≢ a
      other y l e = away (subst (Leads (next_of_node nodes) x) e l)

  -- if the changed node was active and now has at most one end, no source of it has more ends than before
  fewer_ends : active_in nodes a ≡ true → length (ends_in (changed_nodes nodes a to) a) ≤ 1 → (x : ℕ) → x < length nodes → Leads (next_of_node nodes) x a → length (ends_in (changed_nodes nodes a to) x) ≤ length (ends_in nodes x)
  fewer_ends was few x lt source =
      let lost = length-filter_one a (ends_in nodes x) ((Contains-ends_before x a lt).1 (source, was)) in
      omega (arith, lost, few, length-append (ends_in (changed_nodes nodes a to) a) (filter other (ends_in nodes x)), length-le_rising (ends_in (changed_nodes nodes a to) x) (ends_in (changed_nodes nodes a to) a ++ filter other (ends_in nodes x)) (ends_rising (next_of_node (changed_nodes nodes a to)) (active_in (changed_nodes nodes a to)) (length (changed_nodes nodes a to)) x) among)
    where
      other : ℕ → Bool
      other y = not (eqb y a)

      among : (y : ℕ) → Contains (ends_in (changed_nodes nodes a to) x) y → Contains (ends_in (changed_nodes nodes a to) a ++ filter (λ z. not (eqb z a)) (ends_in nodes x)) y
      among y c = go ((Contains-ends_after x y lt).0 c)
        where
          new : Leads (next_of_node (changed_nodes nodes a to)) a y → active_in (changed_nodes nodes a to) y ≡ true → Contains (ends_in (changed_nodes nodes a to) a ++ filter (λ z. not (eqb z a)) (ends_in nodes x)) y
          new l e = Contains-append_left (ends_in (changed_nodes nodes a to) a) (filter (λ z. not (eqb z a)) (ends_in nodes x)) y ((Contains-ends_after a y change.node).1 (l, e))

          go : Leads (next_of_node (changed_nodes nodes a to)) x y × (active_in (changed_nodes nodes a to) y ≡ true) → Contains (ends_in (changed_nodes nodes a to) a ++ filter (λ z. not (eqb z a)) (ends_in nodes x)) y
          go h = elim (old_or_through (next_of_node nodes) (next_of_node (changed_nodes nodes a to)) a (next_in-other nodes a to) x y h.0) [
            | inr k ↦ new k.1 h.1
            | inl l ↦ elim (cases_eq y a) [
              | inl same ↦ new (subst (Leads (next_of_node (changed_nodes nodes a to)) a) (sym same) (Leads-self a)) h.1
              | inr ne ↦ Contains-append_right (ends_in (changed_nodes nodes a to) a) (filter (λ z. not (eqb z a)) (ends_in nodes x)) y
                  ((Contains-filter (λ z. not (eqb z a)) y (ends_in nodes x)).1 ((Contains-ends_before x y lt).1 (l, sym (active_in-other nodes a to y ne) ∙ h.1), not_from_false (eqb y a) (ne_eqb y a ne)))
            ]
          ]

  -- if the changed node was active and now has at most one end, no node has too many ends
  pub narrow_change : active_in nodes a ≡ true → length (ends_in (changed_nodes nodes a to) a) ≤ 1 → wide_in (changed_nodes nodes a to) ≡ None
  narrow_change was few = find-None (is_wide_node (changed_nodes nodes a to)) (range_with_len 0 (length (changed_nodes nodes a to))) (λ x c.
      let lt : x < length nodes = omega (arith, (Contains-range (length (changed_nodes nodes a to)) x).0 c, length-set nodes a (node_of to)) in
      le-ltb MOST_ENDS (length (ends_in (changed_nodes nodes a to) x)) (narrow x lt (cases_Bool (reaches (next_of_node nodes) (length nodes) x a))))
    where
      narrow : (x : ℕ) → x < length nodes → (reaches (next_of_node nodes) (length nodes) x a ≡ true) ⊎ (reaches (next_of_node nodes) (length nodes) x a ≡ false) → length (ends_in (changed_nodes nodes a to) x) ≤ MOST_ENDS
      narrow x lt (inl source) = omega (arith, ok.narrow x lt, fewer_ends was few x lt (reaches-leads (next_of_node nodes) (length nodes) x a source))
      narrow x lt (inr away) = omega (arith, ok.narrow x lt, ap length (same_ends x lt (λ l. both_ways (reaches (next_of_node nodes) (length nodes) x a) away (leads-reaches (next_of_node nodes) (length nodes) x a ok.closed lt l))))

  -- if x leads to y, and y to the changed node, x has at least as many ends as y after the change
  pub fewer_than_above : (x y : ℕ) → x < length nodes → y < length nodes → Leads (next_of_node nodes) x y → Leads (next_of_node nodes) y a → length (ends_in (changed_nodes nodes a to) y) ≤ length (ends_in (changed_nodes nodes a to) x)
  fewer_than_above x y ltx lty l source = length-le_rising (ends_in (changed_nodes nodes a to) y) (ends_in (changed_nodes nodes a to) x) (ends_rising (next_of_node (changed_nodes nodes a to)) (active_in (changed_nodes nodes a to)) (length (changed_nodes nodes a to)) y) (λ z c.
      let h = (Contains-ends_after y z lty).0 c in
      (Contains-ends_after x z ltx).1 (Leads-trans (still_leads (next_of_node nodes) (next_of_node (changed_nodes nodes a to)) a (next_in-other nodes a to) ok.acyclic x y source l) h.0, h.1))

  -- ---- the ends of the changed node

  -- a path from the changed node has no step, or its first step leads to a new successor
  new_path : (y : ℕ) → Leads (next_of_node (changed_nodes nodes a to)) a y → (a ≡ y) ⊎ ((b : ℕ) × Contains (successors to) b × Leads (next_of_node (changed_nodes nodes a to)) b y)
  new_path y l = go l.path l.steps l.ends
    where
      go : (p : List ℕ) → IsPathFrom (next_of_node (changed_nodes nodes a to)) a p → last_from a p ≡ y → (a ≡ y) ⊎ ((b : ℕ) × Contains (successors to) b × Leads (next_of_node (changed_nodes nodes a to)) b y)
      go [] s e = inl e
      go (b ∷ p) s e = inr (b, edge_is_successor b s.0, record { path = p; steps = s.1; ends = e })

  few_among : (xs : List ℕ) → length xs ≤ MOST_ENDS → ((y : ℕ) → Leads (next_of_node (changed_nodes nodes a to)) a y → active_in (changed_nodes nodes a to) y ≡ true → Contains xs y) → length (ends_in (changed_nodes nodes a to) a) ≤ MOST_ENDS
  few_among xs few among = omega (
    arith,
    few,
    length-le_rising (ends_in (changed_nodes nodes a to) a) xs (ends_rising (next_of_node (changed_nodes nodes a to)) (active_in (changed_nodes nodes a to)) (length (changed_nodes nodes a to)) a) (λ y c.
        let h = (Contains-ends_after a y change.node).0 c in among y h.0 h.1),
  )

  -- with at most one successor, the changed node doesn't have too many ends
  pub one_is_narrow : cycle_in nodes a (successors to) ≡ None → length (successors to) ≤ 1 → length (ends_in (changed_nodes nodes a to) a) ≤ MOST_ENDS
  one_is_narrow none few = go (successors to) refl few
    where
      inactive : (o : Option (List ℕ)) (b : ℕ) → successors o ≡ b ∷ [] → (node_of o).active ≡ false
      inactive None b e = absurd cc
      inactive (Some ys) b e = refl

      go : (ys : List ℕ) → successors to ≡ ys → length ys ≤ 1 → length (ends_in (changed_nodes nodes a to) a) ≤ MOST_ENDS
      go [] e few' = few_among (a ∷ []) (omega arith) (λ y l _. elim (new_path y l) [
        | inl same ↦ (0, omega arith, same)
        | inr h ↦ absurd (omega (arith, h.1.1, ap length e))
      ])
      go (b ∷ (c ∷ ys)) e few' = absurd (omega arith)
      go (b ∷ []) e few' =
          let here : Contains (successors to) b = subst (λ (xs : List ℕ). Contains xs b) (sym e) (0, omega arith, refl) in
          let below = change.next b here in
          few_among (ends_in (changed_nodes nodes a to) b) (omega (arith, ok.narrow b below, ap length (same_ends b below (away_from_node none b here)))) (λ y l h. elim (new_path y l) [
            | inl same ↦ absurd (both_ways (active_in (changed_nodes nodes a to) a) (active_in-changed nodes a to change.node ∙ inactive to b e) (ap (active_in (changed_nodes nodes a to)) same ∙ h))
            | inr k ↦ (Contains-ends_after b y below).1 (subst (λ (x : ℕ). Leads (next_of_node (changed_nodes nodes a to)) x y) (only k.0 (subst (λ (xs : List ℕ). Contains xs k.0) e k.1)) k.2, h)
          ])
        where
          only : (x : ℕ) → Contains (b ∷ []) x → x ≡ b
          only x d = elim (Contains-cases x b [] d) [ inl same ↦ same | inr f ↦ absurd (omega (arith, f.1)) ]

  -- with only active successors, the changed node doesn't have too many ends
  pub active_are_narrow : cycle_in nodes a (successors to) ≡ None → length (successors to) ≤ MOST_SUCCESSORS → ((y : ℕ) → Contains (successors to) y → active_in nodes y ≡ true) → length (ends_in (changed_nodes nodes a to) a) ≤ MOST_ENDS
  active_are_narrow none few all = few_among (a ∷ successors to) (omega (arith, few)) (λ y l _. elim (new_path y l) [
    | inl same ↦ (0, omega arith, same)
    | inr h ↦ Contains-rest y a (successors to) (subst (Contains (successors to)) (Leads-last (bare h.0 h.1) h.2) h.1)
  ])
    where
      bare : (b : ℕ) → Contains (successors to) b → (y : ℕ) → HasEdge (next_of_node (changed_nodes nodes a to)) b y → ⊥
      bare b c y edge =
          let away : b ≢ a = λ e. away_from_node none b c (subst (Leads (next_of_node nodes) b) e (Leads-self b)) in
          omega (arith, edge.1, ap length (next_in-other nodes a to b away ∙ ok.bare b (all b c)))

-- ---- a node is added

next_in-push : (nodes : List Node) (x : ℕ) → next_of_node (nodes ++ node_of None ∷ []) x ≡ next_of_node nodes x
next_in-push nodes x = elim (cases_eq x (length nodes)) [
  | inl e ↦ ap (next_of_node (nodes ++ node_of None ∷ [])) e ∙ ap next_or_none (slice_get_push nodes (node_of None)) ∙ sym (ap next_or_none (slice_get_past nodes x (omega arith)))
  | inr ne ↦ ap next_or_none (slice_get-push_other nodes (node_of None) x ne)
]

-- the addition changes no successors
pub same_next : (nodes : List Node) → next_of_node (nodes ++ node_of None ∷ []) ≡ next_of_node nodes
same_next nodes = λ i x. next_in-push nodes x i

-- from a number past the last node, a path leads only to the number itself
pub leads_alone : (nodes : List Node) (x y : ℕ) → length nodes ≤ x → Leads (next_of_node nodes) x y → x ≡ y
leads_alone nodes x y past l = go l.path l.steps l.ends
  where
    go : (p : List ℕ) → IsPathFrom (next_of_node nodes) x p → last_from x p ≡ y → x ≡ y
    go [] s e = e
    go (z ∷ p) s e = absurd (omega (arith, s.0.1, ap (λ (n : Option Node). length (next_or_none n)) (slice_get_past nodes x past)))

module _ (nodes : List Node) (ok : IsLawfulGraph nodes) where
  pub closed_push : IsClosed (next_of_node nodes) (length (nodes ++ node_of None ∷ []))
  closed_push x y lt edge = elim (cases_lt x (length nodes)) [
    | inl below ↦ omega (arith, ok.closed x y below edge, length_push nodes (node_of None))
    | inr past ↦ absurd (omega (arith, edge.1, ap (λ (n : Option Node). length (next_or_none n)) (slice_get_past nodes x past)))
  ]

  Contains-ends_push : (x y : ℕ) → x < length (nodes ++ node_of None ∷ []) → Contains (ends_in (nodes ++ node_of None ∷ []) x) y → Leads (next_of_node nodes) x y × (active_in (nodes ++ node_of None ∷ []) y ≡ true)
  Contains-ends_push x y lt c =
      let h = (Contains-ends (next_of_node (nodes ++ node_of None ∷ [])) (active_in (nodes ++ node_of None ∷ [])) (length (nodes ++ node_of None ∷ [])) x (subst (λ (next : ℕ → List ℕ). IsClosed next (length (nodes ++ node_of None ∷ []))) (sym (same_next nodes)) closed_push) lt y).0 c in
      (subst (λ (next : ℕ → List ℕ). Leads next x y) (same_next nodes) h.0, h.1)

  narrow_push : (x : ℕ) → x < length (nodes ++ node_of None ∷ []) → length (ends_in (nodes ++ node_of None ∷ []) x) ≤ MOST_ENDS
  narrow_push x lt = elim (cases_lt x (length nodes)) [
    | inl below ↦ omega (
      arith,
      ok.narrow x below,
      length-le_rising (ends_in (nodes ++ node_of None ∷ []) x) (ends_in nodes x) rising (λ y c.
          let h = Contains-ends_push x y lt c in
          let in_nodes : y < length nodes = Leads-below ok.closed below h.0 in
          (Contains-ends (next_of_node nodes) (active_in nodes) (length nodes) x ok.closed below y).1 (h.0, sym (ap active_or_not (slice_get-push_other nodes (node_of None) y (λ e. omega arith))) ∙ h.1)),
    )
    | inr past ↦ omega (arith, length-le_rising (ends_in (nodes ++ node_of None ∷ []) x) (x ∷ []) rising (λ y c. (0, omega arith, leads_alone nodes x y past (Contains-ends_push x y lt c).0)))
  ]
    where
      rising : IsStrictlyIncreasing (ends_in (nodes ++ node_of None ∷ []) x)
      rising = ends_rising (next_of_node (nodes ++ node_of None ∷ [])) (active_in (nodes ++ node_of None ∷ [])) (length (nodes ++ node_of None ∷ [])) x

  pub lawful_push : length nodes < MOST_NODES → IsLawfulGraph (nodes ++ node_of None ∷ [])
  lawful_push room = record {
    few = omega (arith, length_push nodes (node_of None));
    closed = subst (λ (next : ℕ → List ℕ). IsClosed next (length (nodes ++ node_of None ∷ []))) (sym (same_next nodes)) closed_push;
    bare = λ x e. next_in-push nodes x ∙ bare x e (cases_eq x (length nodes));
    acyclic = subst IsAcyclic (sym (same_next nodes)) ok.acyclic;
    narrow = narrow_push;
  }
    where
      bare : (x : ℕ) → active_in (nodes ++ node_of None ∷ []) x ≡ true → (x ≡ length nodes) ⊎ (x ≢ length nodes) → next_of_node nodes x ≡ []
      bare x e (inl same) = ap next_or_none (slice_get_past nodes x (omega arith))
      bare x e (inr ne) = ok.bare x (sym (ap active_or_not (slice_get-push_other nodes (node_of None) x ne)) ∙ e)

-- ---- numbers below a count

pub All-below : (xs : List ℕ) (n : ℕ) → ((x : ℕ) → Contains xs x → x < n) → All (λ x. x < n) xs
All-below xs n h = λ k d lt. h (get_or xs k d) (Contains-get_or xs k d lt)

pub successors_below : (nodes : List Node) (a : ℕ) (to : Option (List ℕ)) (xs : List ℕ) → NamesNodes nodes a to → xs ≡ successors to → All (λ x. x < length nodes) xs
successors_below nodes a to xs change e = subst (All (λ x. x < length nodes)) (sym e) (All-below (successors to) (length nodes) change.next)

pub chain_below : (next : ℕ → List ℕ) (count a : ℕ) → IsClosed next count → a < count → All (λ x. x < count) (chain_of next count a)
chain_below next count a ok lt = All-below (chain_of next count a) count (λ x c. Leads-below ok lt ((Contains-chain next count a ok lt x).0 c))

-- ---- results about the nodes that are read, moved to the value of the graph

pub led_to_is : (read value : List Node) (a b : ℕ) {led : Bool} → read ≡ value → IsClosed (next_of_node read) (length read) → a < length value → led ≡ reaches (next_of_node read) (length read) a b → IsTrue led ↔ Leads (next_of_node value) a b
led_to_is read value a b {led} e ok lt f =
    let closed : IsClosed (next_of_node value) (length value) = subst (λ (nodes : List Node). IsClosed (next_of_node nodes) (length nodes)) e ok in
    let same : led ≡ reaches (next_of_node value) (length value) a b = f ∙ ap (λ (nodes : List Node). reaches (next_of_node nodes) (length nodes) a b) e in
    (λ t. reaches-leads (next_of_node value) (length value) a b (sym same ∙ t), λ l. same ∙ leads-reaches (next_of_node value) (length value) a b closed lt l)
