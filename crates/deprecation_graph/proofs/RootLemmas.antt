-- Lemmas: a change of a node that is a successor of no node (a root).
use Rattle.std.proofs.Common.{◌≡◌, ◌↔◌, ℕ, zero, suc, ◌+◌, ◌≤◌, ◌<◌, Bool, true, false, cond, not, eqb, is_none, is_some, slice_get, List, [], ◌∷◌, length, get_or, refl, sym, ap, subst, ◌∙◌, inl, inr, arith, Option, Some, None}
use Rattle.std.specs.List.{All, Contains, filter, find}
use Rattle.std.proofs.lemmas.Bool.{cases_Bool, ne_eqb, not_from_false, ltb-false, le-ltb}
use Rattle.std.proofs.lemmas.List.Sums.{AllPass-from_list_all}
use Rattle.std.proofs.lemmas.List.Elements.{All-contains}
use Rattle.deprecation_graph.specs.declared.limits.TheConstants.{MOST_ENDS}
use Rattle.deprecation_graph.specs.declared.kept.KeptGraph.{KeptGraph}
use Rattle.deprecation_graph.specs.Paths.{HasEdge, Leads}
use Rattle.deprecation_graph.specs.Indexed.{list_of_node, has_none}
use Rattle.deprecation_graph.specs.Graph.{Node, next_of_node, ends_in, sources_in, successors, changed_nodes, NamesNodes, IsLawfulGraph, IsChange}
use Rattle.deprecation_graph.specs.Faults.{cycle_in, is_wide_node, wide_in}
use Rattle.deprecation_graph.specs.Kept.{nodes_in, AreFewSuccessors, IsGraph}
use Rattle.deprecation_graph.proofs.Rising.{same_rising, Contains-cases, Contains-filter, length-filter_one, length-le_rising}
use Rattle.deprecation_graph.proofs.PathLemmas.{Leads-self, Leads-then, Leads-trans, Leads-first}
use Rattle.deprecation_graph.proofs.ChainLemmas.{Contains-sources, sources_rising}
use Rattle.deprecation_graph.proofs.GraphLemmas.{All-below, find-None, find-none_at, fewer_than_above, one_is_narrow, active_are_narrow}
use Rattle.deprecation_graph.proofs.KeptLemmas.{list_within, no_predecessor, same_steps, same_marks, length-nodes_of, find_wide_source}
use Rattle.deprecation_graph.proofs.MirrorLemmas.{mirror_this_side}

-- a root is its only source
sources_root : (nodes : List Node) (a : ℕ) → IsLawfulGraph nodes → a < length nodes → ((x : ℕ) → HasEdge (next_of_node nodes) x a → ⊥) → sources_in nodes a ≡ a ∷ []
sources_root nodes a ok lt none = same_rising (sources_in nodes a) (a ∷ []) (sources_rising (next_of_node nodes) (length nodes) a) (λ k h. absurd (omega arith)) (λ x.
    let members = Contains-sources (next_of_node nodes) (length nodes) a ok.closed x in (
      λ c. (0, omega arith, sym (Leads-first none (members.0 c).1)),
      λ c. members.1 (subst (λ (y : ℕ). (y < length nodes) × Leads (next_of_node nodes) y a) (sym (only x c)) (lt, Leads-self a)),
    ))
  where
    only : (x : ℕ) → Contains (a ∷ []) x → x ≡ a
    only x c = elim (Contains-cases x a [] c) [ inl same ↦ same | inr d ↦ absurd (omega (arith, d.1)) ]

-- after a change of a root, only the root can have too many ends
pub wide_root : (kept : KeptGraph) (a : ℕ) (to : Option (List ℕ)) → IsGraph kept → NamesNodes (nodes_in kept) a to → has_none kept.before.lists a ≡ true → find (is_wide_node (changed_nodes (nodes_in kept) a to)) (a ∷ []) ≡ wide_in (changed_nodes (nodes_in kept) a to)
wide_root kept a to ok change root =
    ap (find (is_wide_node (changed_nodes (nodes_in kept) a to))) (sym (sources_root (nodes_in kept) a ok.lawful change.node (no_predecessor kept a ok root))) ∙ find_wide_source (nodes_in kept) a to ok.lawful change

-- a root with few successors, or with only active ones, doesn't get too many ends
pub few_root : (kept : KeptGraph) (a : ℕ) (to : Option (List ℕ)) → IsGraph kept → IsChange (nodes_in kept) a to → has_none kept.before.lists a ≡ true → cycle_in (nodes_in kept) a (successors to) ≡ None → AreFewSuccessors kept.active.items (successors to) → wide_in (changed_nodes (nodes_in kept) a to) ≡ None
few_root kept a to ok change root none few =
    sym (wide_root kept a to ok change.names root) ∙ ap (λ (b : Bool). cond b (Some a) None) (le-ltb MOST_ENDS (length (ends_in (changed_nodes (nodes_in kept) a to) a)) (narrow few))
  where
    narrow : AreFewSuccessors kept.active.items (successors to) → length (ends_in (changed_nodes (nodes_in kept) a to) a) ≤ MOST_ENDS
    narrow (inl one) = one_is_narrow (nodes_in kept) a to ok.lawful change.names none one
    narrow (inr all) = active_are_narrow (nodes_in kept) a to ok.lawful change.names none change.few (λ y c.
        ap (λ (f : ℕ → Bool). f y) (same_marks kept None ok.next) ∙ All-contains (λ x. get_or kept.active.items x false ≡ true) (successors to) y (AllPass-from_list_all (λ x. get_or kept.active.items x false) (successors to) all) c)

-- ---- the roots among the sources of a node

module _ (kept : KeptGraph) (ok : IsGraph kept) where
  predecessor : (a : ℕ) → has_none kept.before.lists a ≡ false → (x : ℕ) × (x < length (nodes_in kept)) × HasEdge (next_of_node (nodes_in kept)) x a
  predecessor a e = go (list_of_node kept.before.lists a) refl e
    where
      go : (xs : List ℕ) → list_of_node kept.before.lists a ≡ xs → is_none (slice_get xs 0) ≡ false → (x : ℕ) × (x < length (nodes_in kept)) × HasEdge (next_of_node (nodes_in kept)) x a
      go [] same f = absurd cc
      go (x ∷ xs) same f =
          let edge : Contains (list_of_node kept.next.lists x) a = mirror_this_side kept.next.lists kept.before.lists x a ok.mirror (subst (λ (ys : List ℕ). Contains ys x) (sym same) (0, omega arith, refl)) in (
            x,
            omega (arith, list_within kept.next.lists x a edge, ok.next, length-nodes_of kept.active.items kept.next.lists ok.next),
            subst (λ (next : ℕ → List ℕ). HasEdge next x a) (sym (same_steps kept None ok.next)) edge,
          )

  -- a predecessor has fewer sources than its successor
  fewer_sources : (x a : ℕ) → a < length (nodes_in kept) → HasEdge (next_of_node (nodes_in kept)) x a → length (sources_in (nodes_in kept) x) + 1 ≤ length (sources_in (nodes_in kept) a)
  fewer_sources x a lt edge = omega (
    arith,
    length-filter_one a (sources_in (nodes_in kept) a) ((members a a).1 (lt, Leads-self a)),
    length-le_rising (sources_in (nodes_in kept) x) (filter (λ z. not (eqb z a)) (sources_in (nodes_in kept) a)) (sources_rising (next_of_node (nodes_in kept)) (length (nodes_in kept)) x) (λ y c.
        let h = (members x y).0 c in
        (Contains-filter (λ z. not (eqb z a)) y (sources_in (nodes_in kept) a)).1 ((members a y).1 (h.0, Leads-then h.1 edge), not_from_false (eqb y a) (ne_eqb y a (λ e. ok.lawful.acyclic x a edge (subst (λ (z : ℕ). Leads (next_of_node (nodes_in kept)) z x) e h.1))))),
  )
    where
      members : (b y : ℕ) → Contains (sources_in (nodes_in kept) b) y ↔ ((y < length (nodes_in kept)) × Leads (next_of_node (nodes_in kept)) y b)
      members b y = Contains-sources (next_of_node (nodes_in kept)) (length (nodes_in kept)) b ok.lawful.closed y

  -- a root that leads to the node
  record HasRoot (a : ℕ) : Type 0 where
    root : ℕ
    below : root < length (nodes_in kept)
    leads : Leads (next_of_node (nodes_in kept)) root a
    bare : has_none kept.before.lists root ≡ true

  root_above : (fuel a : ℕ) → length (sources_in (nodes_in kept) a) ≤ fuel → a < length (nodes_in kept) → HasRoot a
  root_above zero a few lt = absurd (omega (arith, few, ((Contains-sources (next_of_node (nodes_in kept)) (length (nodes_in kept)) a ok.lawful.closed a).1 (lt, Leads-self a)).1))
  root_above (suc fuel) a few lt = elim (cases_Bool (has_none kept.before.lists a)) [
    | inl e ↦ record { root = a; below = lt; leads = Leads-self a; bare = e }
    | inr e ↦
        let p = predecessor a e in
        let r = root_above fuel p.0 (omega (arith, few, fewer_sources p.0 a lt p.2)) p.1 in
        record { root = r.root; below = r.below; leads = Leads-then r.leads p.2; bare = r.bare }
  ]

  -- if no root among the sources has too many ends, no source has too many
  pub narrow_roots : (a : ℕ) (to : Option (List ℕ)) → NamesNodes (nodes_in kept) a to → find (is_wide_node (changed_nodes (nodes_in kept) a to)) (filter (has_none kept.before.lists) (sources_in (nodes_in kept) a)) ≡ None → wide_in (changed_nodes (nodes_in kept) a to) ≡ None
  narrow_roots a to change none = sym (find_wide_source (nodes_in kept) a to ok.lawful change) ∙ find-None (is_wide_node (changed_nodes (nodes_in kept) a to)) (sources_in (nodes_in kept) a) (λ x c.
      let h = (Contains-sources (next_of_node (nodes_in kept)) (length (nodes_in kept)) a ok.lawful.closed x).0 c in
      narrow x h.0 h.1 (root_above (length (sources_in (nodes_in kept) x)) x (omega arith) h.0))
    where
      narrow : (x : ℕ) → x < length (nodes_in kept) → Leads (next_of_node (nodes_in kept)) x a → HasRoot x → is_wide_node (changed_nodes (nodes_in kept) a to) x ≡ false
      narrow x lt l r =
          let source = (Contains-sources (next_of_node (nodes_in kept)) (length (nodes_in kept)) a ok.lawful.closed r.root).1 (r.below, Leads-trans r.leads l) in
          let kept_root = (Contains-filter (has_none kept.before.lists) r.root (sources_in (nodes_in kept) a)).1 (source, r.bare) in
          let few = ltb-false MOST_ENDS (length (ends_in (changed_nodes (nodes_in kept) a to) r.root)) (find-none_at (is_wide_node (changed_nodes (nodes_in kept) a to)) (filter (has_none kept.before.lists) (sources_in (nodes_in kept) a)) r.root none kept_root) in
          le-ltb MOST_ENDS (length (ends_in (changed_nodes (nodes_in kept) a to) x)) (omega (arith, few, fewer_than_above (nodes_in kept) a to ok.lawful change r.root x r.below lt r.leads l))

-- ---- lemmas in the form that the proofs of functions need

pub roots_below : (n : ℕ) (p : ℕ → Bool) (sources roots : List ℕ) → All (λ x. x < n) sources → roots ≡ filter p sources → All (λ x. x < n) roots
roots_below n p sources roots all e = subst (All (λ x. x < n)) (sym e) (All-below (filter p sources) n (λ x c. All-contains (λ y. y < n) sources x all ((Contains-filter p x sources).0 c).0))

pub none_found : (found : Option ℕ) → is_some found ≡ false → found ≡ None
none_found None e = refl
none_found (Some x) e = absurd cc
