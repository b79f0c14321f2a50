-- Lemmas: what a change of a node, or the addition of a node, leaves unchanged.
use Rattle.std.proofs.Common.{◌≡◌, ◌≢◌, ◌↔◌, ℕ, ◌<◌, true, List, [], ◌∷◌, ◌++◌, length, sym, ap, subst, ◌∙◌, inl, inr, arith, Option, None}
use Rattle.std.specs.List.{Contains}
use Rattle.std.specs.List.Sorted.{IsStrictlyIncreasing}
use Rattle.std.proofs.lemmas.List.{length-set, length_push}
use Rattle.list_pool.proofs.SlotReads.{slice_get_push, slice_get-push_other}
use Rattle.deprecation_graph.specs.Paths.{Leads, IsClosed}
use Rattle.deprecation_graph.specs.Graph.{Node, active_or_not, next_of_node, active_in, chain_in, ends_in, sources_in, node_of, changed_nodes, NamesNodes, IsLawfulGraph}
use Rattle.deprecation_graph.specs.Laws.{IsUntouched, ChangesAreLocal, SourcesStay, AdditionsAreLocal, AdditionsAreAlone}
use Rattle.deprecation_graph.proofs.Rising.{same_rising, Contains-cases}
use Rattle.deprecation_graph.proofs.PathLemmas.{Leads-below, Leads-self}
use Rattle.deprecation_graph.proofs.ChainLemmas.{Contains-chain, Contains-ends, Contains-sources, chain_rising, ends_rising, sources_rising}
use Rattle.deprecation_graph.proofs.ChangeLemmas.{others_alike, source_before}
use Rattle.deprecation_graph.proofs.GraphLemmas.{next_in-other, closed_after, same_ends, same_next, closed_push, leads_alone}

module _ (nodes : List Node) (a : ℕ) (to : Option (List ℕ)) (ok : IsLawfulGraph nodes) (change : NamesNodes nodes a to) where
  closed_now : IsClosed (next_of_node (changed_nodes nodes a to)) (length (changed_nodes nodes a to))
  closed_now = subst (IsClosed (next_of_node (changed_nodes nodes a to))) (sym (length-set nodes a (node_of to))) (closed_after nodes a to ok change)

  same_chain : (x : ℕ) → x < length nodes → (Leads (next_of_node nodes) x a → ⊥) → chain_in (changed_nodes nodes a to) x ≡ chain_in nodes x
  same_chain x lt away = same_rising (chain_in (changed_nodes nodes a to) x) (chain_in nodes x) (chain_rising (next_of_node (changed_nodes nodes a to)) (length (changed_nodes nodes a to)) x) (chain_rising (next_of_node nodes) (length nodes) x) (λ y.
      let alike = others_alike (next_of_node nodes) (next_of_node (changed_nodes nodes a to)) a (next_in-other nodes a to) x y away in
      let new = Contains-chain (next_of_node (changed_nodes nodes a to)) (length (changed_nodes nodes a to)) x closed_now (omega (arith, length-set nodes a (node_of to))) y in
      let old = Contains-chain (next_of_node nodes) (length nodes) x ok.closed lt y in
      (λ c. old.1 (alike.1 (new.0 c)), λ c. new.1 (alike.0 (old.0 c))))

  untouched : (x : ℕ) → x < length nodes → (Contains (sources_in nodes a) x → ⊥) → IsUntouched nodes (changed_nodes nodes a to) x
  untouched x lt away =
      let no_way : Leads (next_of_node nodes) x a → ⊥ = λ l. away ((Contains-sources (next_of_node nodes) (length nodes) a ok.closed x).1 (lt, l)) in
      record { chain = same_chain x lt no_way; ends = same_ends nodes a to ok change x lt no_way }

  -- numbers other than a have the same successors before the change as after it
  back : (x : ℕ) → x ≢ a → next_of_node nodes x ≡ next_of_node (changed_nodes nodes a to) x
  back x ne = sym (next_in-other nodes a to x ne)

  sources_stay : sources_in (changed_nodes nodes a to) a ≡ sources_in nodes a
  sources_stay = same_rising (sources_in (changed_nodes nodes a to) a) (sources_in nodes a) (sources_rising (next_of_node (changed_nodes nodes a to)) (length (changed_nodes nodes a to)) a) (sources_rising (next_of_node nodes) (length nodes) a) (λ x.
      let same = length-set nodes a (node_of to) in
      let new = Contains-sources (next_of_node (changed_nodes nodes a to)) (length (changed_nodes nodes a to)) a closed_now x in
      let old = Contains-sources (next_of_node nodes) (length nodes) a ok.closed x in (
        λ c. let h = new.0 c in old.1 (omega (arith, h.0, same), source_before (next_of_node nodes) (next_of_node (changed_nodes nodes a to)) a (next_in-other nodes a to) x h.1),
        λ c. let h = old.0 c in new.1 (omega (arith, h.0, same), source_before (next_of_node (changed_nodes nodes a to)) (next_of_node nodes) a back x h.1),
      ))

pub changes_are_local_law : ChangesAreLocal
changes_are_local_law nodes a to ok change x lt away = untouched nodes a to ok change x lt away

pub sources_stay_law : SourcesStay
sources_stay_law nodes a to ok change = sources_stay nodes a to ok change

module _ (nodes : List Node) (ok : IsLawfulGraph nodes) where
  closed_more : IsClosed (next_of_node (nodes ++ node_of None ∷ [])) (length (nodes ++ node_of None ∷ []))
  closed_more = subst (λ (next : ℕ → List ℕ). IsClosed next (length (nodes ++ node_of None ∷ []))) (sym (same_next nodes)) (closed_push nodes ok)

  leads_old : (x y : ℕ) → Leads (next_of_node (nodes ++ node_of None ∷ [])) x y → Leads (next_of_node nodes) x y
  leads_old x y l = subst (λ (next : ℕ → List ℕ). Leads next x y) (same_next nodes) l

  leads_new : (x y : ℕ) → Leads (next_of_node nodes) x y → Leads (next_of_node (nodes ++ node_of None ∷ [])) x y
  leads_new x y l = subst (λ (next : ℕ → List ℕ). Leads next x y) (sym (same_next nodes)) l

  chain_more : (x y : ℕ) → x < length (nodes ++ node_of None ∷ []) → Contains (chain_in (nodes ++ node_of None ∷ []) x) y ↔ Leads (next_of_node (nodes ++ node_of None ∷ [])) x y
  chain_more x y lt = Contains-chain (next_of_node (nodes ++ node_of None ∷ [])) (length (nodes ++ node_of None ∷ [])) x closed_more lt y

  ends_more : (x y : ℕ) → x < length (nodes ++ node_of None ∷ []) → Contains (ends_in (nodes ++ node_of None ∷ []) x) y ↔ (Leads (next_of_node (nodes ++ node_of None ∷ [])) x y × (active_in (nodes ++ node_of None ∷ []) y ≡ true))
  ends_more x y lt = Contains-ends (next_of_node (nodes ++ node_of None ∷ [])) (active_in (nodes ++ node_of None ∷ [])) (length (nodes ++ node_of None ∷ [])) x closed_more lt y

  active_old : (y : ℕ) → y < length nodes → active_in (nodes ++ node_of None ∷ []) y ≡ active_in nodes y
  active_old y lt = ap active_or_not (slice_get-push_other nodes (node_of None) y (λ e. omega arith))

  more : (x : ℕ) → x < length nodes → x < length (nodes ++ node_of None ∷ [])
  more x lt = omega (arith, length_push nodes (node_of None))

  addition_untouched : (x : ℕ) → x < length nodes → IsUntouched nodes (nodes ++ node_of None ∷ []) x
  addition_untouched x lt = record {
    chain = same_rising (chain_in (nodes ++ node_of None ∷ []) x) (chain_in nodes x) (chain_rising (next_of_node (nodes ++ node_of None ∷ [])) (length (nodes ++ node_of None ∷ [])) x) (chain_rising (next_of_node nodes) (length nodes) x) (λ y.
        let old = Contains-chain (next_of_node nodes) (length nodes) x ok.closed lt y in
        let new = chain_more x y (more x lt) in
        (λ c. old.1 (leads_old x y (new.0 c)), λ c. new.1 (leads_new x y (old.0 c))));
    ends = same_rising (ends_in (nodes ++ node_of None ∷ []) x) (ends_in nodes x) (ends_rising (next_of_node (nodes ++ node_of None ∷ [])) (active_in (nodes ++ node_of None ∷ [])) (length (nodes ++ node_of None ∷ [])) x) (ends_rising (next_of_node nodes) (active_in nodes) (length nodes) x) (λ y.
        let old = Contains-ends (next_of_node nodes) (active_in nodes) (length nodes) x ok.closed lt y in
        let new = ends_more x y (more x lt) in (
          λ c. let h = new.0 c in let l = leads_old x y h.0 in old.1 (l, sym (active_old y (Leads-below ok.closed lt l)) ∙ h.1),
          λ c. let h = old.0 c in new.1 (leads_new x y h.0, active_old y (Leads-below ok.closed lt h.0) ∙ h.1),
        ));
  }

  last_in : length nodes < length (nodes ++ node_of None ∷ [])
  last_in = omega (arith, length_push nodes (node_of None))

  one_rising : (x : ℕ) → IsStrictlyIncreasing (x ∷ [])
  one_rising x = λ k lt. absurd (omega arith)

  in_one : (x y : ℕ) → Contains (x ∷ []) y → y ≡ x
  in_one x y c = elim (Contains-cases y x [] c) [ inl e ↦ e | inr d ↦ absurd (omega (arith, d.1)) ]

  addition_chain : chain_in (nodes ++ node_of None ∷ []) (length nodes) ≡ length nodes ∷ []
  addition_chain = same_rising (chain_in (nodes ++ node_of None ∷ []) (length nodes)) (length nodes ∷ []) (chain_rising (next_of_node (nodes ++ node_of None ∷ [])) (length (nodes ++ node_of None ∷ [])) (length nodes)) (one_rising (length nodes)) (λ y.
      let new = chain_more (length nodes) y last_in in (
        λ c. (0, omega arith, leads_alone nodes (length nodes) y (omega arith) (leads_old (length nodes) y (new.0 c))),
        λ c. new.1 (subst (Leads (next_of_node (nodes ++ node_of None ∷ [])) (length nodes)) (sym (in_one (length nodes) y c)) (Leads-self (length nodes))),
      ))

  addition_ends : ends_in (nodes ++ node_of None ∷ []) (length nodes) ≡ length nodes ∷ []
  addition_ends = same_rising (ends_in (nodes ++ node_of None ∷ []) (length nodes)) (length nodes ∷ []) (ends_rising (next_of_node (nodes ++ node_of None ∷ [])) (active_in (nodes ++ node_of None ∷ [])) (length (nodes ++ node_of None ∷ [])) (length nodes)) (one_rising (length nodes)) (λ y.
      let new = ends_more (length nodes) y last_in in (
        λ c. (0, omega arith, leads_alone nodes (length nodes) y (omega arith) (leads_old (length nodes) y (new.0 c).0)),
        λ c. subst (Contains (ends_in (nodes ++ node_of None ∷ []) (length nodes))) (sym (in_one (length nodes) y c)) ((ends_more (length nodes) (length nodes) last_in).1 (Leads-self (length nodes), ap active_or_not (slice_get_push nodes (node_of None)))),
      ))

pub additions_are_local_law : AdditionsAreLocal
additions_are_local_law nodes ok x lt = addition_untouched nodes ok x lt

pub additions_are_alone_law : AdditionsAreAlone
additions_are_alone_law nodes ok = (addition_chain nodes ok, addition_ends nodes ok)
