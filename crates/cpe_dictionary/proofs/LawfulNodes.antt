-- Lemmas: a dictionary is lawful exactly if its nodes are a lawful graph.
use Rattle.std.proofs.Common.{◌≡◌, ◌↔◌, ℕ, zero, suc, ◌<◌, ◌≤◌, Bool, true, false, is_none, IsTrue, List, [], ◌∷◌, length, refl, sym, ap, subst, ◌∙◌, inl, inr, arith, Option, Some, None, slice_get}
use Rattle.std.specs.List.{Contains, list_all, list_any}
use Rattle.std.specs.Option.{option_map, option_map_or}
use Rattle.std.proofs.lemmas.Bool.{and_parts, false_from_ne_true, le-ltb, ltb-false, or_cases, or_from, or_left, or_parts, or_right, true≢false}
use Rattle.std.proofs.lemmas.List.{length-map}
use Rattle.std.proofs.lemmas.Option.{none-some, same_Some, slice_get-map, slice_get_within}
use Rattle.cpe_rows.specs.cpe_name.Eleven.{Values}
use Rattle.cpe_rows.specs.Chains.{ends, is_successor, leads_to, successors_of}
use Rattle.cpe_rows.specs.Lawful.{has_successors, is_cyclic, IsDictionary}
use Rattle.cpe_rows.specs.Limits.{is_wide}
use Rattle.cpe_rows.specs.Names.{is_same}
use Rattle.cpe_rows.specs.Reach.{Among}
use Rattle.cpe_rows.specs.Rows.{is_named}
use Rattle.cpe_rows.specs.declared.entry.Deprecation.{Deprecation}
use Rattle.cpe_rows.specs.declared.entry.Entry.{Entry}
use Rattle.cpe_rows.specs.declared.limits.TheConstants.{MOST_ENDS}
use Rattle.cpe_rows.proofs.Lists.{each_element, no_element}
use Rattle.deprecation_graph.specs.Chains.{ends_of_node}
use Rattle.deprecation_graph.specs.Graph.{active_in, active_or_not, ends_in, IsLawfulGraph, next_of_node, next_or_none, Node}
use Rattle.deprecation_graph.specs.Laws.{ChainsArePaths}
use Rattle.deprecation_graph.specs.Paths.{IsAcyclic, IsClosed, Leads}
use Rattle.deprecation_graph.specs.declared.limits.TheConstants.{MOST_NODES}
use Rattle.cpe_dictionary.specs.Faults.{AreDifferent}
use Rattle.cpe_dictionary.specs.Numbers.{AreNumberedEntries, node_of_entry, nodes_of_entries, NodesAreMarked, NodesAreNumbered, numbers_of, PathsByNumber, WidthsByNumber}
use Rattle.cpe_dictionary.proofs.Numbering.{entry_at}
use Rattle.cpe_dictionary.proofs.Places.{placed}

-- ---- tests of entries, by their places

pub none_from_each : (p : Entry → Bool) (es : List Entry) → ((k : ℕ) (e : Entry) → slice_get es k ≡ Some e → p e ≡ false) → list_any p es ≡ false
none_from_each p [] h = refl
none_from_each p (e ∷ es) h = or_from (p e) (list_any p es) (h 0 e refl) (none_from_each p es (λ k x at. h (suc k) x at))

pub none_at : (p : Entry → Bool) (es : List Entry) (k : ℕ) (e : Entry) → list_any p es ≡ false → slice_get es k ≡ Some e → p e ≡ false
none_at p [] k e h at = absurd (none-some e at)
none_at p (x ∷ xs) zero e h at = ap p (sym (same_Some x e at)) ∙ (or_parts (p x) (list_any p xs) h).0
none_at p (x ∷ xs) (suc k) e h at = none_at p xs k e (or_parts (p x) (list_any p xs) h).1 at

all_at : (p : Entry → Bool) (es : List Entry) (k : ℕ) (e : Entry) → list_all p es ≡ true → slice_get es k ≡ Some e → p e ≡ true
all_at p [] k e h at = absurd (none-some e at)
all_at p (x ∷ xs) zero e h at = ap p (sym (same_Some x e at)) ∙ (and_parts (p x) (list_all p xs) h).0
all_at p (x ∷ xs) (suc k) e h at = all_at p xs k e (and_parts (p x) (list_all p xs) h).1 at

-- ---- names in a list of names

module _ (same : (a b : Values) → IsTrue (is_same a b) ↔ (a ≡ b)) where
  one_of : (n : Values) (ns : List Values) → Among ns n → list_any (is_same n) ns ≡ true
  one_of n [] m = absurd m
  one_of n (x ∷ xs) (inl e) = or_left (is_same n x) (list_any (is_same n) xs) ((same n x).1 (sym e))
  one_of n (x ∷ xs) (inr m) = or_right (is_same n x) (list_any (is_same n) xs) (one_of n xs m)

  passes_one : (p : Values → Bool) (n : Values) (ns : List Values) → list_any (is_same n) ns ≡ true → p n ≡ true → list_any p ns ≡ true
  passes_one p n [] h t = absurd (true≢false (sym h))
  passes_one p n (x ∷ xs) h t = elim (or_cases (is_same n x) (list_any (is_same n) xs) h) [
    | inl is ↦ or_left (p x) (list_any p xs) (ap p (sym ((same n x).0 is)) ∙ t)
    | inr later ↦ or_right (p x) (list_any p xs) (passes_one p n xs later t)
  ]

-- ---- entries and their nodes

module _ (same : (a b : Values) → IsTrue (is_same a b) ↔ (a ≡ b)) (chains : ChainsArePaths) (numbered : NodesAreNumbered) (marked : NodesAreMarked) (paths : PathsByNumber) (widths : WidthsByNumber)
    (es : List Entry) (different : AreDifferent es) where
  abbrev nodes : List Node
  nodes = nodes_of_entries es

  count : length nodes ≡ length es
  count = length-map es (node_of_entry es)

  are : AreNumberedEntries es (next_of_node nodes)
  are = numbered es different

  node_at : (k : ℕ) → slice_get nodes k ≡ option_map (node_of_entry es) (slice_get es k)
  node_at k = slice_get-map (node_of_entry es) es k

  -- a path leads from one number to another exactly if the entry of the first leads to that of the second
  led : (j k : ℕ) (y e : Entry) → slice_get es j ≡ Some y → slice_get es k ≡ Some e → IsTrue (leads_to es y.name e.name) ↔ Leads (next_of_node nodes) j k
  led j k y e there here =
      let by = paths es (next_of_node nodes) j k y e are there here in
      let reached = (chains (next_of_node nodes) (λ i. true) (length es) j are.closed (slice_get_within es j y there)).reached k in
      (λ h. reached.0 (sym by ∙ h), λ l. by ∙ reached.1 l)

  same_width : (k : ℕ) (e : Entry) → slice_get es k ≡ Some e → length (ends es e.name) ≡ length (ends_in nodes k)
  same_width k e here =
      widths es (next_of_node nodes) (active_in nodes) k e are (marked es) here
      ∙ ap (λ (c : ℕ). length (ends_of_node (next_of_node nodes) (active_in nodes) c k)) (sym count)

  -- ---- from nodes to entries

  module _ (known : list_all (has_successors es) es ≡ true) (acyclic : IsAcyclic (next_of_node nodes)) where
    uncyclic : (k : ℕ) (e : Entry) → slice_get es k ≡ Some e → is_cyclic es e ≡ false
    uncyclic k e here = no_element (λ s. leads_to es s e.name) (successors_of e) (λ s m. back s m)
      where
        back : (s : Values) → Among (successors_of e) s → leads_to es s e.name ≡ false
        back s m =
            let y = placed (is_named s) es (each_element (λ (n : Values). list_any (is_named n) es) (successors_of e) (all_at (has_successors es) es k e known here) s m) in
            let name : s ≡ y.entry.name = (same s y.entry.name).0 y.passes in
            let edge = (are.edges k y.place e y.entry here y.at).0 (one_of same y.entry.name (successors_of e) (subst (Among (successors_of e)) name m)) in
            false_from_ne_true (leads_to es s e.name) (λ t. acyclic k y.place edge ((led y.place k y.entry e y.at here).0 (ap (λ (n : Values). leads_to es n e.name) (sym name) ∙ t)))

    pub no_cycle : list_any (is_cyclic es) es ≡ false
    no_cycle = none_from_each (is_cyclic es) es uncyclic

  pub no_wide : ((k : ℕ) → k < length nodes → length (ends_in nodes k) ≤ MOST_ENDS) → list_any (is_wide es) es ≡ false
  no_wide narrow = none_from_each (is_wide es) es (λ k e here. le-ltb MOST_ENDS (length (ends es e.name)) (one k e here))
    where
      one : (k : ℕ) (e : Entry) → slice_get es k ≡ Some e → length (ends es e.name) ≤ MOST_ENDS
      one k e here =
          let within = slice_get_within es k e here in
          omega (arith, same_width k e here, narrow k (omega (arith, within, count)))

  -- ---- from entries to nodes

  closed : IsClosed (next_of_node nodes) (length nodes)
  closed a b lt edge = let below = are.closed a b (omega (arith, lt, count)) edge in omega (arith, below, count)

  bare_node : (e : Entry) → is_none e.deprecation ≡ true → numbers_of es (successors_of e) ≡ []
  bare_node e h = go e.deprecation h
    where
      go : (o : Option Deprecation) → is_none o ≡ true → numbers_of es (option_map_or (λ (d : Deprecation). d.successors) o []) ≡ []
      go None t = refl
      go (Some d) t = absurd (true≢false (sym t))

  bare : (a : ℕ) → IsTrue (active_in nodes a) → next_of_node nodes a ≡ []
  bare a h = ap next_or_none (node_at a) ∙ go (slice_get es a) (sym (ap active_or_not (node_at a)) ∙ h)
    where
      go : (o : Option Entry) → active_or_not (option_map (node_of_entry es) o) ≡ true → next_or_none (option_map (node_of_entry es) o) ≡ []
      go None t = refl
      go (Some e) t = bare_node e t

  nothing_in : (b : ℕ) → Contains [] b → ⊥
  nothing_in b c = let within = c.1 in absurd (omega arith)

  acyclic_nodes : list_any (is_cyclic es) es ≡ false → IsAcyclic (next_of_node nodes)
  acyclic_nodes none a b edge leads = go (slice_get es a) refl
    where
      go : (o : Option Entry) → slice_get es a ≡ o → ⊥
      go None at = nothing_in b (subst (λ (xs : List ℕ). Contains xs b) (ap next_or_none (node_at a ∙ ap (option_map (node_of_entry es)) at)) edge)
      go (Some e) at =
          let y = entry_at es b (are.closed a b (slice_get_within es a e at) edge) in
          let succeeds : is_successor e y.0 ≡ true = (are.edges a b e y.0 at y.1).1 edge in
          let back : leads_to es y.0.name e.name ≡ true = (led b a y.0 e y.1 at).1 leads in
          true≢false (sym (passes_one same (λ s. leads_to es s e.name) y.0.name (successors_of e) succeeds back) ∙ none_at (is_cyclic es) es a e none at)

  narrow_nodes : list_any (is_wide es) es ≡ false → (k : ℕ) → k < length nodes → length (ends_in nodes k) ≤ MOST_ENDS
  narrow_nodes none k lt =
      let e = entry_at es k (omega (arith, lt, count)) in
      let few = ltb-false MOST_ENDS (length (ends es e.0.name)) (none_at (is_wide es) es k e.0 none e.1) in
      omega (arith, few, same_width k e.0 e.1)

  pub lawful_nodes : IsDictionary es → length es ≤ MOST_NODES → IsLawfulGraph nodes
  lawful_nodes d few = record {
    few = omega (arith, few, count);
    closed = closed;
    bare = bare;
    acyclic = acyclic_nodes d.no_cycle;
    narrow = narrow_nodes d.no_wide;
  }
