-- Lemmas: the nodes of a stored graph, by their marks and lists.
use Rattle.std.proofs.Common.{◌≡◌, ℕ, zero, suc, ◌<◌, Bool, true, false, List, [], ◌∷◌, ◌++◌, length, get_or, refl, sym, ap, subst, ◌∙◌, arith, slice_get, slice_set, Option, Some, None, is_none, cond, eqb, ◌⊎◌, inl, inr}
use Rattle.std.specs.List.{All, Contains, list_any, filter, find, range_with_len}
use Rattle.std.proofs.lemmas.Bool.{both_ways, cases_Bool, ltb-true}
use Rattle.std.specs.Option.{option_copied}
use Rattle.std.proofs.lemmas.List.{length-set}
use Rattle.deprecation_graph.specs.Paths.{HasEdge, Leads, IsClosed}
use Rattle.deprecation_graph.specs.declared.limits.TheConstants.{MOST_ENDS}
use Rattle.deprecation_graph.specs.Chains.{reaches, chain_of, sources_of, IsChain}
use Rattle.deprecation_graph.specs.Faults.{is_wide_node, wide_in}
use Rattle.deprecation_graph.specs.Graph.{Node, next_of_node, active_in, chain_in, ends_in, sources_in, successors, node_of, changed_nodes, NamesNodes, IsLawfulGraph}
use Rattle.deprecation_graph.proofs.Rising.{same_rising, Contains-rest, Contains-range}
use Rattle.deprecation_graph.proofs.ChainLemmas.{chain_is, chain_answer, Contains-sources, sources_rising, leads-reaches, reaches_apart}
use Rattle.deprecation_graph.proofs.GraphLemmas.{same_ends, closed_after, chain_below, All-below, successors_below}
use Rattle.deprecation_graph.proofs.PathLemmas.{Leads-self, Leads-then, Leads-back, Leads-below, Leads-first, Leads-last}
use Rattle.deprecation_graph.specs.declared.kept.KeptGraph.{KeptGraph}
use Rattle.deprecation_graph.specs.declared.kept.NodeChange.{NodeChange}
use Rattle.deprecation_graph.specs.Indexed.{list_of_node, has_none}
use Rattle.deprecation_graph.specs.Mirror.{IsMirror}
use Rattle.deprecation_graph.specs.Kept.{nodes_of, nodes_in, nodes_after, lists_after, marks_after, IsGraph}
use Rattle.deprecation_graph.proofs.MirrorLemmas.{mirror_other_side, mirror_this_side}

pub length-nodes_of : (marks : List Bool) (lists : List (List ℕ)) → length lists ≡ length marks → length (nodes_of marks lists) ≡ length marks
length-nodes_of [] lists e = refl
length-nodes_of (a ∷ marks) [] e = absurd (omega arith)
length-nodes_of (a ∷ marks) (xs ∷ lists) e = omega (arith, length-nodes_of marks lists (omega arith))

next_in-nodes : (marks : List Bool) (lists : List (List ℕ)) → length lists ≡ length marks → (x : ℕ) → next_of_node (nodes_of marks lists) x ≡ list_of_node lists x
next_in-nodes [] [] e x = refl
next_in-nodes [] (xs ∷ lists) e x = absurd (omega arith)
next_in-nodes (a ∷ marks) [] e x = absurd (omega arith)
next_in-nodes (a ∷ marks) (xs ∷ lists) e zero = refl
next_in-nodes (a ∷ marks) (xs ∷ lists) e (suc x) = next_in-nodes marks lists (omega arith) x

active_in-nodes : (marks : List Bool) (lists : List (List ℕ)) → length lists ≡ length marks → (x : ℕ) → active_in (nodes_of marks lists) x ≡ get_or marks x false
active_in-nodes [] lists e x = refl
active_in-nodes (a ∷ marks) [] e x = absurd (omega arith)
active_in-nodes (a ∷ marks) (xs ∷ lists) e zero = refl
active_in-nodes (a ∷ marks) (xs ∷ lists) e (suc x) = active_in-nodes marks lists (omega arith) x

pub set-nodes : (marks : List Bool) (lists : List (List ℕ)) (a : ℕ) (n : Node) → length lists ≡ length marks → slice_set (nodes_of marks lists) a n ≡ nodes_of (slice_set marks a n.active) (slice_set lists a n.next)
set-nodes [] lists a n e = refl
set-nodes (b ∷ marks) [] a n e = absurd (omega arith)
set-nodes (b ∷ marks) (xs ∷ lists) zero n e = refl
set-nodes (b ∷ marks) (xs ∷ lists) (suc a) n e = let rest = set-nodes marks lists a n (omega arith) in ap (λ (ns : List Node). record { active = b; next = xs } ∷ ns) rest

pub push-nodes : (marks : List Bool) (lists : List (List ℕ)) (b : Bool) (ys : List ℕ) → length lists ≡ length marks → nodes_of (marks ++ b ∷ []) (lists ++ ys ∷ []) ≡ nodes_of marks lists ++ record { active = b; next = ys } ∷ []
push-nodes [] [] b ys e = refl
push-nodes [] (xs ∷ lists) b ys e = absurd (omega arith)
push-nodes (a ∷ marks) [] b ys e = absurd (omega arith)
push-nodes (a ∷ marks) (xs ∷ lists) b ys e = ap (λ (ns : List Node). record { active = a; next = xs } ∷ ns) (push-nodes marks lists b ys (omega arith))

next_of : (to : Option (List ℕ)) → (node_of to).next ≡ successors to
next_of None = refl
next_of (Some ys) = refl

next_in-changed_nodes : (marks : List Bool) (lists : List (List ℕ)) (a : ℕ) (to : Option (List ℕ)) → length lists ≡ length marks → (x : ℕ) → next_of_node (changed_nodes (nodes_of marks lists) a to) x ≡ list_of_node (slice_set lists a (successors to)) x
next_in-changed_nodes marks lists a to e x =
    ap (λ (ns : List Node). next_of_node ns x) (set-nodes marks lists a (node_of to) e)
    ∙ next_in-nodes (slice_set marks a (node_of to).active) (slice_set lists a (node_of to).next) (length-set lists a (node_of to).next ∙ e ∙ sym (length-set marks a (node_of to).active)) x
    ∙ ap (λ (ys : List ℕ). list_of_node (slice_set lists a ys) x) (next_of to)

-- the successors of the nodes are those in the lists, before and after a change
pub same_steps : (kept : KeptGraph) (change : Option NodeChange) → length kept.next.lists ≡ length kept.active.items → next_of_node (nodes_after kept change) ≡ list_of_node (lists_after kept.next.lists change)
same_steps kept None e = λ i x. next_in-nodes kept.active.items kept.next.lists e x i
same_steps kept (Some c) e = λ i x. next_in-changed_nodes kept.active.items kept.next.lists c.node (option_copied c.next) e x i

pub length-nodes_after : (kept : KeptGraph) (change : Option NodeChange) → length kept.next.lists ≡ length kept.active.items → length (nodes_after kept change) ≡ length kept.active.items
length-nodes_after kept None e = length-nodes_of kept.active.items kept.next.lists e
length-nodes_after kept (Some c) e = length-set (nodes_in kept) c.node _ ∙ length-nodes_of kept.active.items kept.next.lists e

-- ---- paths along the predecessors

-- if a path leads from a to b along the successors, a path leads from b to a along the predecessors
pub leads_backwards : (next before : List (List ℕ)) → IsMirror next before → {a b : ℕ} → Leads (list_of_node next) a b → Leads (list_of_node before) b a
leads_backwards next before m {a} {b} l = Leads-back (λ x. Leads (list_of_node before) b x) (Leads-self b) (λ x y edge _ r. Leads-then r (mirror_other_side next before x y m edge)) l

pub leads_forwards : (next before : List (List ℕ)) → IsMirror next before → {a b : ℕ} → Leads (list_of_node before) b a → Leads (list_of_node next) a b
leads_forwards next before m {a} {b} l = Leads-back (λ x. Leads (list_of_node next) a x) (Leads-self a) (λ x y edge _ r. Leads-then r (mirror_this_side next before y x m edge)) l

active_of : (to : Option (List ℕ)) → (node_of to).active ≡ is_none to
active_of None = refl
active_of (Some ys) = refl

active_in-changed_nodes : (marks : List Bool) (lists : List (List ℕ)) (a : ℕ) (to : Option (List ℕ)) → length lists ≡ length marks → (x : ℕ) → active_in (changed_nodes (nodes_of marks lists) a to) x ≡ get_or (slice_set marks a (is_none to)) x false
active_in-changed_nodes marks lists a to e x =
    ap (λ (ns : List Node). active_in ns x) (set-nodes marks lists a (node_of to) e)
    ∙ active_in-nodes (slice_set marks a (node_of to).active) (slice_set lists a (node_of to).next) (length-set lists a (node_of to).next ∙ e ∙ sym (length-set marks a (node_of to).active)) x
    ∙ ap (λ (b : Bool). get_or (slice_set marks a b) x false) (active_of to)

-- a node is active exactly if its mark is true, before and after a change
pub same_marks : (kept : KeptGraph) (change : Option NodeChange) → length kept.next.lists ≡ length kept.active.items → active_in (nodes_after kept change) ≡ (λ x. get_or (marks_after kept.active.items change) x false)
same_marks kept None e = λ i x. active_in-nodes kept.active.items kept.next.lists e x i
same_marks kept (Some c) e = λ i x. active_in-changed_nodes kept.active.items kept.next.lists c.node (option_copied c.next) e x i

-- ---- what a search finds

pub closed_lists : (kept : KeptGraph) (change : Option NodeChange) → IsGraph kept → IsClosed (next_of_node (nodes_after kept change)) (length kept.active.items) → IsClosed (list_of_node (lists_after kept.next.lists change)) (length kept.next.lists)
closed_lists kept change ok closed = subst (λ (n : ℕ). IsClosed (list_of_node (lists_after kept.next.lists change)) n) (sym ok.next) (subst (λ (next : ℕ → List ℕ). IsClosed next (length kept.active.items)) (same_steps kept change ok.next) closed)

pub kept_chain : (kept : KeptGraph) (change : Option NodeChange) (a : ℕ) (found : List ℕ) → IsGraph kept → IsClosed (next_of_node (nodes_after kept change)) (length kept.active.items) → a < length kept.active.items → IsChain (list_of_node (lists_after kept.next.lists change)) a found → found ≡ chain_in (nodes_after kept change) a
kept_chain kept change a found ok closed lt h =
    chain_is (list_of_node (lists_after kept.next.lists change)) (length kept.next.lists) a found (closed_lists kept change ok closed) (omega (arith, ok.next)) h
    ∙ ap (λ (n : ℕ). chain_of (list_of_node (lists_after kept.next.lists change)) n a) (ok.next ∙ sym (length-nodes_after kept change ok.next))
    ∙ ap (λ (next : ℕ → List ℕ). chain_of next (length (nodes_after kept change)) a) (sym (same_steps kept change ok.next))

pub kept_ends : (kept : KeptGraph) (change : Option NodeChange) (a : ℕ) (chain : List ℕ) → IsGraph kept → chain ≡ chain_in (nodes_after kept change) a → filter (λ x. get_or (marks_after kept.active.items change) x false) chain ≡ ends_in (nodes_after kept change) a
kept_ends kept change a chain ok e =
    ap (λ (p : ℕ → Bool). filter p chain) (sym (same_marks kept change ok.next)) ∙ ap (filter (active_in (nodes_after kept change))) e

pub list_within : (lists : List (List ℕ)) (a x : ℕ) → Contains (list_of_node lists a) x → a < length lists
list_within [] a x c = absurd (omega (arith, c.1))
list_within (xs ∷ lists) zero x c = omega arith
list_within (xs ∷ lists) (suc a) x c = omega (arith, list_within lists a x c)

pub closed_before : (kept : KeptGraph) → IsGraph kept → IsClosed (list_of_node kept.before.lists) (length kept.before.lists)
closed_before kept ok a b lt edge = omega (arith, ok.next, ok.before, list_within kept.next.lists b a (mirror_this_side kept.next.lists kept.before.lists b a ok.mirror edge))

pub kept_sources : (kept : KeptGraph) (a : ℕ) (found : List ℕ) → IsGraph kept → a < length kept.active.items → IsChain (list_of_node kept.before.lists) a found → found ≡ sources_in (nodes_in kept) a
kept_sources kept a found ok lt h =
    let count : length (nodes_in kept) ≡ length kept.active.items = length-nodes_of kept.active.items kept.next.lists ok.next in
    let steps = same_steps kept None ok.next in
    same_rising found (sources_in (nodes_in kept) a) h.rising (sources_rising (next_of_node (nodes_in kept)) (length (nodes_in kept)) a) (λ x.
    let members = Contains-sources (next_of_node (nodes_in kept)) (length (nodes_in kept)) a ok.lawful.closed x in (
      λ c.
          let l = (h.members x).0 c in
          members.1 (omega (arith, Leads-below (closed_before kept ok) (omega (arith, ok.before)) l, ok.before, count), subst (λ (next : ℕ → List ℕ). Leads next x a) (sym steps) (leads_forwards kept.next.lists kept.before.lists ok.mirror l)),
      λ c.
          let m = members.0 c in
          (h.members x).1 (leads_backwards kept.next.lists kept.before.lists ok.mirror (subst (λ (next : ℕ → List ℕ). Leads next x a) steps m.1)),
    ))

-- b is among the found numbers exactly if `reaches` is true
pub kept_answer : (kept : KeptGraph) (a b : ℕ) (found : List ℕ) → IsGraph kept → a < length kept.active.items → IsChain (list_of_node kept.next.lists) a found → list_any (λ x. eqb x b) found ≡ reaches (next_of_node (nodes_in kept)) (length (nodes_in kept)) a b
kept_answer kept a b found ok lt h =
    chain_answer (next_of_node (nodes_in kept)) (length (nodes_in kept)) a b found ok.lawful.closed (omega (arith, length-nodes_of kept.active.items kept.next.lists ok.next)) (subst (λ (next : ℕ → List ℕ). IsChain next a found) (sym (same_steps kept None ok.next)) h)

-- ---- a node without successors, or without predecessors

nothing_in : (xs : List ℕ) (x : ℕ) → is_none (slice_get xs 0) ≡ true → Contains xs x → ⊥
nothing_in [] x e c = omega (arith, c.1)
nothing_in (y ∷ ys) x e c = absurd cc

no_successor : (kept : KeptGraph) (a : ℕ) → IsGraph kept → has_none kept.next.lists a ≡ true → (y : ℕ) → HasEdge (next_of_node (nodes_in kept)) a y → ⊥
no_successor kept a ok e y edge = nothing_in (list_of_node kept.next.lists a) y e (subst (λ (next : ℕ → List ℕ). HasEdge next a y) (same_steps kept None ok.next) edge)

pub no_predecessor : (kept : KeptGraph) (a : ℕ) → IsGraph kept → has_none kept.before.lists a ≡ true → (x : ℕ) → HasEdge (next_of_node (nodes_in kept)) x a → ⊥
no_predecessor kept a ok e x edge =
    nothing_in (list_of_node kept.before.lists a) x e (mirror_other_side kept.next.lists kept.before.lists x a ok.mirror (subst (λ (next : ℕ → List ℕ). HasEdge next x a) (same_steps kept None ok.next) edge))

pub kept_apart : (kept : KeptGraph) (a b : ℕ) → IsGraph kept → (has_none kept.next.lists a ≡ true) ⊎ (has_none kept.before.lists b ≡ true) → reaches (next_of_node (nodes_in kept)) (length (nodes_in kept)) a b ≡ eqb a b
kept_apart kept a b ok (inl e) = reaches_apart (next_of_node (nodes_in kept)) (length (nodes_in kept)) a b (Leads-last (no_successor kept a ok e))
kept_apart kept a b ok (inr e) = reaches_apart (next_of_node (nodes_in kept)) (length (nodes_in kept)) a b (Leads-first (no_predecessor kept b ok e))

-- ---- the least node with too many ends is a source of the changed node

find-filter : (p q : ℕ → Bool) (xs : List ℕ) → ((x : ℕ) → Contains xs x → p x ≡ true → q x ≡ true) → find p (filter q xs) ≡ find p xs
find-filter p q [] h = refl
find-filter p q (x ∷ xs) h = go (q x) (p x) refl refl (find-filter p q xs (λ y c. h y (Contains-rest y x xs c)))
  where
    go : (b c : Bool) → q x ≡ b → p x ≡ c → find p (filter q xs) ≡ find p xs → find p (cond b (x ∷ filter q xs) (filter q xs)) ≡ cond c (Some x) (find p xs)
    go true true e f r = ap (λ (t : Bool). cond t (Some x) (find p (filter q xs))) f
    go true false e f r = ap (λ (t : Bool). cond t (Some x) (find p (filter q xs))) f ∙ r
    go false true e f r = absurd (both_ways (q x) e (h x (0, omega arith, refl) f))
    go false false e f r = r

pub find_wide_source : (nodes : List Node) (a : ℕ) (to : Option (List ℕ)) → IsLawfulGraph nodes → NamesNodes nodes a to → find (is_wide_node (changed_nodes nodes a to)) (sources_in nodes a) ≡ wide_in (changed_nodes nodes a to)
unfolding sources_of
find_wide_source nodes a to ok change =
    find-filter (is_wide_node (changed_nodes nodes a to)) (λ x. reaches (next_of_node nodes) (length nodes) x a) (range_with_len 0 (length nodes)) (λ x c wide. source x ((Contains-range (length nodes) x).0 c) wide (cases_Bool (reaches (next_of_node nodes) (length nodes) x a)))
    ∙ ap (λ (n : ℕ). find (is_wide_node (changed_nodes nodes a to)) (range_with_len 0 n)) (sym (length-set nodes a (node_of to)))
  where
    source : (x : ℕ) → x < length nodes → is_wide_node (changed_nodes nodes a to) x ≡ true → (reaches (next_of_node nodes) (length nodes) x a ≡ true) ⊎ (reaches (next_of_node nodes) (length nodes) x a ≡ false) → reaches (next_of_node nodes) (length nodes) x a ≡ true
    source x lt wide (inl e) = e
    source x lt wide (inr e) =
        let same = same_ends nodes a to ok change x lt (λ l. both_ways (reaches (next_of_node nodes) (length nodes) x a) e (leads-reaches (next_of_node nodes) (length nodes) x a ok.closed lt l)) in
        absurd (omega (arith, ltb-true MOST_ENDS (length (ends_in (changed_nodes nodes a to) x)) wide, ap length same, ok.narrow x lt))

-- ---- lemmas in the form that the proofs of functions need

pub kept_closed : (kept : KeptGraph) → IsGraph kept → IsClosed (next_of_node (nodes_in kept)) (length kept.active.items)
kept_closed kept ok = subst (IsClosed (next_of_node (nodes_in kept))) (length-nodes_of kept.active.items kept.next.lists ok.next) ok.lawful.closed

pub kept_change : (kept : KeptGraph) (a : ℕ) (to : Option (List ℕ)) → IsGraph kept → NamesNodes (nodes_in kept) a to → IsClosed (next_of_node (changed_nodes (nodes_in kept) a to)) (length kept.active.items)
kept_change kept a to ok change = subst (IsClosed (next_of_node (changed_nodes (nodes_in kept) a to))) (length-nodes_of kept.active.items kept.next.lists ok.next) (closed_after (nodes_in kept) a to ok.lawful change)

pub kept_chain_below : (kept : KeptGraph) (change : Option NodeChange) (a : ℕ) (marks : List Bool) (chain : List ℕ) → IsGraph kept → IsClosed (next_of_node (nodes_after kept change)) (length kept.active.items) → a < length kept.active.items → marks ≡ kept.active.items → chain ≡ chain_in (nodes_after kept change) a → All (λ x. x < length marks) chain
kept_chain_below kept change a marks chain ok closed lt e f =
    subst (λ (m : List Bool). All (λ x. x < length m) chain) (sym e) (subst (All (λ x. x < length kept.active.items)) (sym f)
    (subst (λ (n : ℕ). All (λ x. x < length kept.active.items) (chain_of (next_of_node (nodes_after kept change)) n a)) (sym (length-nodes_after kept change ok.next)) (chain_below (next_of_node (nodes_after kept change)) (length kept.active.items) a closed lt)))

pub kept_ends_read : (kept : KeptGraph) (change : Option NodeChange) (a : ℕ) (marks : List Bool) (chain ends : List ℕ) → IsGraph kept → marks ≡ kept.active.items → chain ≡ chain_in (nodes_after kept change) a → ends ≡ filter (λ x. get_or (marks_after marks change) x false) chain → ends ≡ ends_in (nodes_after kept change) a
kept_ends_read kept change a marks chain ends ok e f g = g ∙ ap (λ (m : List Bool). filter (λ x. get_or (marks_after m change) x false) chain) e ∙ kept_ends kept change a chain ok f

pub kept_sources_below : (kept : KeptGraph) (a : ℕ) (sources : List ℕ) → IsGraph kept → sources ≡ sources_in (nodes_in kept) a → All (λ x. x < length kept.active.items) sources
kept_sources_below kept a sources ok e = subst (All (λ x. x < length kept.active.items)) (sym e) (All-below (sources_in (nodes_in kept) a) (length kept.active.items) (λ x c. omega (arith, ((Contains-sources (next_of_node (nodes_in kept)) (length (nodes_in kept)) a ok.lawful.closed x).0 c).0, length-nodes_of kept.active.items kept.next.lists ok.next)))

pub kept_successors : (kept : KeptGraph) (a : ℕ) (to : Option (List ℕ)) (xs : List ℕ) → IsGraph kept → NamesNodes (nodes_in kept) a to → xs ≡ successors to → All (λ x. x < length kept.active.items) xs
kept_successors kept a to xs ok change e = subst (λ (n : ℕ). All (λ x. x < n) xs) (length-nodes_of kept.active.items kept.next.lists ok.next) (successors_below (nodes_in kept) a to xs change e)

pub one_below : (a n : ℕ) → a < n → All (λ x. x < n) (a ∷ [])
one_below a n lt zero d h = lt
one_below a n lt (suc k) d h = absurd (omega arith)
