-- Lemmas: the groups of a node and of its new successors bound the number of its ends after the change.
use Rattle.std.proofs.Common.{◌≡◌, ◌⊎◌, ℕ, zero, suc, ◌+◌, ◌<◌, ◌≤◌, eqb, eq-eqb, not, Bool, true, false, cond, List, [], ◌∷◌, ◌++◌, length, get_or, refl, sym, ap, subst, ◌∙◌, inl, inr, arith, Option, None}
use Rattle.std.specs.List.{Contains, filter, range_with_len, sum_by}
use Rattle.std.proofs.lemmas.Bool.{cases_eq, cases_Bool, both_ways, le-ltb, or_cases}
use Rattle.std.proofs.lemmas.List.{length-set}
use Rattle.std.proofs.lemmas.List.Elements.{Contains-append_cases}
use Rattle.std.proofs.lemmas.List.Sums.{sum_by-cons}
use Rattle.deprecation_graph.specs.declared.limits.TheConstants.{MOST_ENDS}
use Rattle.deprecation_graph.specs.declared.kept.KeptGraph.{KeptGraph}
use Rattle.deprecation_graph.specs.declared.groups.GroupMember.{GroupMember}
use Rattle.deprecation_graph.specs.Paths.{HasEdge, Leads}
use Rattle.deprecation_graph.specs.Chains.{reaches}
use Rattle.deprecation_graph.specs.Faults.{is_wide_node, wide_in}
use Rattle.deprecation_graph.specs.Searches.{with_number}
use Rattle.deprecation_graph.specs.Graph.{next_of_node, active_in, ends_in, successors, node_of, changed_nodes, NamesNodes}
use Rattle.deprecation_graph.specs.Groups.{group_total, counts, active_of, AreMembers, IsHead, count_in, member_count, IsGroupOf, AreGroupsOf, AreSmall}
use Rattle.deprecation_graph.specs.Kept.{nodes_in, IsGraph}
use Rattle.deprecation_graph.proofs.Rising.{is_in, is_in-Contains, Contains-cases, Contains-rest, Contains-range, Contains-filter_range, length-le_rising}
use Rattle.deprecation_graph.proofs.CountLemmas.{total-add, total-none, total-first, total-alike}
use Rattle.deprecation_graph.proofs.PathLemmas.{Leads-forth, Leads-below}
use Rattle.deprecation_graph.proofs.ChainLemmas.{reaches_apart, reaches-leads, leads-reaches, ends_rising}
use Rattle.deprecation_graph.proofs.FewLemmas.{one_added, Adds-kept}
use Rattle.deprecation_graph.proofs.GraphLemmas.{find-None, next_in-other, active_in-other, same_ends, closed_after, edge_is_successor, Contains-ends_after}
use Rattle.deprecation_graph.proofs.KeptLemmas.{same_steps, same_marks, length-nodes_of}
use Rattle.deprecation_graph.proofs.GroupLemmas.{total-le}

-- ---- names of groups in a list of names

one_of : (x y : ℕ) → Contains (y ∷ []) x → x ≡ y
one_of x y c = elim (Contains-cases x y [] c) [ inl same ↦ same | inr d ↦ absurd (omega (arith, d.1)) ]

pub names_first : (ms : List GroupMember) (node name : ℕ) → IsGroupOf ms node name → AreGroupsOf ms node [] (name ∷ [])
names_first ms node name named marks group ok y (inl e) = (0, omega arith, named marks group ok ∙ ap group (sym e))
names_first ms node name named marks group ok y (inr c) = absurd (omega (arith, c.1))

pub names_more : (ms : List GroupMember) (node x name : ℕ) (names xs : List ℕ) → AreGroupsOf ms node xs names → IsGroupOf ms x name → AreGroupsOf ms node (xs ++ x ∷ []) (with_number names name)
names_more ms node x name names xs all named marks group ok y (inl e) = Adds-kept (one_added names name) (group y) (all marks group ok y (inl e))
names_more ms node x name names xs all named marks group ok y (inr c) = elim (Contains-append_cases xs (x ∷ []) y c) [
  | inl d ↦ Adds-kept (one_added names name) (group y) (all marks group ok y (inr d))
  | inr d ↦ subst (Contains (with_number names name)) (named marks group ok ∙ ap group (sym (one_of y x d))) ((one_added names name).visited name (0, omega arith, refl))
]

pub heads_more : (ms : List GroupMember) (name : ℕ) (names : List ℕ) → ((x : ℕ) → Contains names x → IsHead ms x) → IsHead ms name → (x : ℕ) → Contains (with_number names name) x → IsHead ms x
heads_more ms name names heads head x c = elim ((one_added names name).only x c) [
  | inl d ↦ heads x d
  | inr d ↦ subst (IsHead ms) (sym (one_of x name d)) head
]

pub heads_one : (ms : List GroupMember) (name : ℕ) → IsHead ms name → (x : ℕ) → Contains (name ∷ []) x → IsHead ms x
heads_one ms name head x c = subst (IsHead ms) (sym (one_of x name c)) head

-- ---- the number of active nodes that several groups have together

-- whether a node is active and its group is in the list
abbrev is_among : (ℕ → ℕ) → List Bool → List ℕ → ℕ → Bool
is_among group marks names y = cond (get_or marks y false) (is_in (group y) names) false

length-filter_range : (p : ℕ → Bool) (s n : ℕ) → length (filter p (range_with_len s n)) ≡ group_total (λ i. cond (p (s + i)) 1 0) n
length-filter_range p s zero = refl
length-filter_range p s (suc n) =
    first (p s)
    ∙ ap (λ (k : ℕ). cond (p s) 1 0 + k) (length-filter_range p (s + 1) n ∙ total-alike (λ i. cond (p (s + 1 + i)) 1 0) (λ i. cond (p (s + suc i)) 1 0) n (λ i lt. let e : s + 1 + i ≡ s + suc i = omega arith in ap (λ (k : ℕ). cond (p k) 1 0) e))
    ∙ ap (λ (k : ℕ). cond (p k) 1 0 + group_total (λ i. cond (p (s + suc i)) 1 0) n) zero_more
    ∙ sym (total-first (λ i. cond (p (s + i)) 1 0) n)
  where
    first : (b : Bool) → length (cond b (s ∷ filter p (range_with_len (s + 1) n)) (filter p (range_with_len (s + 1) n))) ≡ cond b 1 0 + length (filter p (range_with_len (s + 1) n))
    first true = omega arith
    first false = omega arith

    zero_more : s ≡ s + 0
    zero_more = omega arith

length-filter_all : (p : ℕ → Bool) (n : ℕ) → length (filter p (range_with_len 0 n)) ≡ group_total (λ i. cond (p i) 1 0) n
length-filter_all p n = length-filter_range p 0 n ∙ total-alike (λ i. cond (p (0 + i)) 1 0) (λ i. cond (p i) 1 0) n (λ i lt. let e : 0 + i ≡ i = omega arith in ap (λ (k : ℕ). cond (p k) 1 0) e)

-- a group in the list counts at least once in the sum
in_some : (x : ℕ) (names : List ℕ) → is_in x names ≡ true → 1 ≤ sum_by (λ r. cond (eqb x r) 1 0) names
in_some x [] e = absurd cc
in_some x (r ∷ names) e =
    let sum = sum_by-cons (λ r. cond (eqb x r) 1 0) r names in
    elim (or_cases (eqb x r) (is_in x names) e) [
      | inl same ↦ let one : cond (eqb x r) 1 0 ≡ 1 = ap {B = ℕ} (λ (b : Bool). cond b 1 0) same in omega (arith, sum, one)
      | inr rest ↦ omega (arith, sum, in_some x names rest)
    ]

among_some : (m : Bool) (x : ℕ) (names : List ℕ) → cond (cond m (is_in x names) false) 1 0 ≤ sum_by (λ r. cond m (cond (eqb x r) 1 0) 0) names
among_some false x names = omega arith
among_some true x names = go (is_in x names) refl
  where
    go : (b : Bool) → is_in x names ≡ b → cond b 1 0 ≤ sum_by (λ r. cond (eqb x r) 1 0) names
    go true e = in_some x names e
    go false e = omega arith

total-sum : (f : ℕ → ℕ → ℕ) (names : List ℕ) (n : ℕ) → group_total (λ y. sum_by (λ r. f r y) names) n ≡ sum_by (λ r. group_total (f r) n) names
total-sum f [] n = total-none n
total-sum f (r ∷ names) n =
    total-alike (λ y. sum_by (λ r. f r y) (r ∷ names)) (λ y. f r y + sum_by (λ r. f r y) names) n (λ y _. sum_by-cons (λ r. f r y) r names)
    ∙ total-add (f r) (λ y. sum_by (λ r. f r y) names) n
    ∙ ap (λ (k : ℕ). group_total (f r) n + k) (total-sum f names n)
    ∙ sym (sum_by-cons (λ r. group_total (f r) n) r names)

sum-alike : (f g : ℕ → ℕ) (names : List ℕ) → ((r : ℕ) → Contains names r → f r ≡ g r) → sum_by f names ≡ sum_by g names
sum-alike f g [] h = refl
sum-alike f g (r ∷ names) h = omega (arith, sum_by-cons f r names, sum_by-cons g r names, h r (0, omega arith, refl), sum-alike f g names (λ x c. h x (Contains-rest x r names c)))

few_among : (ms : List GroupMember) (marks : List Bool) (group : ℕ → ℕ) (names : List ℕ) → AreMembers ms marks group → ((x : ℕ) → Contains names x → IsHead ms x) → length (filter (is_among group marks names) (range_with_len 0 (length marks))) ≤ sum_by (member_count ms) names
few_among ms marks group names ok heads =
    let counted : sum_by (active_of group marks) names ≡ sum_by (member_count ms) names = sum-alike (active_of group marks) (member_count ms) names (λ r c.
    let head = heads r c in sym (ok.head r head.0 head.1).1 ∙ sym (ap count_in head.1)) in
    let swapped = total-sum (λ r. counts group marks r) names (length marks) in
    omega (
      arith,
      counted,
      swapped,
      length-filter_all (is_among group marks names) (length marks),
      total-le (λ y. cond (is_among group marks names y) 1 0) (λ y. sum_by (λ r. counts group marks r y) names) (length marks) (λ y lt. among_some (get_or marks y false) (group y) names),
    )

pub differ : (x y : ℕ) → not (eqb x y) ≡ true → x ≡ y → ⊥
differ x y e same = let t : false ≡ true = sym (ap not (eq-eqb x y same)) ∙ e in absurd cc

-- ---- paths stay in groups; ends after the change

module _ (kept : KeptGraph) (ok : IsGraph kept) where
  same_group : {x y : ℕ} → HasEdge (next_of_node (nodes_in kept)) x y → ok.groups.group x ≡ ok.groups.group y
  same_group {x} {y} edge = ok.groups.joined x y (subst (λ (next : ℕ → List ℕ). HasEdge next x y) (same_steps kept None ok.next) edge)

  -- all nodes of a path are in one group
  pub leads_within : {x y : ℕ} → Leads (next_of_node (nodes_in kept)) x y → ok.groups.group x ≡ ok.groups.group y
  leads_within {x} {y} l = Leads-forth (λ z. ok.groups.group x ≡ ok.groups.group z) (λ u v edge same. same ∙ same_group edge) l refl

  -- no path leads to a node of another group
  pub other_group : (x y : ℕ) → (ok.groups.group x ≡ ok.groups.group y → ⊥) → reaches (next_of_node (nodes_in kept)) (length (nodes_in kept)) x y ≡ eqb x y
  other_group x y other = reaches_apart (next_of_node (nodes_in kept)) (length (nodes_in kept)) x y (λ l. absurd (other (leads_within l)))

  module _ (a : ℕ) (to : Option (List ℕ)) (change : NamesNodes (nodes_in kept) a to) (small : AreSmall kept.groups.items a (successors to)) where
    among : (y : ℕ) → (y ≡ a) ⊎ Contains (successors to) y → Contains small.names (ok.groups.group y)
    among y h = small.all kept.active.items ok.groups.group ok.groups.members y h

    -- a path after the change that starts in one of the listed groups stays in these groups
    led_among : {x y : ℕ} → Contains small.names (ok.groups.group x) → Leads (next_of_node (changed_nodes (nodes_in kept) a to)) x y → Contains small.names (ok.groups.group y)
    led_among {x} {y} here l = Leads-forth (λ z. Contains small.names (ok.groups.group z)) (λ u v edge within. elim (cases_eq u a) [
      | inl same ↦ among v (inr (edge_is_successor (nodes_in kept) a to ok.lawful change v (subst (λ (z : ℕ). HasEdge (next_of_node (changed_nodes (nodes_in kept) a to)) z v) same edge)))
      | inr ne ↦ subst (Contains small.names) (same_group (subst (λ (ys : List ℕ). Contains ys v) (next_in-other (nodes_in kept) a to u ne) edge)) within
    ]) l here

    few_ends : (x : ℕ) → x < length (nodes_in kept) → Leads (next_of_node (nodes_in kept)) x a → length (ends_in (changed_nodes (nodes_in kept) a to) x) ≤ MOST_ENDS
    few_ends x lt source =
        let p = is_among ok.groups.group kept.active.items small.names in
        let n = length kept.active.items in
        let all = few_among kept.groups.items kept.active.items ok.groups.group small.names ok.groups.members (λ r c. subst (IsHead kept.groups.items) c.2 (small.heads c.0 r c.1)) in
        omega (
          arith,
          small.few,
          all,
          length-le_rising (ends_in (changed_nodes (nodes_in kept) a to) x) (a ∷ filter p (range_with_len 0 n)) (ends_rising (next_of_node (changed_nodes (nodes_in kept) a to)) (active_in (changed_nodes (nodes_in kept) a to)) (length (changed_nodes (nodes_in kept) a to)) x) (λ y c. elim (cases_eq y a) [
            | inl same ↦ (0, omega arith, sym same)
            | inr ne ↦
                let h = (Contains-ends_after (nodes_in kept) a to ok.lawful change x y lt).0 c in
                let below : y < length (nodes_in kept) = Leads-below (closed_after (nodes_in kept) a to ok.lawful change) lt h.0 in
                let mark : get_or kept.active.items y false ≡ true = sym (ap (λ (f : ℕ → Bool). f y) (same_marks kept None ok.next)) ∙ sym (active_in-other (nodes_in kept) a to y ne) ∙ h.1 in
                let named = is_in-Contains (ok.groups.group y) small.names (led_among (subst (Contains small.names) (sym (leads_within source)) (among a (inl refl))) h.0) in
                Contains-rest y a (filter p (range_with_len 0 n)) ((Contains-filter_range p n y).1 (omega (arith, below, length-nodes_of kept.active.items kept.next.lists ok.next), ap (λ (b : Bool). cond b (is_in (ok.groups.group y) small.names) false) mark ∙ named))
          ]),
        )

    pub enclosed : wide_in (changed_nodes (nodes_in kept) a to) ≡ None
    enclosed = find-None (is_wide_node (changed_nodes (nodes_in kept) a to)) (range_with_len 0 (length (changed_nodes (nodes_in kept) a to))) (λ x c.
        let lt : x < length (nodes_in kept) = omega (arith, (Contains-range (length (changed_nodes (nodes_in kept) a to)) x).0 c, length-set (nodes_in kept) a (node_of to)) in
        le-ltb MOST_ENDS (length (ends_in (changed_nodes (nodes_in kept) a to) x)) (narrow x lt (cases_Bool (reaches (next_of_node (nodes_in kept)) (length (nodes_in kept)) x a))))
      where
        narrow : (x : ℕ) → x < length (nodes_in kept) → (reaches (next_of_node (nodes_in kept)) (length (nodes_in kept)) x a ≡ true) ⊎ (reaches (next_of_node (nodes_in kept)) (length (nodes_in kept)) x a ≡ false) → length (ends_in (changed_nodes (nodes_in kept) a to) x) ≤ MOST_ENDS
        narrow x lt (inl source) = few_ends x lt (reaches-leads (next_of_node (nodes_in kept)) (length (nodes_in kept)) x a source)
        narrow x lt (inr away) = omega (arith, ok.lawful.narrow x lt, ap length (same_ends (nodes_in kept) a to ok.lawful change x lt (λ l. both_ways (reaches (next_of_node (nodes_in kept)) (length (nodes_in kept)) x a) away (leads-reaches (next_of_node (nodes_in kept)) (length (nodes_in kept)) x a ok.lawful.closed lt l))))
