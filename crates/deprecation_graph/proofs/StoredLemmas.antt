-- Lemmas: the room of a graph, and how changes of the graph change it.
use Rattle.std.proofs.Common.{◌≡◌, ℕ, zero, suc, ◌+◌, ◌-◌, ◌<◌, ◌≤◌, Bool, true, false, List, [], ◌∷◌, ◌++◌, length, get_or, refl, sym, ap, subst, ◌∙◌, arith, slice_set, inl, inr, Option, Some, None, is_none, is_some, not, vec_capacity, Bor}
use Rattle.std.specs.List.{All, Contains}
use Rattle.std.specs.Option.{option_copied}
use Rattle.std.proofs.lemmas.Bool.{cases_eq}
use Rattle.std.proofs.lemmas.List.{length_push, length-set, get_or-set_other}
use Rattle.std.proofs.lemmas.List.Elements.{Contains-get_or}
use Rattle.std.proofs.lemmas.List.Sums.{sum_by-cons, sum_by-set, sum_by_push}
use Rattle.std.proofs.lemmas.Option.{slice_get-get_or}
use Rattle.deprecation_graph.specs.declared.limits.TheConstants.{MOST_NODES, MOST_EDGES}
use Rattle.deprecation_graph.specs.Graph.{Node, next_or_none, next_of_node, node_of, successors, changed_nodes, edge_count, IsLawfulGraph}
use Rattle.deprecation_graph.proofs.GraphLemmas.{lawful_push}
use Rattle.deprecation_graph.specs.declared.kept.KeptGraph.{KeptGraph}
use Rattle.deprecation_graph.specs.Indexed.{list_of_node, size_of}
use Rattle.deprecation_graph.specs.Mirror.{node_times, IsMirror}
use Rattle.deprecation_graph.specs.Groups.{AreMembers, AreGroups, AreNodesGrouped, Recounts, Joins}
use Rattle.deprecation_graph.specs.declared.groups.GroupMember.{GroupMember}
use Rattle.deprecation_graph.specs.declared.groups.GroupMember.TheVariants.{Head, Under}
use Rattle.deprecation_graph.proofs.GroupLemmas.{members_pushed}
use Rattle.deprecation_graph.specs.Kept.{nodes_of, nodes_in, IsGraph, IsStored, Regrows, HasRoom, KeepsGraphRoom}
use Rattle.deprecation_graph.proofs.MirrorLemmas.{mirror_moved, list_of-set, set-set}
use Rattle.deprecation_graph.proofs.KeptLemmas.{length-nodes_of, push-nodes, set-nodes, same_steps, kept_closed, closed_lists, closed_before}
use Rattle.deprecation_graph.proofs.CountLemmas.{mirror_size}

pub count_nodes : (kept : KeptGraph) → IsGraph kept → length (nodes_in kept) ≡ length kept.active.items
count_nodes kept ok = length-nodes_of kept.active.items kept.next.lists ok.next

-- the lists of predecessors take as many slots as the lists of successors
pub kept_size : (kept : KeptGraph) → IsGraph kept → size_of kept.before.lists ≡ size_of kept.next.lists
kept_size kept ok =
    let count : length kept.before.lists ≡ length kept.next.lists = ok.before ∙ sym ok.next in
    mirror_size kept.next.lists kept.before.lists ok.mirror count (closed_lists kept None ok (kept_closed kept ok)) (λ b a lt c. omega (arith, count, closed_before kept ok b a (omega (arith, count)) c))

pub node_in : (kept : KeptGraph) (value : List Node) (a : ℕ) → IsGraph kept → nodes_in kept ≡ value → a < length value → a < length kept.active.items
node_in kept value a ok e lt = omega (arith, ap length e, count_nodes kept ok)

pub size_nodes : (marks : List Bool) (lists : List (List ℕ)) → length lists ≡ length marks → size_of lists ≡ length marks + edge_count (nodes_of marks lists)
size_nodes [] [] e = refl
size_nodes [] (xs ∷ lists) e = absurd (omega arith)
size_nodes (a ∷ marks) [] e = absurd (omega arith)
size_nodes (a ∷ marks) (xs ∷ lists) e =
    omega (arith, sum_by-cons (λ (ys : List ℕ). length ys + 1) xs lists, sum_by-cons (λ (n : Node). length n.next) (record { active = a; next = xs }) (nodes_of marks lists), size_nodes marks lists (omega arith))

-- ---- groups of equal members, and groups after a node is added

groups_moved : {ms ms' : List GroupMember} {marks marks' : List Bool} {lists lists' : List (List ℕ)} → ms' ≡ ms → marks' ≡ marks → lists' ≡ lists → AreGroups ms marks lists → AreGroups ms' marks' lists'
groups_moved {ms} {ms'} {marks} {marks'} {lists} {lists'} e f h g = record {
  group = g.group;
  members = subst (λ (xs : List GroupMember). AreMembers xs marks' g.group) (sym e) (subst (λ (bs : List Bool). AreMembers ms bs g.group) (sym f) g.members);
  joined = λ a b c. g.joined a b (subst (λ (ls : List (List ℕ)). Contains (list_of_node ls a) b) h c);
}

list_of-push : (lists : List (List ℕ)) (i : ℕ) → list_of_node (lists ++ [] ∷ []) i ≡ list_of_node lists i
list_of-push [] zero = refl
list_of-push [] (suc i) = refl
list_of-push (xs ∷ lists) zero = refl
list_of-push (xs ∷ lists) (suc i) = list_of-push lists i

groups_pushed : (ms : List GroupMember) (marks : List Bool) (lists : List (List ℕ)) → AreGroups ms marks lists → AreGroups (ms ++ Head 1 ∷ []) (marks ++ true ∷ []) (lists ++ [] ∷ [])
groups_pushed ms marks lists g = record {
  group = g.group;
  members = members_pushed ms marks g.group g.members;
  joined = λ a b c. g.joined a b (subst (λ (ys : List ℕ). Contains ys b) (list_of-push lists a) c);
}

pub groups_changed : (ms counted new : List GroupMember) (marks : List Bool) (lists lists' : List (List ℕ)) (a : ℕ) (is : Bool) (ys : List ℕ) → AreGroups ms marks lists → Recounts ms counted marks (slice_set marks a is) → Joins counted new a ys → lists' ≡ slice_set lists a ys → a < length lists → AreGroups new (slice_set marks a is) lists'
groups_changed ms counted new marks lists lists' a is ys g recounts joins e lt =
    let j = joins (slice_set marks a is) g.group (recounts g.group g.members) in
    record {
      group = j.wider;
      members = j.members;
      joined = λ x y c.
          let here = subst (λ (ls : List (List ℕ)). Contains (list_of_node ls x) y) e c in
          elim (cases_eq x a) [
            | inl same ↦ ap j.wider same ∙ j.joined y (subst (λ (zs : List ℕ). Contains zs y) (ap (list_of_node (slice_set lists a ys)) same ∙ list_of-set lists a ys lt) here)
            | inr other ↦ j.still x y (g.joined x y (subst (λ (zs : List ℕ). Contains zs y) (get_or-set_other lists a x ys [] other) here))
          ];
    }

pub groups_recounted : (ms counted : List GroupMember) (marks : List Bool) (a : ℕ) (is : Bool) → AreNodesGrouped ms → (group : ℕ → ℕ) → AreMembers ms marks group → Recounts ms counted marks (slice_set marks a is) → AreNodesGrouped counted
groups_recounted ms counted marks a is g group ok recounts =
    let members = recounts group ok in
    record { marks = slice_set marks a is; group = group; members = members; few = omega (arith, g.few, ok.same, members.same, length-set marks a is) }

pub kept_grouped : (kept : KeptGraph) → IsGraph kept → AreNodesGrouped kept.groups.items
kept_grouped kept ok = record {
  marks = kept.active.items;
  group = ok.groups.group;
  members = ok.groups.members;
  few = omega (arith, ok.lawful.few, count_nodes kept ok, ok.groups.members.same);
}

-- ---- the same graph with more room

kept_moved : (old new : KeptGraph) → IsGraph old → new.active.items ≡ old.active.items → new.next.lists ≡ old.next.lists → new.before.lists ≡ old.before.lists → new.groups.items ≡ old.groups.items → IsGraph new
kept_moved old new ok marks next before groups = record {
  next = ap length next ∙ ok.next ∙ sym (ap length marks);
  before = ap length before ∙ ok.before ∙ sym (ap length marks);
  mirror = mirror_moved old.next.lists old.before.lists new.next.lists new.before.lists next before ok.mirror;
  groups = groups_moved groups marks next ok.groups;
  lawful = subst IsLawfulGraph (sym (same_nodes old new marks next)) ok.lawful;
}
  where
    same_nodes : (o n : KeptGraph) → n.active.items ≡ o.active.items → n.next.lists ≡ o.next.lists → nodes_in n ≡ nodes_in o
    same_nodes o n m l = ap (λ (ms : List Bool). nodes_of ms n.next.lists) m ∙ ap (nodes_of o.active.items) l

pub regrown_nodes : (old new : KeptGraph) → Regrows old new → nodes_in new ≡ nodes_in old
regrown_nodes old new r = ap (λ (ms : List Bool). nodes_of ms new.next.lists) r.marks ∙ ap (nodes_of old.active.items) r.next

pub stored_regrown : (old new : KeptGraph) (rn re rn' re' : ℕ) → IsStored old rn re → Regrows old new → HasRoom new rn' re' → length old.active.items + rn' ≤ MOST_NODES → edge_count (nodes_in old) + re' ≤ MOST_EDGES → IsStored new rn' re'
stored_regrown old new rn re rn' re' s r h few_nodes few_edges =
    let same = ap edge_count (regrown_nodes old new r) in
    record {
      sound = kept_moved old new s.sound r.marks r.next r.before r.groups;
      marks = h.capacity;
      group_room = h.group_capacity;
      next_room = h.next_room;
      before_room = h.before_room;
      next_spare = h.next_spare;
      before_spare = h.before_spare;
      few_nodes = omega (arith, few_nodes, ap length r.marks);
      few_edges = omega (arith, few_edges, same);
    }

-- ---- a node is added

mirror_push : (next before : List (List ℕ)) → IsMirror next before → IsMirror (next ++ [] ∷ []) (before ++ [] ∷ [])
mirror_push next before m a b = ap (node_times a) (list_of-push before b) ∙ m a b ∙ sym (ap (node_times b) (list_of-push next a))

-- how the addition of a node changes the stored graph
pub record Adds (old new : KeptGraph) : Type 0 where
  pub marks : new.active.items ≡ old.active.items ++ true ∷ []
  pub next : new.next.lists ≡ old.next.lists ++ [] ∷ []
  pub before : new.before.lists ≡ old.before.lists ++ [] ∷ []
  pub groups : new.groups.items ≡ old.groups.items ++ Head 1 ∷ []
  pub capacity : vec_capacity new.active ≡ vec_capacity old.active
  pub group_capacity : vec_capacity new.groups ≡ vec_capacity old.groups
  pub next_room : new.next.room + 1 ≡ old.next.room
  pub before_room : new.before.room + 1 ≡ old.before.room
  pub next_spare : new.next.spare + 1 ≡ old.next.spare
  pub before_spare : new.before.spare + 1 ≡ old.before.spare

pub added_nodes : (old new : KeptGraph) → IsGraph old → Adds old new → nodes_in new ≡ nodes_in old ++ node_of None ∷ []
added_nodes old new ok a = ap (λ (ms : List Bool). nodes_of ms new.next.lists) a.marks ∙ ap (nodes_of (old.active.items ++ true ∷ [])) a.next ∙ push-nodes old.active.items old.next.lists true [] ok.next

pub stored_added : (old new : KeptGraph) (rn re : ℕ) → IsStored old rn re → 1 ≤ rn → Adds old new → IsStored new (rn - 1) re
stored_added old new rn re s room a =
    let count : length new.active.items ≡ length old.active.items + 1 = ap length a.marks ∙ length_push old.active.items true in
    let edges : edge_count (nodes_in new) ≡ edge_count (nodes_in old) = ap edge_count (added_nodes old new s.sound a) ∙ sum_by_push (λ (n : Node). length n.next) (nodes_in old) (node_of None) ∙ omega arith in
    record {
      sound = record {
        next = omega (arith, count, ap length a.next, length_push old.next.lists [], s.sound.next);
        before = omega (arith, count, ap length a.before, length_push old.before.lists [], s.sound.before);
        mirror = mirror_moved (old.next.lists ++ [] ∷ []) (old.before.lists ++ [] ∷ []) new.next.lists new.before.lists a.next a.before (mirror_push old.next.lists old.before.lists s.sound.mirror);
        groups = groups_moved a.groups a.marks a.next (groups_pushed old.groups.items old.active.items old.next.lists s.sound.groups);
        lawful = subst IsLawfulGraph (sym (added_nodes old new s.sound a)) (lawful_push (nodes_in old) s.sound.lawful (omega (arith, count_nodes old s.sound, s.few_nodes, room)));
      };
      marks = omega (arith, s.marks, count, a.capacity, room);
      group_room = omega (arith, s.group_room, ap length a.groups, length_push old.groups.items (Head 1), a.group_capacity, room);
      next_room = omega (arith, s.next_room, a.next_room);
      before_room = omega (arith, s.before_room, a.before_room);
      next_spare = omega (arith, s.next_spare, a.next_spare, room);
      before_spare = omega (arith, s.before_spare, a.before_spare, room);
      few_nodes = omega (arith, s.few_nodes, count, room);
      few_edges = omega (arith, s.few_edges, edges);
    }

-- ---- a node is changed

pub list_below : (kept : KeptGraph) (a n : ℕ) → IsGraph kept → a < length (nodes_in kept) → n ≡ length kept.active.items → All (λ x. x < n) (list_of_node kept.next.lists a)
list_below kept a n ok lt e = λ k d within.
    let c = Contains-get_or (list_of_node kept.next.lists a) k d within in
    omega (arith, ok.lawful.closed a (get_or (list_of_node kept.next.lists a) k d) lt (subst (λ (next : ℕ → List ℕ). Contains (next a) (get_or (list_of_node kept.next.lists a) k d)) (sym (same_steps kept None ok.next)) c), count_nodes kept ok)

-- a list that is emptied and then filled has exactly the new numbers
pub relinked : (old mid new : List (List ℕ)) (a : ℕ) (ys : List ℕ) → a < length old → mid ≡ slice_set old a [] → new ≡ slice_set mid a (list_of_node mid a ++ ys) → new ≡ slice_set old a ys
relinked old mid new a ys lt e f =
    let empty : list_of_node mid a ≡ [] = ap (λ (ls : List (List ℕ)). list_of_node ls a) e ∙ list_of-set old a [] lt in
    f ∙ ap (λ (xs : List ℕ). slice_set mid a (xs ++ ys)) empty ∙ ap (λ (ls : List (List ℕ)). slice_set ls a ys) e ∙ set-set old a [] ys

mark_of : (to : Option (List ℕ)) → is_none to ≡ (node_of to).active
mark_of None = refl
mark_of (Some ys) = refl

list_of_change : (to : Option (List ℕ)) → successors to ≡ (node_of to).next
list_of_change None = refl
list_of_change (Some ys) = refl

pub nodes_changed : (kept : KeptGraph) (marks : List Bool) (lists : List (List ℕ)) (a : ℕ) (b : Bool) (ys : List ℕ) (to : Option (List ℕ)) → IsGraph kept → marks ≡ slice_set kept.active.items a b → b ≡ is_none to → lists ≡ slice_set kept.next.lists a ys → ys ≡ successors to → nodes_of marks lists ≡ changed_nodes (nodes_in kept) a to
nodes_changed kept marks lists a b ys to ok e f g h =
    ap (λ (ms : List Bool). nodes_of ms lists) (e ∙ ap (slice_set kept.active.items a) (f ∙ mark_of to))
    ∙ ap (nodes_of (slice_set kept.active.items a (node_of to).active)) (g ∙ ap (slice_set kept.next.lists a) (h ∙ list_of_change to))
    ∙ sym (set-nodes kept.active.items kept.next.lists a (node_of to) ok.next)

pub stored_changed : (old new : KeptGraph) (rn re : ℕ) (a : ℕ) (to : Option (List ℕ)) (value : List Node) → IsStored old rn re → IsGraph new → nodes_in old ≡ value → a < length value → nodes_in new ≡ changed_nodes (nodes_in old) a to → KeepsGraphRoom old new (successors to) (next_of_node (nodes_in old) a) → length (successors to) ≤ re → IsStored new rn (re - length (successors to))
stored_changed old new rn re a to value s ok same lt e k room =
    let edges = sum_by-set (λ (n : Node). length n.next) (nodes_in old) a (node_of to) (node_of None) (omega (arith, ap length same)) in
    let count : edge_count (nodes_in new) ≡ edge_count (changed_nodes (nodes_in old) a to) = ap edge_count e in
    let was : length (next_of_node (nodes_in old) a) ≡ length (get_or (nodes_in old) a (node_of None)).next = ap (λ (n : Option Node). length (next_or_none n)) (slice_get-get_or (nodes_in old) a (node_of None) (omega (arith, ap length same))) in
    let now : length (successors to) ≡ length (node_of to).next = ap length (list_of_change to) in
    record {
      sound = ok;
      marks = omega (arith, s.marks, k.count, k.capacity);
      group_room = omega (arith, s.group_room, k.count, ok.groups.members.same, s.sound.groups.members.same, k.group_capacity);
      next_room = omega (arith, s.next_room, k.next_room);
      before_room = omega (arith, s.before_room, k.before_room);
      next_spare = omega (arith, s.next_spare, k.next_spare, room);
      before_spare = omega (arith, s.before_spare, k.before_spare, room);
      few_nodes = omega (arith, s.few_nodes, k.count);
      few_edges = omega (arith, s.few_edges, edges, count, was, now, room);
    }

pub none_answer : (next : Option (Bor (List ℕ))) (r : Bool) → is_some next ≡ not r → r ≡ is_none (option_copied next)
none_answer None true e = refl
none_answer None false e = absurd cc
none_answer (Some xs) true e = absurd cc
none_answer (Some xs) false e = refl

-- ---- a graph without nodes

lawful_none : IsLawfulGraph []
lawful_none = record {
  few = omega arith;
  closed = λ a b lt edge. absurd (omega (arith, lt));
  bare = λ a e. refl;
  acyclic = λ a b edge l. omega (arith, edge.1);
  narrow = λ a lt. absurd (omega (arith, lt));
}

groups_none : AreGroups [] [] []
groups_none = record {
  group = λ x. x;
  members = record {
    same = refl;
    past = λ x le. refl;
    falls = λ x. omega arith;
    under = λ x lower e. let apart : None ≡ Some (Under lower) = e in absurd cc;
    head = λ x count e. let apart : None ≡ Some (Head count) = e in absurd cc;
  };
  joined = λ a b c. absurd (omega (arith, c.1));
}

pub stored_none : (kept : KeptGraph) → kept.active.items ≡ [] → kept.next.lists ≡ [] → kept.before.lists ≡ [] → kept.groups.items ≡ [] → IsStored kept 0 0
stored_none kept marks next before groups =
    let none : nodes_in kept ≡ [] = ap (λ (ms : List Bool). nodes_of ms kept.next.lists) marks in
    record {
      sound = record {
        next = ap length next ∙ sym (ap length marks);
        before = ap length before ∙ sym (ap length marks);
        mirror = mirror_moved [] [] kept.next.lists kept.before.lists next before (λ a b. refl);
        groups = groups_moved groups marks next groups_none;
        lawful = subst IsLawfulGraph (sym none) lawful_none;
      };
      marks = omega (arith, ap length marks);
      group_room = omega (arith, ap length groups);
      next_room = omega arith;
      before_room = omega arith;
      next_spare = omega arith;
      before_spare = omega arith;
      few_nodes = omega (arith, ap length marks);
      few_edges = omega (arith, ap edge_count none);
    }
