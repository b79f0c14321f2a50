use Rattle.std.proofs.Common.{◌≤◌, ◌∙◌, ◌++◌, ◌∷◌, [], List, Bool, true, ap, length, arith, None}
use Rattle.deprecation_graph.specs.Graph.{Graph, node_of}
use Rattle.deprecation_graph.proofs.StoredLemmas.{count_nodes, stored_added}
use Rattle.deprecation_graph.specs.Kept.{nodes_of}
use Rattle.deprecation_graph.proofs.KeptLemmas.{push-nodes}
use Rattle.deprecation_graph.proofs.graph.DeprecationGraph.add_node.Goals as goal

pub invariant_of-self : goal.invariant_of-self
invariant_of-self c =
    let room : 1 ≤ c.self.inside.room_nodes = omega (arith, c.requires, ap (λ (g : Graph). g.room_nodes) c.self.view_is) in
    stored_added c.self.inside.kept _ c.self.inside.room_nodes c.self.inside.room_edges c.self.invariant room (record {
      marks = c.push_reserved.ensures.items;
      next = c.add_list.ensures.lists;
      before = c.add_list-2.ensures.lists;
      groups = c.push_reserved-2.ensures.items;
      capacity = c.push_reserved.ensures.capacity;
      group_capacity = c.push_reserved-2.ensures.capacity;
      next_room = c.add_list.ensures.room;
      before_room = c.add_list-2.ensures.room;
      next_spare = c.add_list.ensures.spare;
      before_spare = c.add_list-2.ensures.spare;
    })

pub returns-clause-number : goal.returns-clause-number
returns-clause-number c = omega (arith, c.len-number.ensures, count_nodes c.self.inside.kept c.self.invariant.sound, ap (λ (g : Graph). length g.nodes) c.self.view_is)

pub returns-clause-nodes : goal.returns-clause-nodes
returns-clause-nodes c =
    ap (λ (marks : List Bool). nodes_of marks c.add_list.new.self.lists) c.push_reserved.ensures.items
    ∙ ap (nodes_of (c.self.inside.kept.active.items ++ true ∷ [])) c.add_list.ensures.lists
    ∙ push-nodes c.self.inside.kept.active.items c.self.inside.kept.next.lists true [] c.self.invariant.sound.next
    ∙ ap (λ (g : Graph). g.nodes ++ node_of None ∷ []) c.self.view_is
