use Rattle.std.proofs.Common.{◌-◌, ◌≤◌, ap, sym, subst, length, arith, List, ℕ}
use Rattle.std.specs.Option.{option_copied}
use Rattle.deprecation_graph.specs.Graph.{Graph, successors}
use Rattle.deprecation_graph.specs.Kept.{IsStored}
use Rattle.deprecation_graph.proofs.StoredLemmas.{stored_changed}
use Rattle.deprecation_graph.proofs.graph.DeprecationGraph.set_edges.Goals as goal

pub invariant_of-self : goal.invariant_of-self
invariant_of-self c =
    let room : length (successors (option_copied c.args.next)) ≤ c.self.inside.room_edges = omega (arith, c.requires.room, ap (λ (g : Graph). g.room_edges) c.self.view_is) in
    subst (λ (xs : List ℕ). IsStored c.set_kept.new.kept c.self.inside.room_nodes (c.self.inside.room_edges - length xs)) (sym c.successors.ensures)
    (stored_changed c.self.inside.kept c.set_kept.new.kept c.self.inside.room_nodes c.self.inside.room_edges c.args.node (option_copied c.args.next) c.args.self.now.nodes c.self.invariant c.set_kept.ensures.sound (ap (λ (g : Graph). g.nodes) c.self.view_is) c.requires.change.names.node c.set_kept.ensures.nodes c.set_kept.ensures.rooms room)
