use Rattle.std.proofs.Common.{◌<◌, ◌∙◌, ℕ, List, length, ap, sym, subst, arith}
use Rattle.std.specs.List.{All}
use Rattle.std.specs.Option.{option_copied}
use Rattle.std.proofs.lemmas.Result.{IfOk-weaker}
use Rattle.deprecation_graph.specs.Graph.{successors}
use Rattle.deprecation_graph.specs.Groups.{AreNodesGrouped, AreSmall}
use Rattle.deprecation_graph.specs.declared.groups.GroupMember.{GroupMember}
use Rattle.deprecation_graph.proofs.KeptLemmas.{kept_successors, length-nodes_of}
use Rattle.deprecation_graph.proofs.StoredLemmas.{kept_grouped}
use Rattle.deprecation_graph.proofs.EnclosedLemmas.{enclosed}
use Rattle.deprecation_graph.proofs.check.is_enclosed.Goals as goal

pub are_small-requires-clause-grouped : goal.are_small-requires-clause-grouped
are_small-requires-clause-grouped c = subst AreNodesGrouped (sym c.deref.ensures.value) (kept_grouped c.args.kept.now c.requires.kept)

pub are_small-requires-clause-node : goal.are_small-requires-clause-node
are_small-requires-clause-node c = omega (arith, c.requires.change.node, length-nodes_of c.args.kept.now.active.items c.args.kept.now.next.lists c.requires.kept.next, c.requires.kept.groups.members.same, ap length c.deref.ensures.value)

pub are_small-requires-clause-others : goal.are_small-requires-clause-others
are_small-requires-clause-others c =
    subst (λ (n : ℕ). All (λ x. x < n) c.successors.result.now) (sym c.requires.kept.groups.members.same ∙ sym (ap length c.deref.ensures.value))
    (kept_successors c.args.kept.now c.args.change.node (option_copied c.args.change.next) c.successors.result.now c.requires.kept c.requires.change c.successors.ensures)

pub returns : goal.returns
returns c =
    let to = option_copied c.args.change.next in
    IfOk-weaker c.are_small.result _ _ (λ small h e.
    enclosed c.args.kept.now c.requires.kept c.args.change.node to c.requires.change (subst (λ (ms : List GroupMember). AreSmall ms c.args.change.node (successors to)) c.deref.ensures.value (subst (AreSmall c.deref.result.now c.args.change.node) c.successors.ensures (h e)))) c.are_small.ensures
