use Rattle.std.proofs.Common.{◌≡◌, ◌<◌, ◌∙◌, [], ℕ, Bool, List, ap, sym, subst, length, arith, slice_set, None, refl}
use Rattle.std.specs.List.{All}
use Rattle.std.specs.Option.{option_copied}
use Rattle.std.proofs.lemmas.List.{length-set}
use Rattle.deprecation_graph.specs.Graph.{next_of_node, IsLawfulGraph}
use Rattle.deprecation_graph.proofs.GraphLemmas.{successors_below, lawful_after}
use Rattle.deprecation_graph.specs.Indexed.{list_of_node}
use Rattle.deprecation_graph.specs.Groups.{Recounts}
use Rattle.deprecation_graph.specs.Kept.{nodes_in}
use Rattle.deprecation_graph.proofs.KeptLemmas.{same_steps}
use Rattle.deprecation_graph.proofs.StoredLemmas.{groups_changed, groups_recounted, kept_grouped, count_nodes, list_below, relinked, nodes_changed, none_answer}
use Rattle.deprecation_graph.proofs.changes.set_kept.Goals as goal

pub unlink_all-requires-clause-from : goal.unlink_all-requires-clause-from
unlink_all-requires-clause-from c = omega (arith, c.requires.change.node, count_nodes c.args.kept.now c.requires.sound, c.requires.sound.next)

pub unlink_all-requires-clause-closed : goal.unlink_all-requires-clause-closed
unlink_all-requires-clause-closed c = list_below c.args.kept.now c.args.node _ c.requires.sound c.requires.change.node c.requires.sound.before

pub link_all-requires-clause-from : goal.link_all-requires-clause-from
link_all-requires-clause-from c = omega (arith, c.requires.change.node, count_nodes c.args.kept.now c.requires.sound, c.requires.sound.next, ap length c.unlink_all.ensures.next, length-set c.args.kept.now.next.lists c.args.node [])

pub link_all-requires-clause-closed : goal.link_all-requires-clause-closed
link_all-requires-clause-closed c = subst (λ (n : ℕ). All (λ x. x < n) c.successors-all.result.now) (count_nodes c.args.kept.now c.requires.sound ∙ sym c.requires.sound.before ∙ sym c.unlink_all.ensures.before) (successors_below (nodes_in c.args.kept.now) c.args.node (option_copied c.args.next) c.successors-all.result.now c.requires.change c.successors-all.ensures)

pub recount-requires-clause-grouped : goal.recount-requires-clause-grouped
recount-requires-clause-grouped c = kept_grouped c.args.kept.now c.requires.sound

pub recount-requires-clause-node : goal.recount-requires-clause-node
recount-requires-clause-node c = omega (arith, c.requires.change.node, count_nodes c.args.kept.now c.requires.sound, c.requires.sound.groups.members.same)

pub join_all-requires-clause-grouped : goal.join_all-requires-clause-grouped
join_all-requires-clause-grouped c =
    let groups = c.requires.sound.groups in
    groups_recounted c.args.kept.now.groups.items c.recount.new.groups.items c.args.kept.now.active.items c.args.node c.is_none-is_active.result (kept_grouped c.args.kept.now c.requires.sound) groups.group groups.members (subst (λ (marks : List Bool). Recounts c.args.kept.now.groups.items c.recount.new.groups.items marks (slice_set marks c.args.node c.is_none-is_active.result)) c.deref.ensures.value c.recount.ensures.recounts)

pub join_all-requires-clause-node : goal.join_all-requires-clause-node
join_all-requires-clause-node c =
    let groups = c.requires.sound.groups in
    let recounts = subst (λ (marks : List Bool). Recounts c.args.kept.now.groups.items c.recount.new.groups.items marks (slice_set marks c.args.node c.is_none-is_active.result)) c.deref.ensures.value c.recount.ensures.recounts in
    omega (arith, c.requires.change.node, count_nodes c.args.kept.now c.requires.sound, (recounts groups.group groups.members).same, length-set c.args.kept.now.active.items c.args.node c.is_none-is_active.result)

pub join_all-requires-clause-others : goal.join_all-requires-clause-others
join_all-requires-clause-others c =
    let groups = c.requires.sound.groups in
    let recounts = subst (λ (marks : List Bool). Recounts c.args.kept.now.groups.items c.recount.new.groups.items marks (slice_set marks c.args.node c.is_none-is_active.result)) c.deref.ensures.value c.recount.ensures.recounts in
    let as_many = (recounts groups.group groups.members).same ∙ length-set c.args.kept.now.active.items c.args.node c.is_none-is_active.result in
    subst (λ (n : ℕ). All (λ x. x < n) c.successors-all.result.now) (count_nodes c.args.kept.now c.requires.sound ∙ sym as_many) (successors_below (nodes_in c.args.kept.now) c.args.node (option_copied c.args.next) c.successors-all.result.now c.requires.change c.successors-all.ensures)

pub index_mut-requires : goal.index_mut-requires
index_mut-requires c = omega (arith, c.requires.change.node, count_nodes c.args.kept.now c.requires.sound)

pub returns-clause-nodes : goal.returns-clause-nodes
returns-clause-nodes c =
    nodes_changed c.args.kept.now (slice_set c.args.kept.now.active.items c.args.node c.is_none-is_active.result) c.link_all.new.next.lists c.args.node c.is_none-is_active.result c.successors-all.result.now (option_copied c.args.next) c.requires.sound refl (none_answer c.args.next c.is_none-is_active.result c.is_none-is_active.ensures)
    (relinked c.args.kept.now.next.lists c.unlink_all.new.next.lists c.link_all.new.next.lists c.args.node c.successors-all.result.now (omega (arith, c.requires.change.node, count_nodes c.args.kept.now c.requires.sound, c.requires.sound.next)) c.unlink_all.ensures.next c.link_all.ensures.next) c.successors-all.ensures

pub returns-clause-sound : goal.returns-clause-sound
returns-clause-sound c =
    let lt : c.args.node < length c.args.kept.now.next.lists = omega (arith, c.requires.change.node, count_nodes c.args.kept.now c.requires.sound, c.requires.sound.next) in
    let lists = relinked c.args.kept.now.next.lists c.unlink_all.new.next.lists c.link_all.new.next.lists c.args.node c.successors-all.result.now lt c.unlink_all.ensures.next c.link_all.ensures.next in
    let nodes = nodes_changed c.args.kept.now (slice_set c.args.kept.now.active.items c.args.node c.is_none-is_active.result) c.link_all.new.next.lists c.args.node c.is_none-is_active.result c.successors-all.result.now (option_copied c.args.next) c.requires.sound refl (none_answer c.args.next c.is_none-is_active.result c.is_none-is_active.ensures) lists c.successors-all.ensures in
    let recounts = subst (λ (marks : List Bool). Recounts c.args.kept.now.groups.items c.recount.new.groups.items marks (slice_set marks c.args.node c.is_none-is_active.result)) c.deref.ensures.value c.recount.ensures.recounts in
    record {
      next = omega (arith, ap length lists, length-set c.args.kept.now.next.lists c.args.node c.successors-all.result.now, length-set c.args.kept.now.active.items c.args.node c.is_none-is_active.result, c.requires.sound.next);
      before = omega (arith, c.link_all.ensures.before, c.unlink_all.ensures.before, length-set c.args.kept.now.active.items c.args.node c.is_none-is_active.result, c.requires.sound.before);
      mirror = c.link_all.ensures.mirror;
      groups = groups_changed c.args.kept.now.groups.items c.recount.new.groups.items c.join_all.new.groups.items c.args.kept.now.active.items c.args.kept.now.next.lists c.link_all.new.next.lists c.args.node c.is_none-is_active.result c.successors-all.result.now c.requires.sound.groups recounts c.join_all.ensures.joins lists lt;
      lawful = subst IsLawfulGraph (sym nodes) (lawful_after (nodes_in c.args.kept.now) c.args.node (option_copied c.args.next) c.requires.sound.lawful c.requires.change c.requires.allowed);
    }

pub returns-clause-rooms : goal.returns-clause-rooms
returns-clause-rooms c =
    let old : length (list_of_node c.args.kept.now.next.lists c.args.node) ≡ length (next_of_node (nodes_in c.args.kept.now) c.args.node) = ap (λ (next : ℕ → List ℕ). length (next c.args.node)) (sym (same_steps c.args.kept.now None c.requires.sound.next)) in
    let new = ap length c.successors-all.ensures in
    record {
      count = length-set c.args.kept.now.active.items c.args.node c.is_none-is_active.result;
      capacity = refl;
      group_capacity = c.join_all.ensures.capacity ∙ c.recount.ensures.capacity;
      next_room = c.link_all.ensures.next_room ∙ c.unlink_all.ensures.next_room;
      before_room = c.link_all.ensures.before_room ∙ c.unlink_all.ensures.before_room;
      next_spare = omega (arith, old, new, c.link_all.ensures.next_spare, c.unlink_all.ensures.next_spare);
      before_spare = omega (arith, old, new, c.link_all.ensures.before_spare, c.unlink_all.ensures.before_spare);
    }
