use Rattle.std.proofs.Common.{◌∙◌, List, sym, subst}
use Rattle.deprecation_graph.specs.Groups.{AreNodesGrouped, IsGroupOf}
use Rattle.deprecation_graph.specs.declared.groups.GroupMember.{GroupMember}
use Rattle.deprecation_graph.proofs.StoredLemmas.{kept_grouped}
use Rattle.deprecation_graph.proofs.EnclosedLemmas.{differ, other_group}
use Rattle.deprecation_graph.proofs.check.is_elsewhere.Goals as goal

pub find_group-requires-clause-grouped : goal.find_group-requires-clause-grouped
find_group-requires-clause-grouped c = subst AreNodesGrouped (sym c.deref.ensures.value) (kept_grouped c.args.kept.now c.requires.kept)

pub find_group-requires-2-clause-grouped : goal.find_group-requires-2-clause-grouped
find_group-requires-2-clause-grouped c = subst AreNodesGrouped (sym c.deref-2.ensures.value) (kept_grouped c.args.kept.now c.requires.kept)

pub returns : goal.returns
returns c =
    let kept = c.args.kept.now in
    let groups = c.requires.kept.groups in
    let from = subst (λ (ms : List GroupMember). IsGroupOf ms c.args.from c.in-Some.from_group) c.deref.ensures.value c.in-Some.ensures.name in
    let to = subst (λ (ms : List GroupMember). IsGroupOf ms c.args.to c.in-Some-find_group.to_group) c.deref-2.ensures.value c.in-Some-find_group.ensures.name in
    λ other. other_group kept c.requires.kept c.args.from c.args.to (λ same. differ c.in-Some.from_group c.in-Some-find_group.to_group other (from kept.active.items groups.group groups.members ∙ same ∙ sym (to kept.active.items groups.group groups.members)))
