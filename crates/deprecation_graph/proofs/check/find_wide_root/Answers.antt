use Rattle.std.proofs.Common.{◌∙◌, length, sym, subst, arith}
use Rattle.std.specs.Option.{option_copied}
use Rattle.std.proofs.lemmas.Result.{IfOk-weaker}
use Rattle.deprecation_graph.specs.Kept.{AreFewSuccessors}
use Rattle.deprecation_graph.proofs.KeptLemmas.{kept_successors, length-nodes_of, one_below}
use Rattle.deprecation_graph.proofs.RootLemmas.{wide_root, few_root}
use Rattle.deprecation_graph.proofs.check.find_wide_root.Goals as goal

pub are_few-requires : goal.are_few-requires
are_few-requires c = kept_successors c.args.kept.now c.args.change.node (option_copied c.args.change.next) c.successors.result.now c.requires.kept c.requires.change.names c.successors.ensures

pub returns-then-are_few : goal.returns-then-are_few
returns-then-are_few c = sym (few_root c.args.kept.now c.args.change.node (option_copied c.args.change.next) c.requires.kept c.requires.change c.requires.root c.requires.acyclic (subst (AreFewSuccessors c.args.kept.now.active.items) c.successors.ensures (c.are_few.ensures c.if-are_few.true)))

pub find_wide_among-requires-clause-nodes : goal.find_wide_among-requires-clause-nodes
find_wide_among-requires-clause-nodes c = one_below c.args.change.node (length c.args.kept.now.active.items) (omega (arith, c.requires.change.names.node, length-nodes_of c.args.kept.now.active.items c.args.kept.now.next.lists c.requires.kept.next))

pub returns : goal.returns
returns c = IfOk-weaker c.find_wide_among.result _ _ (λ v e. e ∙ wide_root c.args.kept.now c.args.change.node (option_copied c.args.change.next) c.requires.kept c.requires.change.names c.requires.root) c.find_wide_among.ensures
