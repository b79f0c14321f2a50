use Rattle.std.proofs.Common.{sym, subst}
use Rattle.std.proofs.lemmas.Result.{IfOk-weaker}
use Rattle.deprecation_graph.specs.Chains.{IsChain}
use Rattle.deprecation_graph.specs.Indexed.{list_of_node}
use Rattle.deprecation_graph.specs.Kept.{lists_after}
use Rattle.deprecation_graph.proofs.SearchLemmas.{reached_is_chain}
use Rattle.deprecation_graph.proofs.search.find_all.Goals as goal

pub returns : goal.returns
returns c =
    let next = list_of_node (lists_after c.args.lists.now.lists c.args.change) in
    IfOk-weaker c.keys.result _ _ (λ v e. subst (IsChain next c.args.start) (sym e) (reached_is_chain next c.args.start c.in_ok-found.found c.in_ok-found.ensures)) c.keys.ensures
