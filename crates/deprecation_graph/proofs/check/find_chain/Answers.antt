use Rattle.std.proofs.lemmas.Result.{IfOk-weaker}
use Rattle.deprecation_graph.proofs.KeptLemmas.{closed_lists, kept_chain}
use Rattle.deprecation_graph.proofs.check.find_chain.Goals as goal

pub find_all-requires-clause-closed : goal.find_all-requires-clause-closed
find_all-requires-clause-closed c = closed_lists c.args.kept.now c.args.change c.requires.kept c.requires.closed

pub returns : goal.returns
returns c = IfOk-weaker c.find_all.result _ _ (λ v h. kept_chain c.args.kept.now c.args.change c.args.start v.items c.requires.kept c.requires.closed c.requires.start h) c.find_all.ensures
