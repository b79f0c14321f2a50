use Rattle.std.proofs.lemmas.Result.{IfOk-weaker}
use Rattle.deprecation_graph.proofs.KeptLemmas.{closed_before, kept_sources}
use Rattle.deprecation_graph.proofs.check.find_sources.Goals as goal

pub find_all-requires-clause-closed : goal.find_all-requires-clause-closed
find_all-requires-clause-closed c = closed_before c.args.kept.now c.requires.kept

pub returns : goal.returns
returns c = IfOk-weaker c.find_all.result _ _ (λ v h. kept_sources c.args.kept.now c.args.node v.items c.requires.kept c.requires.node h) c.find_all.ensures
