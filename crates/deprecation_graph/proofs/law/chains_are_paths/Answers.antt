use Rattle.deprecation_graph.proofs.ChainLemmas.{chains_are_paths_law}
use Rattle.deprecation_graph.proofs.law.chains_are_paths.Goals as goal

pub returns : goal.returns
returns c = chains_are_paths_law
