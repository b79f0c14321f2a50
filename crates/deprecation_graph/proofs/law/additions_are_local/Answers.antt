use Rattle.deprecation_graph.proofs.LawLemmas.{additions_are_local_law, additions_are_alone_law}
use Rattle.deprecation_graph.proofs.law.additions_are_local.Goals as goal

pub returns-clause-others : goal.returns-clause-others
returns-clause-others c = additions_are_local_law

pub returns-clause-alone : goal.returns-clause-alone
returns-clause-alone c = additions_are_alone_law
