use Rattle.deprecation_graph.proofs.LawLemmas.{changes_are_local_law, sources_stay_law}
use Rattle.deprecation_graph.proofs.law.changes_are_local.Goals as goal

pub returns-clause-others : goal.returns-clause-others
returns-clause-others c = changes_are_local_law

pub returns-clause-sources : goal.returns-clause-sources
returns-clause-sources c = sources_stay_law
