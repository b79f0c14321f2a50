use Rattle.advise_versions.proofs.OrderLemmas.{versions_ordered}
use Rattle.advise_versions.proofs.law.versions_are_ordered.Goals as goal

pub returns : goal.returns
returns c = versions_ordered
