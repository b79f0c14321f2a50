use Rattle.fact_boards.proofs.Safe.{still_asked, still_fit}
use Rattle.fact_boards.proofs.law.releases_are_safe.Goals as goal

pub returns-clause-asked : goal.returns-clause-asked
returns-clause-asked c old new id boards rows are r held s = still_asked old new id boards rows are r held s

pub returns-clause-fit : goal.returns-clause-fit
returns-clause-fit c old new id boards rows are sound r held s f = still_fit old new id boards rows are r held sound s f
