use Rattle.std.proofs.Common.{[], ◌∷◌}
use Rattle.cpe_rows.specs.declared.truth.Truth.TheVariants.{True, False, Error, Unknown}
use Rattle.cpe_rows.proofs.Tables.{same_first}
use Rattle.cpe_rows.proofs.law.tables_are_of_members.Goals as goal

pub returns-clause-and_all : goal.returns-clause-and_all
returns-clause-and_all c = same_first (False ∷ Error ∷ Unknown ∷ []) True

pub returns-clause-or_all : goal.returns-clause-or_all
returns-clause-or_all c = same_first (True ∷ Error ∷ Unknown ∷ []) False
