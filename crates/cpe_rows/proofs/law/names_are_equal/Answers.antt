use Rattle.cpe_rows.proofs.NameTests.{same_is, is_lower_is, same_in_lower}
use Rattle.cpe_rows.proofs.law.names_are_equal.Goals as goal

pub returns-clause-same : goal.returns-clause-same
returns-clause-same c = same_is

pub returns-clause-lower : goal.returns-clause-lower
returns-clause-lower c = is_lower_is

pub returns-clause-regardless_of_case : goal.returns-clause-regardless_of_case
returns-clause-regardless_of_case c = same_in_lower
