-- The names of a test's facts, in the order in which the test lists them, and the number of facts.
use Rattle.std.specs.Prelude.{ℕ, List, [], ◌∷◌, length}
use Rattle.std.specs.List.{flat_map}
use Rattle.cpe_name.specs.Eleven.{Values}
use Rattle.cpe_rows.specs.declared.statement.Statement.{Statement}
use Rattle.cpe_rows.specs.declared.test.Test.{Test}
use Rattle.cpe_rows.specs.declared.test.Test.TheOpen.{Test-F}
use Rattle.cpe_rows.specs.declared.test.Test.TheFolds.{fold-Test}

abbrev pub fact_names_step : Test-F (List Values) → List Values
fact_names_step (Test-F.Logic operator negate of) = flat_map (λ names. names) of
fact_names_step (Test-F.Fact name) = name ∷ []
fact_names_step (Test-F.Check key) = []

-- the names of the facts; a repeated fact is listed each time
abbrev pub fact_names : Test → List Values
fact_names = fold-Test (List Values) fact_names_step

-- the number of facts in all statements; a repeated fact counts each time
abbrev pub number_of_facts : List Statement → ℕ
number_of_facts statements = length (flat_map (λ s. fact_names s.test) statements)
