-- Steps of the search for a path to an end.
use Rattle.std.specs.Prelude.{List, [], ◌∷◌, ◌++◌, if◌then◌else◌}
use Rattle.std.specs.List.{list_any}
use Rattle.cpe_rows.specs.cpe_name.Eleven.{Values}
use Rattle.cpe_rows.specs.Names.{is_same}
use Rattle.cpe_rows.specs.declared.entry.Entry.{Entry}
use Rattle.certificate_check.specs.Leading.{next_of}
use Rattle.certificate_search.specs.declared.paths.StepRef.{StepRef}

-- a name, and those of its successors that are still to be tried
pub record Step : Type 0 where
  pub name : Values
  pub left : List Values

-- the step that a reference to a step means
abbrev pub lent_step : StepRef → Step
lent_step s = record { name = s.name.now; left = s.left.now }

-- the step to a name, with all its successors still to be tried
abbrev pub step_to : List Entry → Values → Step
step_to entries n = record { name = n; left = next_of entries n }

-- the steps, and then the step to the name, unless the name was seen before
abbrev pub with_step : List Entry → List Values → List Step → Values → List Step
with_step entries seen steps n = if list_any (is_same n) seen then steps else steps ++ step_to entries n ∷ []
