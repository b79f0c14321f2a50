-- The plan of an edit: a change of a deprecation has one before it is made.
use Rattle.std.specs.Prelude.{⊤, List, Option, Some, None}
use Rattle.cpe_rows.specs.cpe_name.Eleven.{Values}
use Rattle.cpe_rows.specs.declared.entry.Entry.{Entry}
use Rattle.cpe_rows.specs.declared.entry.Deprecation.{Deprecation}
use Rattle.cpe_rows.specs.declared.edit.Edit.{Edit}
use Rattle.cpe_rows.specs.declared.edit.Edit.TheVariants as edit
use Rattle.cpe_dictionary.specs.Plans.{IsPlan}
use Rattle.cpe_dictionary.specs.declared.plans.Plan.{Plan}

-- there is a plan, and by it the entry of this name gets this deprecation, or none
abbrev pub HasPlan : List Entry → Values → Option Deprecation → Option Plan → Type 0
HasPlan es n d None = ⊥
HasPlan es n d (Some p) = IsPlan es n d p

abbrev pub IsPlanOfEdit : List Entry → Edit → Option Plan → Type 0
IsPlanOfEdit es (edit.Deprecate n d date comment) o = HasPlan es n (Some d) o
IsPlanOfEdit es (edit.Amend n d date comment) o = HasPlan es n (Some d) o
IsPlanOfEdit es (edit.Restore n date comment) o = HasPlan es n None o
IsPlanOfEdit es e o = ⊤
