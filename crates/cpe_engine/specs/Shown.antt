-- Items that names of facts cover or may cover, by the names to which items lead.
use Rattle.std.specs.Prelude.{◌≡◌, List, true}
use Rattle.std.specs.List.{list_any}
use Rattle.cpe_rows.specs.cpe_name.Eleven.{Values}
use Rattle.cpe_rows.specs.Names.{is_same}
use Rattle.cpe_rows.specs.Rows.{Rows}
use Rattle.cpe_rows.specs.declared.statement.Mode.{Mode}
use Rattle.engine_edits.specs.fact_laws.Asked.{leads}
use Rattle.certificate_search.specs.certificate_check.Relates.{related}
use Rattle.certificate_search.specs.certificate_check.declared.relates.Relates.{Relates}

-- An item is found exactly if it leads, in this mode, to a name that one of the names covers, or may cover: `relates` says which.
abbrev pub AreShown : Rows → Mode → Relates → List Values → List Values → Type 0
AreShown rows mode relates names found = (n : Values) → list_any (is_same n) rows.items ≡ true → list_any (is_same n) found ≡ list_any (λ f. list_any (related relates f) (leads rows.entries mode n)) names
