use Rattle.std.proofs.Common.{◌≡◌, ◌++◌, [], subst}
use Rattle.cpe_dictionary.specs.Kept.{names_of_entries}
use Rattle.fact_laws.specs.Shown.{holds_in, Shows}
use Rattle.engine_edits.proofs.parts.EngineParts.new.Goals as goal

pub returns-clause-rows : goal.returns-clause-rows
returns-clause-rows c =
    let none = c.new.ensures in
    let verdicts = c.new-2.ensures c.new.result.table in
    λ k. record { entries = none.entries k; items = none.items k; statements = verdicts.statements k; checks = verdicts.checks k }

pub returns-clause-are : goal.returns-clause-are
returns-clause-are c =
    let none = c.new.ensures in
    let r = c.new.result in
    let names : names_of_entries r.entries ++ r.items ≡ [] = λ k. names_of_entries (none.entries k) ++ none.items k in
    record { entries = none.entries; items = none.items; held = subst (Shows r.table (holds_in r.table)) names none.held; verdicts = c.new-2.ensures r.table }
