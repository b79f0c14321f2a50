use Rattle.std.proofs.Common.{◌≡◌, take}
use Rattle.std.specs.List.{flat_map}
use Rattle.name_index.specs.declared.table.NameId.{NameId}
use Rattle.facts.specs.fact_rows.Facts.{leads_of}
use Rattle.facts.specs.Facts.{table_of}
use Rattle.verdicts.proofs.ends.leads_of_all.Given as goal

abbrev pub invariant-loop-number : goal.invariant-loop-number
invariant-loop-number l = l.all.items ≡ flat_map (λ (x : NameId). leads_of l.mode (table_of l.facts l.mode) x.0) (take l.number-index l.numbers)
