use Rattle.std.proofs.Common.{◌≡◌, ◌++◌, drop}
use Rattle.std.specs.Prelude.{filter, not}
use Rattle.name_index.specs.declared.table.NameId.{NameId}
use Rattle.facts.specs.Facts.{is_used, table_of}
use Rattle.verdicts.proofs.fresh.unused_of.Given as goal

abbrev pub invariant-loop-id : goal.invariant-loop-id
invariant-loop-id l =
    l.unused.items ++ filter (λ (x : NameId). not (is_used (table_of l.facts l.mode) x.0)) (drop l.id-index l.ids)
    ≡ filter (λ (x : NameId). not (is_used (table_of l.facts l.mode) x.0)) l.ids
