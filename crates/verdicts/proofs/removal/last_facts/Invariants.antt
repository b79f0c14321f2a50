use Rattle.std.proofs.Common.{◌≡◌, ◌++◌, drop}
use Rattle.std.specs.Prelude.{filter}
use Rattle.name_index.specs.declared.table.NameId.{NameId}
use Rattle.facts.specs.fact_rows.Facts.{users_of}
use Rattle.facts.specs.ticket_list.Tickets.{is_empty, without}
use Rattle.facts.specs.Facts.{table_of}
use Rattle.verdicts.proofs.removal.last_facts.Given as goal

abbrev pub invariant-loop-id : goal.invariant-loop-id
invariant-loop-id l =
    l.last.items ++ filter (λ (x : NameId). is_empty (without l.ticket (users_of (table_of l.facts l.mode) x.0))) (drop l.id-index l.ids)
    ≡ filter (λ (x : NameId). is_empty (without l.ticket (users_of (table_of l.facts l.mode) x.0))) l.ids
