use Rattle.std.proofs.Common.{take, ◌≡◌}
use Rattle.fact_rows.specs.Facts.{has_end_of_fact}
use Rattle.facts.specs.Calls.{UsersRemoved}
use Rattle.facts.proofs.users.remove_users.Given as goal

abbrev pub invariant-loop-id : goal.invariant-loop-id
invariant-loop-id l = record {
  less : UsersRemoved l.initial.facts l.facts (has_end_of_fact (take l.id-index l.ids)) l.ticket;
  changed : l.facts.changed ≡ l.initial.facts.changed;
}
