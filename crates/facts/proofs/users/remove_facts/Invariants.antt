use Rattle.std.proofs.Common.{take, ◌≡◌}
use Rattle.fact_rows.specs.Facts.{has_end_of_fact}
use Rattle.facts.specs.Calls.{FactsRemoved}
use Rattle.facts.proofs.users.remove_facts.Given as goal

abbrev pub invariant-loop-fact : goal.invariant-loop-fact
invariant-loop-fact l = record {
  removed : FactsRemoved l.initial.facts l.facts (has_end_of_fact (take l.fact-index l.last));
  changed : l.facts.changed ≡ l.initial.facts.changed;
}
