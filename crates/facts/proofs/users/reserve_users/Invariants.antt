use Rattle.std.proofs.Common.{◌≡◌, ℕ, take, true}
use Rattle.fact_rows.specs.Facts.{has_end_of_fact, has_fact_room, truth_of_fact}
use Rattle.fact_rows.specs.Calls.{SameFacts}
use Rattle.facts.proofs.users.reserve_users.Given as goal

abbrev pub invariant-loop-id : goal.invariant-loop-id
invariant-loop-id l = record {
  same : SameFacts l.initial.facts l.facts;
  truths : (q : ℕ) → truth_of_fact l.facts q ≡ truth_of_fact l.initial.facts q;
  changed : l.facts.changed ≡ l.initial.facts.changed;
  room : (q : ℕ) → has_end_of_fact (take l.id-index l.ids) q ≡ true → has_fact_room l.facts q ≡ true;
}
