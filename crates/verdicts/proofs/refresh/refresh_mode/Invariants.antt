use Rattle.std.proofs.Common.{◌≡◌, take}
use Rattle.std.specs.List.{flat_map}
use Rattle.name_index.specs.declared.table.NameId.{NameId}
use Rattle.facts.specs.fact_rows.Facts.{users_of}
use Rattle.facts.specs.Facts.{table_of}
use Rattle.statement_rows.specs.State.{SameRoom, at_tickets, judge}
use Rattle.verdicts.specs.Verdicts.{truths_in}
use Rattle.verdicts.proofs.refresh.refresh_mode.Given as goal

abbrev pub invariant-loop-fact : goal.invariant-loop-fact
invariant-loop-fact l = record {
  rows : l.statements.rows ≡ at_tickets (flat_map (λ (id : NameId). users_of (table_of l.facts l.mode) id.0) (take l.fact-index l.fact-items)) (judge (truths_in l.truths.facts.now) l.initial.statements.checks) l.initial.statements.rows;
  checks : l.statements.checks ≡ l.initial.statements.checks;
  room : SameRoom l.initial.statements l.statements;
}
