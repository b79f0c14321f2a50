use Rattle.std.proofs.Common.{◌≡◌, ◌+◌, ◌≤◌, ◌&&◌, ℕ, not, take}
use Rattle.fact_rows.specs.Facts.{fact_row_in, has_end_of_fact}
use Rattle.fact_rows.specs.Rows.{is_changed, fact_row_at, unchanged}
use Rattle.fact_rows.proofs.refresh.clear_rows.Given as goal

abbrev pub invariant-loop-fact : goal.invariant-loop-fact
invariant-loop-fact l = record {
  facts : (q : ℕ) → fact_row_in l.rows.entries q ≡ fact_row_in l.initial.rows.entries q;
  marks : (q : ℕ) → is_changed (fact_row_at l.rows.entries q) ≡ (is_changed (fact_row_at l.initial.rows.entries q) && not (has_end_of_fact (take l.fact-index l.facts) q));
  many : unchanged l.rows.entries ≤ unchanged l.initial.rows.entries + l.fact-index;
}
