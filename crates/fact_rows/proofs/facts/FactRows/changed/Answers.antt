use Rattle.std.proofs.Common.{◌≡◌, ℕ, true, subst}
use Rattle.fact_rows.specs.Facts.{FactTable, has_end_of_fact, is_fact, times_among}
use Rattle.fact_rows.specs.Rows.{count_if}
use Rattle.fact_rows.proofs.ChangeLemmas.{changed_are_facts, changed_once}
use Rattle.fact_rows.proofs.facts.FactRows.changed.Goals as goal

pub returns-clause-facts : goal.returns-clause-facts
returns-clause-facts c =
    subst (λ (t : FactTable). (q : ℕ) → has_end_of_fact t.changed q ≡ true → is_fact t q ≡ true) c.self.view_is (changed_are_facts c.self.inside.rows.entries c.self.inside.changed c.self.invariant.changes)

pub returns-clause-once : goal.returns-clause-once
returns-clause-once c =
    subst (λ (t : FactTable). (q : ℕ) → times_among t.changed q ≡ count_if (has_end_of_fact t.changed q)) c.self.view_is (changed_once c.self.inside.rows.entries c.self.inside.changed c.self.invariant.changes)
