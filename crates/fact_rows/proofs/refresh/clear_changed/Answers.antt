use Rattle.std.proofs.Common.{◌≡◌, ◌+◌, ◌≤◌, ◌&&◌, ℕ, List, not, length, subst, arith}
use Rattle.name_index.specs.declared.table.NameId.{NameId}
use Rattle.fact_rows.specs.Facts.{has_end_of_fact}
use Rattle.fact_rows.specs.Rows.{is_changed, fact_row_at, unchanged}
use Rattle.fact_rows.proofs.ChangeLemmas.{changes_cleared}
use Rattle.fact_rows.proofs.refresh.clear_changed.Goals as goal

pub returns-clause-changes : goal.returns-clause-changes
returns-clause-changes c =
    let rows = c.args.rows.now.entries in
    let next = c.clear_rows.new.rows.entries in
    let marks = subst (λ (ids : List NameId). (q : ℕ) → is_changed (fact_row_at next q) ≡ (is_changed (fact_row_at rows q) && not (has_end_of_fact ids q))) c.deref.ensures.value c.clear_rows.ensures.marks in
    let many = subst (λ (ids : List NameId). unchanged next ≤ unchanged rows + length ids) c.deref.ensures.value c.clear_rows.ensures.many in
    changes_cleared rows c.args.changed.now c.requires next c.clear.new.self marks many c.clear.ensures.items (omega (arith, c.clear.ensures.capacity))
