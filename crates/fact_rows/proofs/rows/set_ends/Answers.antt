use Rattle.std.proofs.Common.{ℕ, List, refl, sym, subst}
use Rattle.fact_rows.specs.declared.row.FactRow.{FactRow}
use Rattle.fact_rows.specs.Rows.{KeepsChanged}
use Rattle.fact_rows.proofs.RowLemmas.{write_keeps}
use Rattle.fact_rows.proofs.rows.set_ends.Goals as goal

pub returns-in-Some-clause-marks : goal.returns-in-Some-clause-marks
returns-in-Some-clause-marks c =
    let rows = c.args.rows.now.entries in
    let old = c.in-Some.row.now in
    let row : FactRow = record { ends = c.args.ends; users = old.users; truth = old.truth; changed = old.changed } in
    subst (λ (next : List (ℕ × FactRow)). KeepsChanged rows next) (sym (c.get_mut.follows.holds row).0) (write_keeps rows c.args.fact old row (sym c.in-Some.ensures.value) refl)
