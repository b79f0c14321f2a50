use Rattle.std.proofs.Common.{ℕ, List, sym, subst}
use Rattle.fact_rows.specs.declared.row.FactRow.{FactRow}
use Rattle.fact_rows.specs.Rows.{KeepsChanged}
use Rattle.fact_rows.proofs.RowLemmas.{write_keeps}
use Rattle.fact_rows.proofs.rows.add_user.Goals as goal

pub returns-in-Some-clause-marks : goal.returns-in-Some-clause-marks
returns-in-Some-clause-marks c =
    let rows = c.args.rows.now.entries in
    let row = c.add_user.new.self in
    subst (λ (next : List (ℕ × FactRow)). KeepsChanged rows next) (sym (c.get_mut.follows.holds row).0) (write_keeps rows c.args.fact c.in-Some.row.now row (sym c.in-Some.ensures.value) c.add_user.ensures.changed)
