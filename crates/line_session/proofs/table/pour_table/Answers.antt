use Rattle.std.proofs.Common.{ℕ, ◌<◌, ◌∙◌, subst}
use Rattle.line_session.proofs.Pouring.{Pours-row, Pours-row_fault}
use Rattle.line_session.proofs.table.pour_table.Goals as goal

-- a fault occurred at a row
pub returns-in_err-pour_row-clause-prefix : goal.returns-in_err-pour_row-clause-prefix
returns-in_err-pour_row-clause-prefix g c =
    let below = subst (λ (n : ℕ). c.loop-k.k < n) c.len-count.ensures c.loop-k-test.true in
    Pours-row_fault (g.R.Table.text c.args.table.now) c.loop-k.k (g.R.Table.count c.args.table.now) below c.loop-k.invariant.pours c.pour_row.ensures.prefix

pub loop-k-preserved : goal.loop-k-preserved
loop-k-preserved g c = record {
  pours = Pours-row (g.R.Table.text c.args.table.now) c.loop-k.k c.loop-k.invariant.pours c.in_ok-pour_row.ensures.ok;
  still = c.in_ok-pour_row.ensures.cause.still ∙ c.loop-k.invariant.still;
}
