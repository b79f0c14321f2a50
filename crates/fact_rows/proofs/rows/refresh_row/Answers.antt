use Rattle.std.specs.Map.{set_value}
use Rattle.std.specs.Prelude.{nat_eq}
use Rattle.std.proofs.Common.{◌+◌, ℕ, Bool, List, sym, ap, ◌∙◌}
use Rattle.fact_rows.specs.declared.row.FactRow.{FactRow}
use Rattle.fact_rows.specs.Facts.{leads_by}
use Rattle.fact_rows.specs.Rows.{count_if, fact_row_with, unchanged}
use Rattle.fact_rows.specs.Truths.{truth_at_ends}
use Rattle.fact_rows.proofs.RowLemmas.{seen_counts}
use Rattle.fact_rows.proofs.rows.refresh_row.Goals as goal

pub returns-in-Some-clause-many : goal.returns-in-Some-clause-many
returns-in-Some-clause-many c =
    let rows = c.args.rows.now.entries in
    let old = c.in-Some.row.now in
    let truth = truth_at_ends c.args.board.now (leads_by c.args.mode c.args.fact.0 old.ends.items) in
    ap (λ (next : List (ℕ × FactRow)). unchanged next + count_if c.refresh.result) ((c.get_mut.follows.holds c.refresh.new.self).0 ∙ ap (λ (w : FactRow). set_value (nat_eq c.args.fact.0) rows w) c.refresh.ensures.row)
    ∙ ap {B = ℕ} (λ (b : Bool). unchanged (set_value (nat_eq c.args.fact.0) rows (fact_row_with truth old)) + count_if b) c.refresh.ensures.news
    ∙ seen_counts rows c.args.fact.0 old truth (sym c.in-Some.ensures.value)
