use Rattle.fact_rows.proofs.RowLemmas.{put_counts}
use Rattle.fact_rows.proofs.rows.insert_row.Goals as goal

pub returns-clause-many : goal.returns-clause-many
returns-clause-many c = put_counts c.args.rows.now c.insert.new.self c.args.fact c.args.row c.insert.result c.requires.none (c.insert.ensures.succeeds c.requires.spare) c.insert.ensures.old c.insert.ensures.entries
