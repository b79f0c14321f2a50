use Rattle.std.proofs.Common.{sym, ◌∙◌}
use Rattle.statement_rows.proofs.TakeLemmas.{row_taken, row_there}
use Rattle.statement_rows.proofs.rows.take_row.Goals as goal

pub returns-in-Some-clause-row : goal.returns-in-Some-clause-row
returns-in-Some-clause-row c =
    c.remove.ensures.element ∙ (row_taken c.args.place c.in-Some.ticket c.args.rows.now.items c.requires.rising (sym c.in-Some.ensures)).0

pub returns-in-Some-clause-rows : goal.returns-in-Some-clause-rows
returns-in-Some-clause-rows c =
    c.remove.ensures.items ∙ (row_taken c.args.place c.in-Some.ticket c.args.rows.now.items c.requires.rising (sym c.in-Some.ensures)).1

pub returns-in-None-clause-rows : goal.returns-in-None-clause-rows
returns-in-None-clause-rows c = absurd (row_there c.args.place c.args.rows.now.items c.requires.place c.in-None.ensures)
