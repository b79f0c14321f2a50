use Rattle.std.proofs.Common.{refl}
use Rattle.line_session.proofs.Pouring.{Pours-text, Pours-text_fault, where_ok}
use Rattle.line_session.proofs.table.pour_text.Goals as goal

pub returns-clause-ok : goal.returns-clause-ok
returns-clause-ok g c =
    where_ok c.write_all.result (Pours-text c.in_ok-flush_if_due.ensures.ok (c.in_ok-flush_if_due.ensures.due refl)) c.write_all.ensures.ok

pub returns-clause-prefix : goal.returns-clause-prefix
returns-clause-prefix g c = Pours-text_fault c.in_ok-flush_if_due.ensures.ok (c.in_ok-flush_if_due.ensures.due refl) c.write_all.ensures.prefix
