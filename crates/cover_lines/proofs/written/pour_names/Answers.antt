use Rattle.std.proofs.Common.{◌++◌, ℕ, List, subst}
use Rattle.std.proofs.lemmas.Result.{on_ok_weaker}
use Rattle.line_session.specs.cpe_io.Writes.{AppendsPrefix}
use Rattle.line_session.specs.Pages.{Pours}
use Rattle.cover_lines.specs.Lines.{name_line}
use Rattle.cover_lines.proofs.LineRows.{row_each}
use Rattle.cover_lines.proofs.written.pour_names.Goals as goal

pub returns-clause-ok : goal.returns-clause-ok
returns-clause-ok g c =
    on_ok_weaker c.pour_table.result
    (subst (λ (text : List ℕ). Pours (g.K.Sink.held c.args.sink.now) (g.K.Sink.held c.pour_table.new.sink) c.args.page.now c.pour_table.new.page text) (row_each name_line c.args.names.now))
    c.pour_table.ensures.ok

pub returns-clause-prefix : goal.returns-clause-prefix
returns-clause-prefix g c =
    subst (λ (text : List ℕ). AppendsPrefix (g.K.Sink.held c.args.sink.now) (g.K.Sink.held c.pour_table.new.sink) (c.args.page.now ++ text)) (row_each name_line c.args.names.now) c.pour_table.ensures.prefix
