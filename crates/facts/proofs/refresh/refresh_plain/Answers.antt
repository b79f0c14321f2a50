use Rattle.std.proofs.Common.{List, false, subst}
use Rattle.cpe_rows.specs.declared.statement.Mode.TheVariants.{Plain}
use Rattle.name_index.specs.declared.table.NameId.{NameId}
use Rattle.fact_boards.specs.level_board.Board.{Board}
use Rattle.fact_rows.specs.Facts.{has_end_of_fact}
use Rattle.fact_rows.specs.Calls.{Refreshed}
use Rattle.facts.specs.Facts.{is_touched}
use Rattle.facts.proofs.MoveLemmas.{refreshed, untouched}
use Rattle.facts.proofs.refresh.refresh_plain.Goals as goal

pub returns-clause-facts : goal.returns-clause-facts
returns-clause-facts c names rows tickets are s =
    let t = c.args.plain.now in
    let new = c.refresh_facts.new.self in
    let board = c.args.boards.now.plain in
    let r : Refreshed t new (has_end_of_fact board.marks) Plain board =
    subst (λ (b : Board). Refreshed t new (has_end_of_fact board.marks) Plain b) c.board.ensures (subst (λ (ms : List NameId). Refreshed t new (has_end_of_fact ms) Plain c.board.result.now) c.marks.ensures.value c.refresh_facts.ensures) in
    refreshed names are Plain board (c.lawful.ensures.answers Plain) rows tickets t new (has_end_of_fact board.marks) (is_touched Plain board t) (λ q. false) r s (λ q used free apart. untouched Plain t board q (c.lawful.ensures.marks Plain) s.linked apart)
