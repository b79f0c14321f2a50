use Rattle.std.proofs.Common.{List, false, subst}
use Rattle.cpe_rows.specs.declared.statement.Mode.TheVariants.{Follow}
use Rattle.name_index.specs.declared.table.NameId.{NameId}
use Rattle.fact_boards.specs.level_board.Board.{Board}
use Rattle.fact_rows.specs.Facts.{is_under_one}
use Rattle.fact_rows.specs.Calls.{Refreshed}
use Rattle.facts.specs.Facts.{is_touched}
use Rattle.facts.proofs.MoveLemmas.{refreshed, untouched}
use Rattle.facts.proofs.refresh.refresh_follow.Goals as goal

pub returns-clause-facts : goal.returns-clause-facts
returns-clause-facts c names rows tickets are s =
    let t = c.args.follow.now in
    let new = c.refresh_ends.new.self in
    let board = c.args.boards.now.follow in
    let r : Refreshed t new (is_under_one t board.marks) Follow board =
    subst (λ (b : Board). Refreshed t new (is_under_one t board.marks) Follow b) c.board.ensures (subst (λ (ms : List NameId). Refreshed t new (is_under_one t ms) Follow c.board.result.now) c.marks.ensures.value c.refresh_ends.ensures) in
    refreshed names are Follow board (c.lawful.ensures.answers Follow) rows tickets t new (is_under_one t board.marks) (is_touched Follow board t) (λ q. false) r s (λ q used free apart. untouched Follow t board q (c.lawful.ensures.marks Follow) s.linked apart)
