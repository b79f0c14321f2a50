use Rattle.std.proofs.Common.{◌∙◌, Bool, true, false, cond, List, sym, ap, subst}
use Rattle.std.specs.List.{list_any}
use Rattle.std.proofs.lemmas.Result.{IfOk-weaker}
use Rattle.cpe_rows.specs.cpe_name.Eleven.{Values}
use Rattle.cpe_rows.specs.cpe_relation.Maybe.{maybe}
use Rattle.cpe_rows.specs.cpe_relation.NameRelation.{covers}
use Rattle.cpe_rows.specs.Names.{is_same}
use Rattle.name_index.specs.declared.table.NameId.{NameId}
use Rattle.name_index.specs.Table.{kept_at, Names}
use Rattle.facts.specs.level_board.Board.{Board, FitsBoard}
use Rattle.facts.specs.fact_laws.Shown.{names_at}
use Rattle.facts.specs.fact_laws.Asked.{target_names}
use Rattle.fact_boards.specs.Kept.{AreFactNames, board_of_mode, Boards}
use Rattle.verdicts.specs.Items.{ArePassing, items_of_fact}
use Rattle.verdicts.specs.Verdicts.{HasVerdicts, tickets_in, VerdictsNow}
use Rattle.verdicts.proofs.ItemsTo.{found_live, found_names, led_in, passing_there}
use Rattle.verdicts.proofs.TableLemmas.{mode_of}
use Rattle.verdicts.proofs.verdicts.Verdicts.items_found.Goals as goal

passing_either : (surely : Bool) (table : Names) (board : Board) (n : Values) (sure possible : List NameId) → ArePassing table board (covers n) sure → ArePassing table board (maybe n) possible
    → ArePassing table board (cond surely (covers n) (maybe n)) (cond surely sure possible)
passing_either true table board n sure possible covered may = covered
passing_either false table board n sure possible covered may = may

pub met_uncounted-requires-clause-fits : goal.met_uncounted-requires-clause-fits
met_uncounted-requires-clause-fits c =
    let rows = c.requires.rows_before.0 in
    let table = c.args.registry.now.table in
    let h = subst (λ (v : VerdictsNow). HasVerdicts table v rows) (sym c.self.view_is) c.requires.rows_before.1.verdicts in
    let fits = (mode_of table c.self.inside.facts rows (tickets_in c.self.inside.statements.rows) h.facts c.args.mode).fits in
    subst (λ (b : Boards). FitsBoard (board_of_mode b c.args.mode) c.table.result.now) (sym c.boards.ensures) (subst (FitsBoard (board_of_mode c.self.inside.facts.boards c.args.mode)) (sym c.table.ensures) fits)

pub items_to-requires : goal.items_to-requires
items_to-requires c =
    let table = c.args.registry.now.table in
    let boards = c.self.inside.facts.boards in
    let mode = c.args.mode in
    let n = c.args.name.now in
    let p : Values → Bool = cond c.args.surely (covers n) (maybe n) in
    let found : List NameId = cond c.args.surely c.in_ok-found.found.covered.items c.in_ok-found.found.maybe.items in
    let sure = passing_there c.table.result.now table c.boards.result.now boards mode (covers n) c.in_ok-found.found.covered.items c.table.ensures c.boards.ensures c.in_ok-found.ensures.covered in
    let possible = passing_there c.table.result.now table c.boards.result.now boards mode (maybe n) c.in_ok-found.found.maybe.items c.table.ensures c.boards.ensures c.in_ok-found.ensures.maybe in
    let rows = c.requires.rows_before.0 in
    let h = subst (λ (v : VerdictsNow). HasVerdicts table v rows) (sym c.self.view_is) c.requires.rows_before.1.verdicts in
    let shows = (mode_of table c.self.inside.facts rows (tickets_in c.self.inside.statements.rows) h.facts mode).shows.there in
    subst (AreFactNames table) (sym c.either_of.ensures)
    (found_live table (board_of_mode boards mode) (target_names rows mode) (λ (id : NameId). p (kept_at table id.0).name) found (c.lawful-2.ensures.on mode) shows
    (passing_either c.args.surely table (board_of_mode boards mode) n c.in_ok-found.found.covered.items c.in_ok-found.found.maybe.items sure possible))

pub returns-clause-items : goal.returns-clause-items
returns-clause-items c rows are =
    let registry = c.args.registry.now in
    let table = registry.table in
    let boards = c.self.inside.facts.boards in
    let mode = c.args.mode in
    let n = c.args.name.now in
    let p : Values → Bool = cond c.args.surely (covers n) (maybe n) in
    let found : List NameId = cond c.args.surely c.in_ok-found.found.covered.items c.in_ok-found.found.maybe.items in
    let sure = passing_there c.table.result.now table c.boards.result.now boards mode (covers n) c.in_ok-found.found.covered.items c.table.ensures c.boards.ensures c.in_ok-found.ensures.covered in
    let possible = passing_there c.table.result.now table c.boards.result.now boards mode (maybe n) c.in_ok-found.found.maybe.items c.table.ensures c.boards.ensures c.in_ok-found.ensures.maybe in
    let h = subst (λ (v : VerdictsNow). HasVerdicts table v rows) (sym c.self.view_is) are.verdicts in
    let shows = (mode_of table c.self.inside.facts rows (tickets_in c.self.inside.statements.rows) h.facts mode).shows.there in
    let named = found_names table (board_of_mode boards mode) (target_names rows mode) p found c.lawful.ensures (c.lawful-2.ensures.on mode) shows
    (passing_either c.args.surely table (board_of_mode boards mode) n c.in_ok-found.found.covered.items c.in_ok-found.found.maybe.items sure possible) in
    IfOk-weaker c.items_to.result _ _
    (λ v is m item.
    ap (list_any (is_same m))
    (is
    ∙ ap (λ (ids : List NameId). items_of_fact registry.entries registry.items mode (names_at table ids)) c.either_of.ensures
    ∙ (λ i. items_of_fact (sym are.entries i) (sym are.items i) mode (names_at table found)))
    ∙ led_in rows mode p (names_at table found) are.lawful named m item)
    c.items_to.ensures.names
