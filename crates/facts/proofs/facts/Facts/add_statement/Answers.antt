use Rattle.std.proofs.Common.{false, sym, ap, subst, arith}
use Rattle.cpe_rows.specs.After.{after}
use Rattle.cpe_rows.specs.Rows.{Rows}
use Rattle.cpe_rows.specs.declared.edit.Edit.TheVariants as edit
use Rattle.cpe_rows.specs.declared.statement.Mode.{Mode}
use Rattle.cpe_rows.specs.declared.statement.Mode.TheVariants.{Plain, Follow}
use Rattle.fact_boards.specs.level_board.Board.{Board}
use Rattle.fact_laws.specs.Asked.{same_mode}
use Rattle.fact_boards.specs.Kept.{board_of_mode, ShowRows}
use Rattle.fact_boards.specs.Moved.{FactsAsked}
use Rattle.fact_rows.specs.Facts.{has_end_of_fact}
use Rattle.fact_rows.specs.Calls.{Refreshed}
use Rattle.facts.specs.Facts.{AreUsedBut, FactsNow}
use Rattle.facts.specs.Calls.{MayAddStatement, StatementUsed}
use Rattle.facts.proofs.AddLemmas.{added_to}
use Rattle.facts.proofs.MoveLemmas.{all_changed, cleared_facts}
use Rattle.facts.proofs.PutLemmas.{both_changed, looks_within, none_changed, other_facts, put_facts, shows_of, tickets_more, used_changed}
use Rattle.facts.proofs.UsedLemmas.{added_used, all_used, but_none, same_used}
use Rattle.facts.proofs.facts.Facts.add_statement.Goals as goal

pub ask-requires-clause-few : goal.ask-requires-clause-few
ask-requires-clause-few g c p =
    let names = c.args.table.now in
    let m = subst (λ (f : FactsNow). MayAddStatement f names c.args.mode c.args.ids.now c.args.fresh.now c.args.asked.now c.args.ticket) (sym c.self.view_is) c.requires in
    let inside : FactsNow = record { boards = c.self.inside.boards; plain = c.self.inside.plain; follow = c.self.inside.follow } in
    omega (arith, m.room.few, c.few_present.ensures.probes names (board_of_mode c.self.inside.boards c.args.mode) m.rows_before.0 c.args.mode p (shows_of names inside m.rows_before.0 m.rows_before.1 c.args.mode m.rows_before.3) m.rows_before.2)

pub returns-in-Plain : goal.returns-in-Plain
returns-in-Plain g c =
    let names = c.args.table.now in
    let are = c.lawful.ensures in
    let boards = c.self.inside.boards in
    let plain = c.self.inside.plain in
    let follow = c.self.inside.follow in
    let ids = c.args.ids.now in
    let fresh = c.args.fresh.now in
    let asked = c.args.asked.now in
    let ticket = c.args.ticket in
    let before = c.args.steps.now in
    let now = c.ask.new.steps in
    let mid = c.ask.new.self in
    let plain_cleared = c.clear_changed.new.self in
    let follow_cleared = c.clear_changed-2.new.self in
    let used_mid = c.add_statement_users.ensures in
    let inside : FactsNow = record { boards = boards; plain = plain; follow = follow } in
    let new : FactsNow = record { boards = mid; plain = c.add_statement_users.new.facts; follow = follow_cleared } in
    let was_asked : FactsAsked boards mid names Plain asked before now = subst (λ (m : Mode). FactsAsked boards mid names m asked before now) c.in-Plain.is c.ask.ensures in
    let refreshed : Refreshed used_mid.0 c.add_statement_users.new.facts (has_end_of_fact fresh) Plain mid.plain = subst (λ (b : Board). Refreshed used_mid.0 c.add_statement_users.new.facts (has_end_of_fact fresh) Plain b) c.board.ensures used_mid.3 in
    let m = subst (λ (k : Mode). MayAddStatement inside names k ids fresh asked ticket) c.in-Plain.is (subst (λ (f : FactsNow). MayAddStatement f names c.args.mode ids fresh asked ticket) (sym c.self.view_is) c.requires) in
    let core : StatementUsed inside new names Plain ids fresh asked ticket before now = record {
      facts = λ rows tickets s rows_before put.
          let next : Rows = after rows (edit.PutStatement s) in
          let shown : ShowRows names boards rows = record { plain = rows_before.plain.shows; follow = rows_before.follow.shows } in
          let shows = was_asked.shows rows s put.moded shown put.asked_for in
          let settled = was_asked.settled rows_before.settled in
          let here = put_facts names are Plain boards.plain mid.plain (c.lawful-2.ensures.answers Plain) (c.lawful-3.ensures.answers Plain) was_asked.levels.plain (c.lawful-3.ensures.marks Plain) settled.plain rows s tickets ticket rows_before.numbered put.below
          plain used_mid.0 c.add_statement_users.new.facts ids fresh rows_before.plain shows.plain was_asked.fits.plain put.moded put.live put.named put.whole put.leads_there (added_to plain plain_cleared used_mid.0 (has_end_of_fact ids) ticket c.clear_changed.ensures.stay c.clear_changed.ensures.links used_mid.1) refreshed in
          let there = other_facts names are Follow boards.follow mid.follow (c.lawful-2.ensures.answers Follow) (c.lawful-3.ensures.answers Follow) was_asked.levels.follow (c.lawful-3.ensures.marks Follow) settled.follow rows s tickets ticket rows_before.numbered put.below
          follow_cleared (cleared_facts follow follow_cleared c.clear_changed-2.ensures.stay c.clear_changed-2.ensures.links names Follow boards.follow rows tickets (λ q. false) rows_before.follow) shows.follow was_asked.fits.follow (ap (same_mode Follow) put.moded) in
          record { plain = here; follow = there; settled = settled; numbered = tickets_more ticket tickets s rows.statements rows_before.numbered put.below };
      changed = both_changed inside new (all_changed plain plain_cleared c.clear_changed.ensures.stay c.clear_changed.ensures.links c.add_statement_users.new.facts c.clear_changed.ensures.cleared (used_changed used_mid.0 c.add_statement_users.new.facts plain_cleared ids fresh ticket Plain mid.plain used_mid.1 used_mid.2 refreshed)) (none_changed follow follow_cleared c.clear_changed-2.ensures.stay c.clear_changed-2.ensures.cleared);
      used = λ (used : AreUsedBut inside Plain fresh). all_used new (added_used Plain mid.plain plain used_mid.0 c.add_statement_users.new.facts ids fresh ticket (added_to plain plain_cleared used_mid.0 (has_end_of_fact ids) ticket c.clear_changed.ensures.stay c.clear_changed.ensures.links used_mid.1) refreshed m.room.own (used Plain))
          (same_used follow follow_cleared c.clear_changed-2.ensures.stay (but_none follow (used Follow)));
      steps = λ rows tickets s rows_before put. (
        was_asked.rise,
        omega (arith, was_asked.steps, c.looks_are_by_names.ensures.there names boards.plain rows Plain asked are (c.lawful-2.ensures.on Plain) rows_before.plain.shows, looks_within names rows s Plain asked put.moded put.asked_for),
      );
    } in
    subst (λ (f : FactsNow). StatementUsed f new names c.args.mode ids fresh asked ticket before now) c.self.view_is (subst (λ (m : Mode). StatementUsed inside new names m ids fresh asked ticket before now) (sym c.in-Plain.is) core)

pub returns-in-Follow : goal.returns-in-Follow
returns-in-Follow g c =
    let names = c.args.table.now in
    let are = c.lawful.ensures in
    let boards = c.self.inside.boards in
    let plain = c.self.inside.plain in
    let follow = c.self.inside.follow in
    let ids = c.args.ids.now in
    let fresh = c.args.fresh.now in
    let asked = c.args.asked.now in
    let ticket = c.args.ticket in
    let before = c.args.steps.now in
    let now = c.ask.new.steps in
    let mid = c.ask.new.self in
    let plain_cleared = c.clear_changed.new.self in
    let follow_cleared = c.clear_changed-2.new.self in
    let used_mid = c.add_statement_users-in-Follow.ensures in
    let inside : FactsNow = record { boards = boards; plain = plain; follow = follow } in
    let new : FactsNow = record { boards = mid; plain = plain_cleared; follow = c.add_statement_users-in-Follow.new.facts } in
    let was_asked : FactsAsked boards mid names Follow asked before now = subst (λ (m : Mode). FactsAsked boards mid names m asked before now) c.in-Follow.is c.ask.ensures in
    let refreshed : Refreshed used_mid.0 c.add_statement_users-in-Follow.new.facts (has_end_of_fact fresh) Follow mid.follow = subst (λ (b : Board). Refreshed used_mid.0 c.add_statement_users-in-Follow.new.facts (has_end_of_fact fresh) Follow b) c.board-in-Follow.ensures used_mid.3 in
    let m = subst (λ (k : Mode). MayAddStatement inside names k ids fresh asked ticket) c.in-Follow.is (subst (λ (f : FactsNow). MayAddStatement f names c.args.mode ids fresh asked ticket) (sym c.self.view_is) c.requires) in
    let core : StatementUsed inside new names Follow ids fresh asked ticket before now = record {
      facts = λ rows tickets s rows_before put.
          let next : Rows = after rows (edit.PutStatement s) in
          let shown : ShowRows names boards rows = record { plain = rows_before.plain.shows; follow = rows_before.follow.shows } in
          let shows = was_asked.shows rows s put.moded shown put.asked_for in
          let settled = was_asked.settled rows_before.settled in
          let here = put_facts names are Follow boards.follow mid.follow (c.lawful-2.ensures.answers Follow) (c.lawful-3.ensures.answers Follow) was_asked.levels.follow (c.lawful-3.ensures.marks Follow) settled.follow rows s tickets ticket rows_before.numbered put.below
          follow used_mid.0 c.add_statement_users-in-Follow.new.facts ids fresh rows_before.follow shows.follow was_asked.fits.follow put.moded put.live put.named put.whole put.leads_there (added_to follow follow_cleared used_mid.0 (has_end_of_fact ids) ticket c.clear_changed-2.ensures.stay c.clear_changed-2.ensures.links used_mid.1) refreshed in
          let there = other_facts names are Plain boards.plain mid.plain (c.lawful-2.ensures.answers Plain) (c.lawful-3.ensures.answers Plain) was_asked.levels.plain (c.lawful-3.ensures.marks Plain) settled.plain rows s tickets ticket rows_before.numbered put.below
          plain_cleared (cleared_facts plain plain_cleared c.clear_changed.ensures.stay c.clear_changed.ensures.links names Plain boards.plain rows tickets (λ q. false) rows_before.plain) shows.plain was_asked.fits.plain (ap (same_mode Plain) put.moded) in
          record { plain = there; follow = here; settled = settled; numbered = tickets_more ticket tickets s rows.statements rows_before.numbered put.below };
      changed = both_changed inside new (none_changed plain plain_cleared c.clear_changed.ensures.stay c.clear_changed.ensures.cleared) (all_changed follow follow_cleared c.clear_changed-2.ensures.stay c.clear_changed-2.ensures.links c.add_statement_users-in-Follow.new.facts c.clear_changed-2.ensures.cleared (used_changed used_mid.0 c.add_statement_users-in-Follow.new.facts follow_cleared ids fresh ticket Follow mid.follow used_mid.1 used_mid.2 refreshed));
      used = λ (used : AreUsedBut inside Follow fresh). all_used new (same_used plain plain_cleared c.clear_changed.ensures.stay (but_none plain (used Plain)))
          (added_used Follow mid.follow follow used_mid.0 c.add_statement_users-in-Follow.new.facts ids fresh ticket (added_to follow follow_cleared used_mid.0 (has_end_of_fact ids) ticket c.clear_changed-2.ensures.stay c.clear_changed-2.ensures.links used_mid.1) refreshed m.room.own (used Follow));
      steps = λ rows tickets s rows_before put. (
        was_asked.rise,
        omega (arith, was_asked.steps, c.looks_are_by_names.ensures.there names boards.follow rows Follow asked are (c.lawful-2.ensures.on Follow) rows_before.follow.shows, looks_within names rows s Follow asked put.moded put.asked_for),
      );
    } in
    subst (λ (f : FactsNow). StatementUsed f new names c.args.mode ids fresh asked ticket before now) c.self.view_is (subst (λ (m : Mode). StatementUsed inside new names m ids fresh asked ticket before now) (sym c.in-Follow.is) core)
