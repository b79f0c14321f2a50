use Rattle.std.proofs.Common.{◌≡◌, [], ℕ, true, false, sym, ap, subst}
use Rattle.cpe_rows.specs.After.{after}
use Rattle.cpe_rows.specs.Rows.{Rows}
use Rattle.cpe_rows.specs.declared.edit.Edit.TheVariants as edit
use Rattle.cpe_rows.specs.declared.statement.Mode.{Mode}
use Rattle.cpe_rows.specs.declared.statement.Mode.TheVariants.{Plain, Follow}
use Rattle.fact_laws.specs.Asked.{same_mode}
use Rattle.fact_boards.specs.Kept.{ShowRows}
use Rattle.fact_boards.specs.Moved.{FactsUnasked}
use Rattle.fact_rows.specs.Facts.{has_end_of_fact, is_fact, truth_of_fact, truth_or_unknown}
use Rattle.facts.specs.Facts.{AreUsed, FactsNow, table_of}
use Rattle.facts.specs.Calls.{MayRemoveStatement, StatementUnused}
use Rattle.facts.proofs.LessLemmas.{less_from, tickets_less}
use Rattle.facts.proofs.MoveLemmas.{cleared_facts}
use Rattle.facts.proofs.TakeLemmas.{by_modes, left_facts, left_truth, other_left, users_rise}
use Rattle.facts.proofs.UsedLemmas.{all_used, alone_here, removed_used, same_used}
use Rattle.facts.proofs.facts.Facts.remove_statement.Goals as goal

pub returns-in-Plain : goal.returns-in-Plain
returns-in-Plain g c =
    let names = c.args.table.now in
    let are = c.lawful.ensures in
    let boards = c.self.inside.boards in
    let plain = c.self.inside.plain in
    let follow = c.self.inside.follow in
    let ids = c.args.ids.now in
    let last = c.args.last.now in
    let asked = c.args.asked.now in
    let ticket = c.args.ticket in
    let before = c.args.steps.now in
    let now = c.unask.new.steps in
    let mid = c.unask.new.self in
    let plain_cleared = c.clear_changed.new.self in
    let follow_cleared = c.clear_changed-2.new.self in
    let left = c.remove_statement_users.ensures.left in
    let inside : FactsNow = record { boards = boards; plain = plain; follow = follow } in
    let new : FactsNow = record { boards = mid; plain = c.remove_statement_users.new.facts; follow = follow_cleared } in
    let unasked : FactsUnasked boards mid names Plain asked before now = subst (λ (m : Mode). FactsUnasked boards mid names m asked before now) c.in-Plain.is c.unask.ensures in
    let less = less_from plain plain_cleared left.0 (has_end_of_fact ids) ticket c.clear_changed.ensures.stay c.clear_changed.ensures.links left.1 in
    let m = subst (λ (k : Mode). MayRemoveStatement inside names k ids last asked ticket) c.in-Plain.is (subst (λ (f : FactsNow). MayRemoveStatement f names c.args.mode ids last asked ticket) (sym c.self.view_is) c.requires) in
    let core : StatementUnused inside new names Plain ids last asked ticket before now = record {
      facts = λ rows tickets id s rows_before taken.
          let next : Rows = after rows (edit.DropStatement id) in
          let shown : ShowRows names boards rows = record { plain = rows_before.plain.shows; follow = rows_before.follow.shows } in
          let shows = unasked.shows rows id s taken.moded taken.there shown taken.asked_for in
          let settled = unasked.settled rows_before.settled in
          let here = left_facts names are Plain boards.plain mid.plain (c.lawful-2.ensures.answers Plain) (c.lawful-3.ensures.answers Plain) unasked.levels.plain (c.lawful-3.ensures.marks Plain) settled.plain rows tickets id s ticket rows_before.numbered taken.its taken.there
          plain left.0 c.remove_statement_users.new.facts ids last rows_before.plain shows.plain unasked.fits.plain taken.moded taken.live taken.named (alone_here plain left.0 c.remove_statement_users.new.facts ids last ticket m.alone) less left.2 in
          let there = other_left names are Follow boards.follow mid.follow (c.lawful-2.ensures.answers Follow) (c.lawful-3.ensures.answers Follow) unasked.levels.follow (c.lawful-3.ensures.marks Follow) settled.follow rows tickets id s ticket rows_before.numbered taken.its taken.there
          follow_cleared (cleared_facts follow follow_cleared c.clear_changed-2.ensures.stay c.clear_changed-2.ensures.links names Follow boards.follow rows tickets (λ q. false) rows_before.follow) shows.follow unasked.fits.follow (ap (same_mode Follow) taken.moded) in
          record { plain = here; follow = there; settled = settled; numbered = tickets_less id ticket tickets rows.statements rows_before.numbered taken.its };
      changed = by_modes (λ (m : Mode). (table_of new m).changed ≡ []) c.remove_statement_users.ensures.changed c.clear_changed-2.ensures.cleared;
      truths = by_modes (λ (m : Mode). (q : ℕ) → is_fact (table_of new m) q ≡ true → truth_of_fact (table_of new m) q ≡ truth_of_fact (table_of inside m) q) (left_truth Plain plain left.0 c.remove_statement_users.new.facts ids last ticket less left.2) (λ q is. ap truth_or_unknown (c.clear_changed-2.ensures.stay q));
      used = λ (used : AreUsed inside). all_used new (removed_used plain left.0 c.remove_statement_users.new.facts ids last ticket m.alone less left.2 (used Plain)) (same_used follow follow_cleared c.clear_changed-2.ensures.stay (used Follow));
      steps = unasked.steps;
    } in
    subst (λ (f : FactsNow). StatementUnused f new names c.args.mode ids last asked ticket before now) c.self.view_is (subst (λ (m : Mode). StatementUnused inside new names m ids last asked ticket before now) (sym c.in-Plain.is) core)

pub returns-in-Follow : goal.returns-in-Follow
returns-in-Follow g c =
    let names = c.args.table.now in
    let are = c.lawful.ensures in
    let boards = c.self.inside.boards in
    let plain = c.self.inside.plain in
    let follow = c.self.inside.follow in
    let ids = c.args.ids.now in
    let last = c.args.last.now in
    let asked = c.args.asked.now in
    let ticket = c.args.ticket in
    let before = c.args.steps.now in
    let now = c.unask.new.steps in
    let mid = c.unask.new.self in
    let plain_cleared = c.clear_changed.new.self in
    let follow_cleared = c.clear_changed-2.new.self in
    let left = c.remove_statement_users-in-Follow.ensures.left in
    let inside : FactsNow = record { boards = boards; plain = plain; follow = follow } in
    let new : FactsNow = record { boards = mid; plain = plain_cleared; follow = c.remove_statement_users-in-Follow.new.facts } in
    let unasked : FactsUnasked boards mid names Follow asked before now = subst (λ (m : Mode). FactsUnasked boards mid names m asked before now) c.in-Follow.is c.unask.ensures in
    let less = less_from follow follow_cleared left.0 (has_end_of_fact ids) ticket c.clear_changed-2.ensures.stay c.clear_changed-2.ensures.links left.1 in
    let m = subst (λ (k : Mode). MayRemoveStatement inside names k ids last asked ticket) c.in-Follow.is (subst (λ (f : FactsNow). MayRemoveStatement f names c.args.mode ids last asked ticket) (sym c.self.view_is) c.requires) in
    let core : StatementUnused inside new names Follow ids last asked ticket before now = record {
      facts = λ rows tickets id s rows_before taken.
          let next : Rows = after rows (edit.DropStatement id) in
          let shown : ShowRows names boards rows = record { plain = rows_before.plain.shows; follow = rows_before.follow.shows } in
          let shows = unasked.shows rows id s taken.moded taken.there shown taken.asked_for in
          let settled = unasked.settled rows_before.settled in
          let here = left_facts names are Follow boards.follow mid.follow (c.lawful-2.ensures.answers Follow) (c.lawful-3.ensures.answers Follow) unasked.levels.follow (c.lawful-3.ensures.marks Follow) settled.follow rows tickets id s ticket rows_before.numbered taken.its taken.there
          follow left.0 c.remove_statement_users-in-Follow.new.facts ids last rows_before.follow shows.follow unasked.fits.follow taken.moded taken.live taken.named (alone_here follow left.0 c.remove_statement_users-in-Follow.new.facts ids last ticket m.alone) less left.2 in
          let there = other_left names are Plain boards.plain mid.plain (c.lawful-2.ensures.answers Plain) (c.lawful-3.ensures.answers Plain) unasked.levels.plain (c.lawful-3.ensures.marks Plain) settled.plain rows tickets id s ticket rows_before.numbered taken.its taken.there
          plain_cleared (cleared_facts plain plain_cleared c.clear_changed.ensures.stay c.clear_changed.ensures.links names Plain boards.plain rows tickets (λ q. false) rows_before.plain) shows.plain unasked.fits.plain (ap (same_mode Plain) taken.moded) in
          record { plain = there; follow = here; settled = settled; numbered = tickets_less id ticket tickets rows.statements rows_before.numbered taken.its };
      changed = by_modes (λ (m : Mode). (table_of new m).changed ≡ []) c.clear_changed.ensures.cleared c.remove_statement_users-in-Follow.ensures.changed;
      truths = by_modes (λ (m : Mode). (q : ℕ) → is_fact (table_of new m) q ≡ true → truth_of_fact (table_of new m) q ≡ truth_of_fact (table_of inside m) q) (λ q is. ap truth_or_unknown (c.clear_changed.ensures.stay q)) (left_truth Follow follow left.0 c.remove_statement_users-in-Follow.new.facts ids last ticket less left.2);
      used = λ (used : AreUsed inside). all_used new (same_used plain plain_cleared c.clear_changed.ensures.stay (used Plain)) (removed_used follow left.0 c.remove_statement_users-in-Follow.new.facts ids last ticket m.alone less left.2 (used Follow));
      steps = unasked.steps;
    } in
    subst (λ (f : FactsNow). StatementUnused f new names c.args.mode ids last asked ticket before now) c.self.view_is (subst (λ (m : Mode). StatementUnused inside new names m ids last asked ticket before now) (sym c.in-Follow.is) core)

pub remove_statement_users-requires-clause-rising : goal.remove_statement_users-requires-clause-rising
remove_statement_users-requires-clause-rising g c =
    let names = c.args.table.now in
    let m = subst (λ (f : FactsNow). MayRemoveStatement f names c.args.mode c.args.ids.now c.args.last.now c.args.asked.now c.args.ticket) (sym c.self.view_is) c.requires in
    let s = m.rows_before.2 in
    users_rise names c.self.inside.boards.plain c.self.inside.plain c.clear_changed.new.self m.rows_before.0 m.rows_before.1 Plain (λ q. false) s.plain s.numbered.rising c.clear_changed.ensures.stay

pub remove_statement_users-requires-in-Follow-clause-rising : goal.remove_statement_users-requires-in-Follow-clause-rising
remove_statement_users-requires-in-Follow-clause-rising g c =
    let names = c.args.table.now in
    let m = subst (λ (f : FactsNow). MayRemoveStatement f names c.args.mode c.args.ids.now c.args.last.now c.args.asked.now c.args.ticket) (sym c.self.view_is) c.requires in
    let s = m.rows_before.2 in
    users_rise names c.self.inside.boards.follow c.self.inside.follow c.clear_changed-2.new.self m.rows_before.0 m.rows_before.1 Follow (λ q. false) s.follow s.numbered.rising c.clear_changed-2.ensures.stay
