use Rattle.std.proofs.Common.{length, ◌≡◌, ◌+◌, ◌∙◌, List, ℕ, Bool, [], Some, true, false, not, refl, sym, ap, subst, arith}
use Rattle.cpe_rows.specs.cpe_name.Eleven.{Values}
use Rattle.name_index.specs.declared.products.Side.{Side}
use Rattle.name_index.specs.declared.products.Side.TheVariants as side
use Rattle.cpe_rows.specs.After.{after}
use Rattle.cpe_rows.specs.Rows.{Rows}
use Rattle.cpe_rows.specs.Verdict.{fact_truth}
use Rattle.cpe_rows.specs.declared.edit.Edit.{Edit}
use Rattle.cpe_rows.specs.Touching.{deprecation_changed}
use Rattle.name_index.specs.Table.{kept_at}
use Rattle.cpe_rows.specs.declared.statement.Mode.TheVariants.{Plain, Follow}
use Rattle.fact_boards.specs.level_board.Board.{AreAnswers, Board, probe_times, target_times}
use Rattle.cpe_rows.specs.Chains.{ends, leads_to}
use Rattle.fact_laws.specs.Shown.{different, near_names}
use Rattle.fact_laws.specs.Asked.{asked, statement_facts, target_names}
use Rattle.fact_boards.specs.Kept.{ShowRows}
use Rattle.fact_rows.specs.Facts.{truth_or_unknown}
use Rattle.fact_rows.specs.ticket_list.Tickets.{is_empty}
use Rattle.facts.specs.Facts.{FactsNow, HasFacts}
use Rattle.facts.specs.LeadCalls.{EndsChanged, IsLead, MayChangeEnds}
use Rattle.facts.specs.Leads.{AreLedBut}
use Rattle.facts.proofs.ChangeLemmas.{changes_settled}
use Rattle.facts.proofs.LeadMove.{led_cleared, led_facts, led_first, plain_over, cleared_whole}
use Rattle.facts.proofs.PartLemmas.{part_there}
use Rattle.facts.proofs.PutLemmas.{both_changed}
use Rattle.facts.proofs.UsedLemmas.{led_used}
use Rattle.facts.proofs.MoveLemmas.{all_changed, both_in_use, cleared_facts, still_in_use}
use Rattle.facts.proofs.facts.Facts.lead.Goals as goal

pub returns : goal.returns
returns g c =
    let names = c.args.table.now in
    let are = c.lawful.ensures in
    let boards = c.self.inside.boards in
    let plain = c.self.inside.plain in
    let follow = c.self.inside.follow in
    let mid = c.lead.new.self in
    let plain_cleared = c.clear_changed.new.self in
    let follow_cleared = c.clear_changed-2.new.self in
    let led = c.args.led.items in
    let before = c.args.steps.now in
    let now = c.lead.new.steps in
    let touch = c.deprecations_touch.ensures in
    let inside : FactsNow = record { boards = boards; plain = plain; follow = follow } in
    let new : FactsNow = record { boards = c.settle.new.boards; plain = c.settle.new.plain; follow = c.settle.new.follow } in
    let does : (rows : Rows) (tickets : List ℕ) (next : Rows) (passes : ℕ → Bool) → AreLedBut names mid.follow follow_cleared next tickets passes led → AreLedBut names mid.follow c.lead_facts.new.facts next tickets passes [] =
    λ rows tickets next passes a. subst (λ (b : Board). AreLedBut names b c.lead_facts.new.facts next tickets passes []) c.board.ensures
    (c.lead_facts.ensures.facts names next tickets passes are (subst AreAnswers (sym c.board.ensures) (c.lawful-3.ensures.answers Follow)) (subst (λ (b : Board). AreLedBut names b follow_cleared next tickets passes led) (sym c.board.ensures) a)) in
    let facts : (rows : Rows) (tickets : List ℕ) (e : Edit) (n : Values) → deprecation_changed e ≡ Some n → HasFacts names inside rows tickets → IsLead inside names rows (after rows e).entries n c.args.items_from.now c.args.items_to.now c.args.facts_from.now c.args.facts_to.now led → HasFacts names new (after rows e) tickets = λ rows tickets e n h rows_before l.
    let next : Rows = after rows e in
    let shown : ShowRows names boards rows = record { plain = rows_before.plain.shows; follow = rows_before.follow.shows } in
    let shows = c.lead.ensures.shows rows e n h shown l.items_before l.items_after l.facts_before l.facts_after in
    let statements = touch.statements rows e n h in
    let fits = c.lead.ensures.fits in
    let was_plain = cleared_facts plain plain_cleared c.clear_changed.ensures.stay c.clear_changed.ensures.links names Plain boards.plain rows tickets (λ q. false) rows_before.plain in
    let was_follow = cleared_facts follow follow_cleared c.clear_changed-2.ensures.stay c.clear_changed-2.ensures.links names Follow boards.follow rows tickets (λ q. false) rows_before.follow in
    let of_plain = plain_over names are boards.plain mid.plain (c.lawful-2.ensures.answers Plain) (c.lawful-3.ensures.answers Plain) c.lead.ensures.levels.plain rows next tickets plain_cleared was_plain statements shows.plain fits.plain in
    let of_follow = led_facts names are boards.follow mid.follow (c.lawful-2.ensures.answers Follow) (c.lawful-3.ensures.answers Follow) c.lead.ensures.levels.follow rows next tickets n follow_cleared c.lead_facts.new.facts led
    was_follow statements shows.follow fits.follow (λ x apart. touch.ends rows e n x h apart) (led_cleared names next.entries follow follow_cleared c.clear_changed-2.ensures.stay c.clear_changed-2.ensures.links led l.led_there)
    (cleared_whole names rows follow follow_cleared led n c.clear_changed-2.ensures.stay l.whole) (does rows tickets next) in
    record {
      plain = c.settle.ensures.plain names next tickets are of_plain of_follow;
      follow = c.settle.ensures.follow names next tickets are of_plain of_follow;
      settled = c.settle.ensures.settled;
      numbered = record { each = omega (arith, rows_before.numbered.each, ap length statements); rising = rows_before.numbered.rising };
    } in
    let core : EndsChanged inside new names c.args.items_from.now c.args.items_to.now c.args.facts_from.now c.args.facts_to.now led before now = record {
      facts = facts;
      changed = λ rows tickets e n h rows_before l.
          let next : Rows = after rows e in
          let final = facts rows tickets e n h rows_before l in
          let shown : ShowRows names boards rows = record { plain = rows_before.plain.shows; follow = rows_before.follow.shows } in
          let shows = c.lead.ensures.shows rows e n h shown l.items_before l.items_after l.facts_before l.facts_after in
          let was_follow = cleared_facts follow follow_cleared c.clear_changed-2.ensures.stay c.clear_changed-2.ensures.links names Follow boards.follow rows tickets (λ q. false) rows_before.follow in
          let first = led_first names are boards.follow mid.follow (c.lawful-2.ensures.answers Follow) (c.lawful-3.ensures.answers Follow) c.lead.ensures.levels.follow rows next tickets n follow_cleared c.lead_facts.new.facts led
          was_follow (touch.statements rows e n h) shows.follow c.lead.ensures.fits.follow (λ x apart. touch.ends rows e n x h apart) (led_cleared names next.entries follow follow_cleared c.clear_changed-2.ensures.stay c.clear_changed-2.ensures.links led l.led_there)
          (cleared_whole names rows follow follow_cleared led n c.clear_changed-2.ensures.stay l.whole) (does rows tickets next) in
          let changes = c.lead_facts.ensures.changes names next tickets (λ q. true) are (subst AreAnswers (sym c.board.ensures) (c.lawful-3.ensures.answers Follow)) (subst (λ (b : Board). AreLedBut names b follow_cleared next tickets (λ q. true) led) (sym c.board.ensures) first) in
          both_changed inside new (all_changed plain plain_cleared c.clear_changed.ensures.stay c.clear_changed.ensures.links c.settle.new.plain c.clear_changed.ensures.cleared c.settle.ensures.changed)
          (changes_settled follow follow_cleared c.lead_facts.new.facts c.settle.new.follow (λ q. fact_truth next Follow (kept_at names q).name) (λ q. ap truth_or_unknown (c.clear_changed-2.ensures.stay q)) c.clear_changed-2.ensures.cleared changes c.settle.ensures.changed_follow
          (λ q used. final.follow.truths q (ap (λ (us : List ℕ). not (is_empty us)) (c.settle.ensures.same_follow.users q) ∙ used) refl));
      used = both_in_use inside new (still_in_use plain plain_cleared c.clear_changed.ensures.stay c.clear_changed.ensures.links c.settle.new.plain c.settle.ensures.same)
          (led_used follow follow_cleared c.lead_facts.new.facts c.settle.new.follow c.clear_changed-2.ensures.stay c.lead_facts.ensures.same c.settle.ensures.same_follow);
      steps = λ rows tickets e n h rows_before l.
          let next : Rows = after rows e in
          let shown : ShowRows names boards rows = record { plain = rows_before.plain.shows; follow = rows_before.follow.shows } in
          let shows = c.lead.ensures.shows rows e n h shown l.items_before l.items_after l.facts_before l.facts_after in
          let by : Side → List Values → Values → ℕ = λ on others m. 1 + near_names on m.product (different others) in
          let looks = c.looks_are_by_names.ensures in (
            c.lead.ensures.rise,
            omega (
              arith,
              c.lead.ensures.steps,
              looks.asked names boards.follow rows Follow c.args.items_to.now are (c.lawful-2.ensures.on Follow) rows_before.follow.shows,
              l.items_after (by side.Target (asked rows Follow)),
              looks.asked names boards.follow rows Follow c.args.items_from.now are (c.lawful-2.ensures.on Follow) rows_before.follow.shows,
              l.items_before (by side.Target (asked rows Follow)),
              looks.there names mid.follow next Follow c.args.facts_to.now are (c.lawful-3.ensures.on Follow) shows.follow,
              l.facts_after (by side.Source (target_names next Follow)),
            ),
          );
    } in
    subst (λ (f : FactsNow). EndsChanged f new names c.args.items_from.now c.args.items_to.now c.args.facts_from.now c.args.facts_to.now led before now) c.self.view_is core

pub lead-requires : goal.lead-requires
lead-requires g c =
    let names = c.args.table.now in
    let are = c.lawful.ensures in
    let boards = c.self.inside.boards in
    let m = subst (λ (f : FactsNow). MayChangeEnds f names c.args.items_from.now c.args.items_to.now c.args.facts_from.now c.args.facts_to.now c.args.led.items) (sym c.self.view_is) c.requires in
    let rows = m.rows_before.0 in
    let n = m.rows_before.3 in
    let s = m.rows_before.6 in
    let l = m.rows_before.7 in
    record {
      fits = record { plain = s.plain.fits; follow = s.follow.fits };
      live_from = m.ready.live_items_from;
      live_to = m.ready.live_items_to;
      live_facts_from = m.ready.live_facts_from;
      live_facts_to = m.ready.live_facts_to;
      wide = m.ready.room.wide;
      room = m.ready.room.room_items;
      room_facts = m.ready.room.room_facts;
      few = λ t. omega (arith, m.ready.room.few_items, c.few_present.ensures.targets names boards.follow rows Follow t s.follow.shows m.rows_before.5);
      few_facts = λ p. omega (arith, m.ready.room.few_facts, c.few_present.ensures.probes names boards.follow rows Follow p s.follow.shows m.rows_before.5);
      there = part_there names are (target_times boards.follow) (ends rows.entries) (λ x. leads_to rows.entries x n) rows.items c.args.items_from.now m.ready.live_items_from s.follow.shows.there l.items_before;
      asked = part_there names are (probe_times boards.follow) (ends rows.entries) (λ x. leads_to rows.entries x n) (statement_facts Follow rows.statements) c.args.facts_from.now m.ready.live_facts_from s.follow.shows.asked l.facts_before;
      settled = s.settled;
    }
