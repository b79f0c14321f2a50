use Rattle.std.proofs.Common.{length, arith, sym, subst}
use Rattle.cpe_rows.specs.After.{after}
use Rattle.fact_laws.specs.Shown.{names_at}
use Rattle.fact_boards.specs.Kept.{AreSettled, Boards, KeepLevels, KeepsBoardRoom, ShowRows}
use Rattle.fact_boards.proofs.Boards.{arrived_room, asked_room, facts_lead, items_lead, led, led_levels, led_room, left_room, levels_stay, plain_stays, unasked_room, settled_marked}
use Rattle.std.proofs.lemmas.Grind.{common_steps}
use Rattle.fact_boards.proofs.kept.KeptFacts.lead.Goals as goal

pub returns : goal.returns
returns g c = record {
  fits = grind (arith, common_steps);
  shows = λ rows e n h shown from to facts_from facts_to. let names = c.args.table.now in
      let before = subst (λ (b : Boards). ShowRows names b rows) (sym c.self.view_is) shown in
      record {
        plain = plain_stays names c.self.inside.plain rows e n h before.plain;
        follow = led names c.lawful.ensures c.self.inside.follow c.arrive.new.board c.leave.new.board c.ask.new.board c.unask.new.board c.args.items_from.now c.args.items_to.now c.args.facts_from.now c.args.facts_to.now rows (after rows e)
            c.requires.live_from c.requires.live_to c.requires.live_facts_from c.requires.live_facts_to c.arrive.ensures.arrives c.leave.ensures.leaves c.ask.ensures.asks c.unask.ensures.unasks
            (items_lead rows e n h (names_at names c.args.items_from.now) (names_at names c.args.items_to.now) from to) (facts_lead rows e n h (names_at names c.args.facts_from.now) (names_at names c.args.facts_to.now) facts_from facts_to) before.follow;
      };
  levels = let next : Boards = record { plain = c.self.inside.plain; follow = c.unask.new.board } in
      subst (λ (b : Boards). KeepLevels b next) c.self.view_is
      (record {
        plain = levels_stay c.self.inside.plain;
        follow = led_levels c.self.inside.follow c.arrive.new.board c.leave.new.board c.ask.new.board c.unask.new.board c.args.table.now c.args.facts_from.now c.args.facts_to.now c.arrive.ensures.arrives.stay c.leave.ensures.leaves.stay c.ask.ensures.asks c.unask.ensures.unasks;
      });
  room = let names = c.args.table.now in
      let may_come_in = c.arrive.new.board in
      let gone = c.leave.new.board in
      let asks = c.ask.new.board in
      let new = c.unask.new.board in
      subst (λ (b : Boards). KeepsBoardRoom b.follow new (length c.args.facts_to.now) (length c.args.items_to.now)) c.self.view_is
      (led_room c.self.inside.follow may_come_in gone asks new (length c.args.facts_to.now) (length c.args.items_to.now)
      (arrived_room c.self.inside.follow may_come_in names c.args.items_to.now c.arrive.ensures.arrives) (left_room may_come_in gone names c.args.items_from.now c.leave.ensures.leaves)
      (asked_room gone asks names c.args.facts_to.now c.ask.ensures.asks) (unasked_room asks new names c.args.facts_from.now c.unask.ensures.unasks));
  plain = grind (arith, common_steps);
  steps = grind (arith, common_steps);
  rise = grind (arith, common_steps);
}

pub arrive-requires-clause-marked : goal.arrive-requires-clause-marked
arrive-requires-clause-marked g c = settled_marked c.self.inside.follow (subst AreSettled (sym c.self.view_is) c.requires.settled).follow
