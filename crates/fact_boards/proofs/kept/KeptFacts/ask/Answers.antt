use Rattle.std.proofs.Common.{length, arith, refl, sym, ap, subst, ◌∙◌}
use Rattle.std.specs.List.{flat_map}
use Rattle.name_index.specs.Elements.{SameElements}
use Rattle.cpe_rows.specs.After.{after}
use Rattle.cpe_rows.specs.declared.edit.Edit.TheVariants as edit
use Rattle.cpe_rows.specs.declared.statement.Mode.{Mode}
use Rattle.cpe_rows.specs.declared.statement.Mode.TheVariants.{Plain, Follow}
use Rattle.fact_laws.specs.Shown.{names_at}
use Rattle.fact_laws.specs.Asked.{fresh_facts, leads}
use Rattle.fact_boards.specs.Kept.{board_of_mode, Boards, AreSettled, KeepLevels, KeepsBoardRoom, ShowRows}
use Rattle.fact_boards.proofs.Boards.{asked_room, asks, levels_stay, other_follow, other_plain, other_put, reordered, statement_more}
use Rattle.std.proofs.lemmas.Grind.{common_steps}
use Rattle.fact_boards.proofs.kept.KeptFacts.ask.Goals as goal

pub returns-in-Plain : goal.returns-in-Plain
returns-in-Plain g c = record {
  fits = grind (arith, common_steps);
  shows = λ rows s own asked_before led. let names = c.args.table.now in
      let before = subst (λ (b : Boards). ShowRows names b rows) (sym c.self.view_is) asked_before in
      record { plain = asks names c.lawful.ensures c.self.inside.plain c.ask.new.board Plain c.args.numbers.now c.requires.live rows (after rows (edit.PutStatement s)) c.ask.ensures.asks (statement_more rows Plain s (names_at names c.args.numbers.now) (subst (λ (m : Mode). SameElements (names_at names c.args.numbers.now) (flat_map (leads rows.entries m) (fresh_facts m rows.statements s))) c.in-Plain.is led)) refl before.plain; follow = reordered names c.self.inside.follow Follow rows (after rows (edit.PutStatement s)) (other_put rows Plain s (own ∙ c.in-Plain.is)) refl before.follow };
  levels = let next : Boards = record { plain = c.ask.new.board; follow = c.self.inside.follow } in
      subst (λ (b : Boards). KeepLevels b next) c.self.view_is (record { plain = c.ask.ensures.asks.levels; follow = levels_stay c.self.inside.follow });
  settled = λ before.
      let marks = subst AreSettled (sym c.self.view_is) before in
      record { plain = c.ask.ensures.asks.stay.marks ∙ marks.plain; follow = marks.follow };
  room = let next : Boards = record { plain = c.ask.new.board; follow = c.self.inside.follow } in
      subst (λ (m : Mode). KeepsBoardRoom (board_of_mode c.args.self.now m) (board_of_mode next m) (length c.args.numbers.now) 0) (sym c.in-Plain.is)
      (subst (λ (b : Boards). KeepsBoardRoom b.plain c.ask.new.board (length c.args.numbers.now) 0) c.self.view_is (asked_room c.self.inside.plain c.ask.new.board c.args.table.now c.args.numbers.now c.ask.ensures.asks));
  other = other_follow c.args.self.now _ c.args.mode c.in-Plain.is (ap (λ (b : Boards). b.follow) c.self.view_is);
  steps = grind (arith, common_steps);
  rise = grind (arith, common_steps);
}

pub returns-in-Follow : goal.returns-in-Follow
returns-in-Follow g c = record {
  fits = grind (arith, common_steps);
  shows = λ rows s own asked_before led. let names = c.args.table.now in
      let before = subst (λ (b : Boards). ShowRows names b rows) (sym c.self.view_is) asked_before in
      record { follow = asks names c.lawful.ensures c.self.inside.follow c.ask-in-Follow.new.board Follow c.args.numbers.now c.requires.live rows (after rows (edit.PutStatement s)) c.ask-in-Follow.ensures.asks (statement_more rows Follow s (names_at names c.args.numbers.now) (subst (λ (m : Mode). SameElements (names_at names c.args.numbers.now) (flat_map (leads rows.entries m) (fresh_facts m rows.statements s))) c.in-Follow.is led)) refl before.follow; plain = reordered names c.self.inside.plain Plain rows (after rows (edit.PutStatement s)) (other_put rows Follow s (own ∙ c.in-Follow.is)) refl before.plain };
  levels = let next : Boards = record { follow = c.ask-in-Follow.new.board; plain = c.self.inside.plain } in
      subst (λ (b : Boards). KeepLevels b next) c.self.view_is (record { follow = c.ask-in-Follow.ensures.asks.levels; plain = levels_stay c.self.inside.plain });
  settled = λ before.
      let marks = subst AreSettled (sym c.self.view_is) before in
      record { follow = c.ask-in-Follow.ensures.asks.stay.marks ∙ marks.follow; plain = marks.plain };
  room = let next : Boards = record { plain = c.self.inside.plain; follow = c.ask-in-Follow.new.board } in
      subst (λ (m : Mode). KeepsBoardRoom (board_of_mode c.args.self.now m) (board_of_mode next m) (length c.args.numbers.now) 0) (sym c.in-Follow.is)
      (subst (λ (b : Boards). KeepsBoardRoom b.follow c.ask-in-Follow.new.board (length c.args.numbers.now) 0) c.self.view_is (asked_room c.self.inside.follow c.ask-in-Follow.new.board c.args.table.now c.args.numbers.now c.ask-in-Follow.ensures.asks));
  other = other_plain c.args.self.now _ c.args.mode c.in-Follow.is (ap (λ (b : Boards). b.plain) c.self.view_is);
  steps = grind (arith, common_steps);
  rise = grind (arith, common_steps);
}
