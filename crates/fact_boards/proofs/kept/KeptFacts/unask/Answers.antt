use Rattle.std.proofs.Common.{◌≤◌, ℕ, ◌++◌, arith, refl, sym, ap, subst, ◌∙◌}
use Rattle.std.specs.List.{flat_map}
use Rattle.name_index.specs.Elements.{SameElements}
use Rattle.level_board.specs.Board.{probe_times}
use Rattle.cpe_rows.specs.After.{after}
use Rattle.cpe_rows.specs.declared.edit.Edit.TheVariants as edit
use Rattle.cpe_rows.specs.declared.statement.Mode.{Mode}
use Rattle.cpe_rows.specs.declared.statement.Mode.TheVariants.{Plain, Follow}
use Rattle.fact_laws.specs.Shown.{names_at, times_in_list}
use Rattle.fact_laws.specs.Asked.{asked, fresh_facts, leads}
use Rattle.fact_boards.specs.Kept.{board_of_mode, Boards, AreSettled, KeepLevels, KeepsBoardRoom, ShowRows}
use Rattle.fact_boards.proofs.Boards.{unasked_room, unasks, levels_stay, other_dropped, other_follow, other_plain, other_put, reordered, statement_less, statement_more, turned}
use Rattle.std.proofs.lemmas.Grind.{common_steps}
use Rattle.fact_boards.proofs.kept.KeptFacts.unask.Goals as goal

pub unask-requires-clause-asked : goal.unask-requires-clause-asked
unask-requires-clause-asked g c =
    subst (λ (b : Boards). (p : ℕ) → times_in_list p c.args.numbers.now ≤ probe_times b.plain p) (sym c.self.view_is)
    (subst (λ (m : Mode). (p : ℕ) → times_in_list p c.args.numbers.now ≤ probe_times (board_of_mode c.args.self.now m) p) c.in-Plain.is c.requires.asked)

pub unask-requires-in-Follow-clause-asked : goal.unask-requires-in-Follow-clause-asked
unask-requires-in-Follow-clause-asked g c =
    subst (λ (b : Boards). (p : ℕ) → times_in_list p c.args.numbers.now ≤ probe_times b.follow p) (sym c.self.view_is)
    (subst (λ (m : Mode). (p : ℕ) → times_in_list p c.args.numbers.now ≤ probe_times (board_of_mode c.args.self.now m) p) c.in-Follow.is c.requires.asked)

pub returns-in-Plain : goal.returns-in-Plain
returns-in-Plain g c = record {
  fits = grind (arith, common_steps);
  shows = λ rows id s own found asked_before led. let names = c.args.table.now in
      let before = subst (λ (b : Boards). ShowRows names b rows) (sym c.self.view_is) asked_before in
      record { plain = unasks names c.lawful.ensures c.self.inside.plain c.unask.new.board Plain c.args.numbers.now c.requires.live rows (after rows (edit.DropStatement id)) c.unask.ensures.unasks (statement_less rows Plain id s (names_at names c.args.numbers.now) found (subst (λ (m : Mode). SameElements (names_at names c.args.numbers.now) (flat_map (leads rows.entries m) (fresh_facts m (after rows (edit.DropStatement id)).statements s))) c.in-Plain.is led)) refl before.plain; follow = reordered names c.self.inside.follow Follow rows (after rows (edit.DropStatement id)) (other_dropped rows Plain id s (own ∙ c.in-Plain.is) found) refl before.follow };
  back = λ rows s own led asked_before. let names = c.args.table.now in
      let before = subst (λ (b : Boards). ShowRows names b (after rows (edit.PutStatement s))) (sym c.self.view_is) asked_before in
      record { plain = unasks names c.lawful.ensures c.self.inside.plain c.unask.new.board Plain c.args.numbers.now c.requires.live (after rows (edit.PutStatement s)) rows c.unask.ensures.unasks (turned (names_at names c.args.numbers.now ++ asked rows Plain) (asked (after rows (edit.PutStatement s)) Plain) (statement_more rows Plain s (names_at names c.args.numbers.now) (subst (λ (m : Mode). SameElements (names_at names c.args.numbers.now) (flat_map (leads rows.entries m) (fresh_facts m rows.statements s))) c.in-Plain.is led))) refl before.plain; follow = reordered names c.self.inside.follow Follow (after rows (edit.PutStatement s)) rows (turned (asked rows Follow) (asked (after rows (edit.PutStatement s)) Follow) (other_put rows Plain s (own ∙ c.in-Plain.is))) refl before.follow };
  levels = let next : Boards = record { plain = c.unask.new.board; follow = c.self.inside.follow } in
      subst (λ (b : Boards). KeepLevels b next) c.self.view_is (record { plain = c.unask.ensures.unasks.levels; follow = levels_stay c.self.inside.follow });
  settled = λ before.
      let marks = subst AreSettled (sym c.self.view_is) before in
      record { plain = c.unask.ensures.unasks.stay.marks ∙ marks.plain; follow = marks.follow };
  room = let next : Boards = record { plain = c.unask.new.board; follow = c.self.inside.follow } in
      subst (λ (m : Mode). KeepsBoardRoom (board_of_mode c.args.self.now m) (board_of_mode next m) 0 0) (sym c.in-Plain.is)
      (subst (λ (b : Boards). KeepsBoardRoom b.plain c.unask.new.board 0 0) c.self.view_is (unasked_room c.self.inside.plain c.unask.new.board c.args.table.now c.args.numbers.now c.unask.ensures.unasks));
  other = other_follow c.args.self.now _ c.args.mode c.in-Plain.is (ap (λ (b : Boards). b.follow) c.self.view_is);
  steps = grind (arith, common_steps);
}

pub returns-in-Follow : goal.returns-in-Follow
returns-in-Follow g c = record {
  fits = grind (arith, common_steps);
  shows = λ rows id s own found asked_before led. let names = c.args.table.now in
      let before = subst (λ (b : Boards). ShowRows names b rows) (sym c.self.view_is) asked_before in
      record { follow = unasks names c.lawful.ensures c.self.inside.follow c.unask-in-Follow.new.board Follow c.args.numbers.now c.requires.live rows (after rows (edit.DropStatement id)) c.unask-in-Follow.ensures.unasks (statement_less rows Follow id s (names_at names c.args.numbers.now) found (subst (λ (m : Mode). SameElements (names_at names c.args.numbers.now) (flat_map (leads rows.entries m) (fresh_facts m (after rows (edit.DropStatement id)).statements s))) c.in-Follow.is led)) refl before.follow; plain = reordered names c.self.inside.plain Plain rows (after rows (edit.DropStatement id)) (other_dropped rows Follow id s (own ∙ c.in-Follow.is) found) refl before.plain };
  back = λ rows s own led asked_before. let names = c.args.table.now in
      let before = subst (λ (b : Boards). ShowRows names b (after rows (edit.PutStatement s))) (sym c.self.view_is) asked_before in
      record { follow = unasks names c.lawful.ensures c.self.inside.follow c.unask-in-Follow.new.board Follow c.args.numbers.now c.requires.live (after rows (edit.PutStatement s)) rows c.unask-in-Follow.ensures.unasks (turned (names_at names c.args.numbers.now ++ asked rows Follow) (asked (after rows (edit.PutStatement s)) Follow) (statement_more rows Follow s (names_at names c.args.numbers.now) (subst (λ (m : Mode). SameElements (names_at names c.args.numbers.now) (flat_map (leads rows.entries m) (fresh_facts m rows.statements s))) c.in-Follow.is led))) refl before.follow; plain = reordered names c.self.inside.plain Plain (after rows (edit.PutStatement s)) rows (turned (asked rows Plain) (asked (after rows (edit.PutStatement s)) Plain) (other_put rows Follow s (own ∙ c.in-Follow.is))) refl before.plain };
  levels = let next : Boards = record { follow = c.unask-in-Follow.new.board; plain = c.self.inside.plain } in
      subst (λ (b : Boards). KeepLevels b next) c.self.view_is (record { follow = c.unask-in-Follow.ensures.unasks.levels; plain = levels_stay c.self.inside.plain });
  settled = λ before.
      let marks = subst AreSettled (sym c.self.view_is) before in
      record { follow = c.unask-in-Follow.ensures.unasks.stay.marks ∙ marks.follow; plain = marks.plain };
  room = let next : Boards = record { plain = c.self.inside.plain; follow = c.unask-in-Follow.new.board } in
      subst (λ (m : Mode). KeepsBoardRoom (board_of_mode c.args.self.now m) (board_of_mode next m) 0 0) (sym c.in-Follow.is)
      (subst (λ (b : Boards). KeepsBoardRoom b.follow c.unask-in-Follow.new.board 0 0) c.self.view_is (unasked_room c.self.inside.follow c.unask-in-Follow.new.board c.args.table.now c.args.numbers.now c.unask-in-Follow.ensures.unasks));
  other = other_plain c.args.self.now _ c.args.mode c.in-Follow.is (ap (λ (b : Boards). b.plain) c.self.view_is);
  steps = grind (arith, common_steps);
}
