use Rattle.std.proofs.Common.{◌≤◌, ℕ, List, [], ◌∷◌, arith, refl, sym, subst}
use Rattle.cpe_rows.specs.After.{after}
use Rattle.cpe_rows.specs.declared.edit.Edit.TheVariants as edit
use Rattle.cpe_rows.specs.declared.statement.Mode.TheVariants.{Plain, Follow}
use Rattle.name_index.specs.declared.table.NameId.{NameId}
use Rattle.fact_laws.specs.Shown.{name_at, names_at, times_in_list}
use Rattle.level_board.specs.Board.{target_times}
use Rattle.fact_boards.specs.Lists.{Departs}
use Rattle.fact_boards.specs.Kept.{AreSettled, Boards, KeepLevels, KeepsBoardRoom, ShowRows}
use Rattle.fact_boards.proofs.Boards.{left_room, rest_goes, item_less, settled_marked}
use Rattle.fact_boards.proofs.Steps.{one_there}
use Rattle.std.proofs.lemmas.Grind.{common_steps}
use Rattle.fact_boards.proofs.kept.KeptFacts.remove_item_from_boards.Goals as goal

pub leave-requires-clause-there : goal.leave-requires-clause-there
leave-requires-clause-there g c =
    subst (λ (ns : List NameId). (t : ℕ) → times_in_list t ns ≤ target_times c.self.inside.plain t) (sym c.from_ref.ensures.value)
    (subst (λ (b : Boards). (t : ℕ) → times_in_list t (c.args.item ∷ []) ≤ target_times b.plain t) (sym c.self.view_is) (one_there c.args.self.now.plain c.args.item c.requires.there))

pub returns : goal.returns
returns g c = record {
  fits = grind (arith, common_steps);
  shows = λ rows asked known led. let names = c.args.table.now in
      let before = subst (λ (b : Boards). ShowRows names b rows) (sym c.self.view_is) asked in
      let one = subst (λ (ns : List NameId). Departs c.self.inside.plain c.leave.new.board names ns) c.from_ref.ensures.value c.leave.ensures.leaves in
      record {
        plain = rest_goes names c.lawful.ensures c.self.inside.plain c.leave.new.board Plain (c.args.item ∷ []) (c.requires.item, tt) rows (after rows (edit.DropItem (name_at names c.args.item))) one (item_less rows Plain (name_at names c.args.item) (names_at names (c.args.item ∷ [])) known refl) refl before.plain;
        follow = rest_goes names c.lawful.ensures c.self.inside.follow c.leave-2.new.board Follow c.args.ends.now c.requires.ends rows (after rows (edit.DropItem (name_at names c.args.item))) c.leave-2.ensures.leaves (item_less rows Follow (name_at names c.args.item) (names_at names c.args.ends.now) known led) refl before.follow;
      };
  levels = let after_both : Boards = record { plain = c.leave.new.board; follow = c.leave-2.new.board } in
      subst (λ (b : Boards). KeepLevels b after_both) c.self.view_is (record { plain = c.leave.ensures.leaves.stay.levels; follow = c.leave-2.ensures.leaves.stay.levels });
  room = let one = subst (λ (ns : List NameId). Departs c.self.inside.plain c.leave.new.board c.args.table.now ns) c.from_ref.ensures.value c.leave.ensures.leaves in
      subst (λ (b : Boards). KeepsBoardRoom b.plain c.leave.new.board 0 0) c.self.view_is (left_room c.self.inside.plain c.leave.new.board c.args.table.now (c.args.item ∷ []) one);
  room_follow = subst (λ (b : Boards). KeepsBoardRoom b.follow c.leave-2.new.board 0 0) c.self.view_is (left_room c.self.inside.follow c.leave-2.new.board c.args.table.now c.args.ends.now c.leave-2.ensures.leaves);
  steps = grind (arith, common_steps);
  rise = grind (arith, common_steps);
}

pub leave-requires-clause-marked : goal.leave-requires-clause-marked
leave-requires-clause-marked g c = settled_marked c.self.inside.plain (subst AreSettled (sym c.self.view_is) c.requires.settled).plain

pub leave-requires-2-clause-marked : goal.leave-requires-2-clause-marked
leave-requires-2-clause-marked g c = settled_marked c.self.inside.follow (subst AreSettled (sym c.self.view_is) c.requires.settled).follow
