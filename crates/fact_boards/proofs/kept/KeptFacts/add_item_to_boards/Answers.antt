use Rattle.std.proofs.Common.{List, length, [], ◌∷◌, arith, refl, sym, subst}
use Rattle.cpe_rows.specs.After.{after}
use Rattle.cpe_rows.specs.declared.edit.Edit.TheVariants as edit
use Rattle.cpe_rows.specs.declared.statement.Mode.TheVariants.{Plain, Follow}
use Rattle.name_index.specs.declared.table.NameId.{NameId}
use Rattle.fact_laws.specs.Shown.{name_at, names_at}
use Rattle.fact_boards.specs.Lists.{Arrives}
use Rattle.fact_boards.specs.Kept.{AreSettled, Boards, KeepLevels, KeepsBoardRoom, ShowRows}
use Rattle.fact_boards.proofs.Boards.{arrived_room, arriving, item_more, settled_marked}
use Rattle.std.proofs.lemmas.Grind.{common_steps}
use Rattle.fact_boards.proofs.kept.KeptFacts.add_item_to_boards.Goals as goal

pub returns : goal.returns
returns g c = record {
  fits = grind (arith, common_steps);
  shows = λ rows asked led. let names = c.args.table.now in
      let before = subst (λ (b : Boards). ShowRows names b rows) (sym c.self.view_is) asked in
      let one = subst (λ (ns : List NameId). Arrives c.self.inside.plain c.arrive.new.board names ns) c.from_ref.ensures.value c.arrive.ensures.arrives in
      record {
        plain = arriving names c.lawful.ensures c.self.inside.plain c.arrive.new.board Plain (c.args.item ∷ []) (c.requires.item, tt) rows (after rows (edit.Item (name_at names c.args.item))) one (item_more rows Plain (name_at names c.args.item) (names_at names (c.args.item ∷ [])) refl) refl before.plain;
        follow = arriving names c.lawful.ensures c.self.inside.follow c.arrive-2.new.board Follow c.args.ends.now c.requires.ends rows (after rows (edit.Item (name_at names c.args.item))) c.arrive-2.ensures.arrives (item_more rows Follow (name_at names c.args.item) (names_at names c.args.ends.now) led) refl before.follow;
      };
  levels = let after_both : Boards = record { plain = c.arrive.new.board; follow = c.arrive-2.new.board } in
      subst (λ (b : Boards). KeepLevels b after_both) c.self.view_is (record { plain = c.arrive.ensures.arrives.stay.levels; follow = c.arrive-2.ensures.arrives.stay.levels });
  room = let one = subst (λ (ns : List NameId). Arrives c.self.inside.plain c.arrive.new.board c.args.table.now ns) c.from_ref.ensures.value c.arrive.ensures.arrives in
      subst (λ (b : Boards). KeepsBoardRoom b.plain c.arrive.new.board 0 1) c.self.view_is (arrived_room c.self.inside.plain c.arrive.new.board c.args.table.now (c.args.item ∷ []) one);
  room_follow = subst (λ (b : Boards). KeepsBoardRoom b.follow c.arrive-2.new.board 0 (length c.args.ends.now)) c.self.view_is (arrived_room c.self.inside.follow c.arrive-2.new.board c.args.table.now c.args.ends.now c.arrive-2.ensures.arrives);
  steps = grind (arith, common_steps);
  rise = grind (arith, common_steps);
}

pub arrive-requires-clause-marked : goal.arrive-requires-clause-marked
arrive-requires-clause-marked g c = settled_marked c.self.inside.plain (subst AreSettled (sym c.self.view_is) c.requires.settled).plain

pub arrive-requires-2-clause-marked : goal.arrive-requires-2-clause-marked
arrive-requires-2-clause-marked g c = settled_marked c.self.inside.follow (subst AreSettled (sym c.self.view_is) c.requires.settled).follow
