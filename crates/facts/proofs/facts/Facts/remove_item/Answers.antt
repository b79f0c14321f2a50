use Rattle.std.proofs.Common.{◌++◌, List, ◌∷◌, [], refl, sym, subst, arith}
use Rattle.cpe_rows.specs.cpe_name.Eleven.{Values}
use Rattle.cpe_rows.specs.After.{after}
use Rattle.cpe_rows.specs.Rows.{Rows}
use Rattle.cpe_rows.specs.declared.edit.Edit.TheVariants as edit
use Rattle.cpe_rows.specs.declared.statement.Mode.TheVariants.{Plain, Follow}
use Rattle.fact_boards.specs.level_board.Board.{target_times}
use Rattle.fact_laws.specs.Shown.{name_at, Shows}
use Rattle.fact_laws.specs.Asked.{target_names}
use Rattle.fact_boards.specs.Kept.{ShowRows}
use Rattle.fact_boards.proofs.Steps.{itself}
use Rattle.facts.specs.Facts.{AreChanges, AreUsed, FactsNow, HasFacts}
use Rattle.facts.specs.Calls.{MayRemoveItem}
use Rattle.facts.proofs.MoveLemmas.{all_changed, both_in_use, item_looked, over_items, still_in_use}
use Rattle.facts.proofs.facts.Facts.remove_item.Goals as goal

pub returns : goal.returns
returns g c =
    let names = c.args.table.now in
    let are = c.lawful.ensures in
    let plain = c.self.inside.plain in
    let follow = c.self.inside.follow in
    let boards = c.self.inside.boards in
    let mid = c.remove_item_from_boards.new.self in
    let plain_cleared = c.clear_changed.new.self in
    let follow_cleared = c.clear_changed-2.new.self in
    let inside : FactsNow = record { boards = boards; plain = plain; follow = follow } in
    let new : FactsNow = record { boards = c.settle.new.boards; plain = c.settle.new.plain; follow = c.settle.new.follow } in
    record {
      facts = λ rows tickets rows_before is has.
          let s = subst (λ (f : FactsNow). HasFacts names f rows tickets) (sym c.self.view_is) rows_before in
          let next : Rows = after rows (edit.DropItem (name_at names c.args.item)) in
          let before : ShowRows names boards rows = record { plain = s.plain.shows; follow = s.follow.shows } in
          let shows = c.remove_item_from_boards.ensures.shows rows before has is.names in
          let of_plain = over_items plain plain_cleared c.clear_changed.ensures.stay c.clear_changed.ensures.links names are Plain boards.plain mid.plain (c.lawful-2.ensures.answers Plain) (c.lawful-3.ensures.answers Plain) c.remove_item_from_boards.ensures.levels.plain rows next tickets s.plain refl refl shows.plain c.remove_item_from_boards.ensures.fits.plain in
          let of_follow = over_items follow follow_cleared c.clear_changed-2.ensures.stay c.clear_changed-2.ensures.links names are Follow boards.follow mid.follow (c.lawful-2.ensures.answers Follow) (c.lawful-3.ensures.answers Follow) c.remove_item_from_boards.ensures.levels.follow rows next tickets s.follow refl refl shows.follow c.remove_item_from_boards.ensures.fits.follow in
          record {
            plain = c.settle.ensures.plain names next tickets are of_plain of_follow;
            follow = c.settle.ensures.follow names next tickets are of_plain of_follow;
            settled = c.settle.ensures.settled;
            numbered = s.numbered;
          };
      changed = subst (λ (f : FactsNow). AreChanges f.plain c.settle.new.plain) c.self.view_is (all_changed plain plain_cleared c.clear_changed.ensures.stay c.clear_changed.ensures.links c.settle.new.plain c.clear_changed.ensures.cleared c.settle.ensures.changed);
      changed_follow = subst (λ (f : FactsNow). AreChanges f.follow c.settle.new.follow) c.self.view_is (all_changed follow follow_cleared c.clear_changed-2.ensures.stay c.clear_changed-2.ensures.links c.settle.new.follow c.clear_changed-2.ensures.cleared c.settle.ensures.changed_follow);
      used = subst (λ (f : FactsNow). AreUsed f → AreUsed new) c.self.view_is
          (both_in_use inside new (still_in_use plain plain_cleared c.clear_changed.ensures.stay c.clear_changed.ensures.links c.settle.new.plain c.settle.ensures.same)
          (still_in_use follow follow_cleared c.clear_changed-2.ensures.stay c.clear_changed-2.ensures.links c.settle.new.follow c.settle.ensures.same_follow));
      steps = λ rows tickets rows_before is.
          let s = subst (λ (f : FactsNow). HasFacts names f rows tickets) (sym c.self.view_is) rows_before in
          (c.remove_item_from_boards.ensures.rise, omega (arith, c.remove_item_from_boards.ensures.steps, item_looked names boards rows c.args.item c.args.ends.now are c.lawful-2.ensures s.plain.shows s.follow.shows is));
    }

pub remove_item_from_boards-requires-clause-there : goal.remove_item_from_boards-requires-clause-there
remove_item_from_boards-requires-clause-there g c =
    let names = c.args.table.now in
    let boards = c.self.inside.boards in
    let m = subst (λ (f : FactsNow). MayRemoveItem f names c.args.item c.args.ends.now) (sym c.self.view_is) c.requires in
    let n = name_at names c.args.item in
    let rows = m.rows_before.0 in
    omega (
      arith,
      itself c.args.item [],
      c.lists_are_shown.ensures.part names (target_times boards.plain) (c.args.item ∷ []) (target_names (after rows (edit.DropItem n)) Plain) c.args.item.0 c.lawful.ensures (c.requires.live, tt)
          (c.lists_are_shown.ensures.order names (target_times boards.plain) (target_names rows Plain) (n ∷ target_names (after rows (edit.DropItem n)) Plain) (c.items_arrive.ensures.left rows Plain n m.rows_before.4) m.rows_before.2.plain.shows.there),
    )

pub remove_item_from_boards-requires-clause-there_follow : goal.remove_item_from_boards-requires-clause-there_follow
remove_item_from_boards-requires-clause-there_follow g c t =
    let names = c.args.table.now in
    let boards = c.self.inside.boards in
    let m = subst (λ (f : FactsNow). MayRemoveItem f names c.args.item c.args.ends.now) (sym c.self.view_is) c.requires in
    let n = name_at names c.args.item in
    let rows = m.rows_before.0 in
    let rest = target_names (after rows (edit.DropItem n)) Follow in
    c.lists_are_shown.ensures.part names (target_times boards.follow) c.args.ends.now rest t c.lawful.ensures m.rows_before.3.live
    (subst (λ (ns : List Values). Shows names (target_times boards.follow) (ns ++ rest)) (sym m.rows_before.3.names)
    (c.lists_are_shown.ensures.order names (target_times boards.follow) (target_names rows Follow) _ (c.items_arrive.ensures.left rows Follow n m.rows_before.4) m.rows_before.2.follow.shows.there))
