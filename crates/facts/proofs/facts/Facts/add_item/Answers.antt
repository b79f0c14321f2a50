use Rattle.std.proofs.Common.{length, refl, sym, ap, subst, arith}
use Rattle.std.proofs.lemmas.List.{length-map}
use Rattle.cpe_rows.specs.After.{after}
use Rattle.cpe_rows.specs.Rows.{Rows}
use Rattle.cpe_rows.specs.declared.edit.Edit.TheVariants as edit
use Rattle.cpe_rows.specs.declared.statement.Mode.TheVariants.{Plain, Follow}
use Rattle.fact_laws.specs.Shown.{name_at}
use Rattle.fact_boards.specs.Kept.{ShowRows}
use Rattle.facts.specs.Facts.{AreChanges, AreUsed, FactsNow, HasFacts}
use Rattle.facts.specs.Calls.{MayAddItem}
use Rattle.facts.proofs.MoveLemmas.{all_changed, both_in_use, item_looked, over_items, still_in_use}
use Rattle.facts.proofs.facts.Facts.add_item.Goals as goal

pub returns : goal.returns
returns g c =
    let names = c.args.table.now in
    let are = c.lawful.ensures in
    let plain = c.self.inside.plain in
    let follow = c.self.inside.follow in
    let boards = c.self.inside.boards in
    let mid = c.add_item_to_boards.new.self in
    let plain_cleared = c.clear_changed.new.self in
    let follow_cleared = c.clear_changed-2.new.self in
    let inside : FactsNow = record { boards = boards; plain = plain; follow = follow } in
    let new : FactsNow = record { boards = c.settle.new.boards; plain = c.settle.new.plain; follow = c.settle.new.follow } in
    record {
      facts = λ rows tickets rows_before is.
          let s = subst (λ (f : FactsNow). HasFacts names f rows tickets) (sym c.self.view_is) rows_before in
          let next : Rows = after rows (edit.Item (name_at names c.args.item)) in
          let before : ShowRows names boards rows = record { plain = s.plain.shows; follow = s.follow.shows } in
          let shows = c.add_item_to_boards.ensures.shows rows before is.names in
          let of_plain = over_items plain plain_cleared c.clear_changed.ensures.stay c.clear_changed.ensures.links names are Plain boards.plain mid.plain (c.lawful-2.ensures.answers Plain) (c.lawful-3.ensures.answers Plain) c.add_item_to_boards.ensures.levels.plain rows next tickets s.plain refl refl shows.plain c.add_item_to_boards.ensures.fits.plain in
          let of_follow = over_items follow follow_cleared c.clear_changed-2.ensures.stay c.clear_changed-2.ensures.links names are Follow boards.follow mid.follow (c.lawful-2.ensures.answers Follow) (c.lawful-3.ensures.answers Follow) c.add_item_to_boards.ensures.levels.follow rows next tickets s.follow refl refl shows.follow c.add_item_to_boards.ensures.fits.follow in
          record {
            plain = c.settle.ensures.plain names next tickets are of_plain of_follow;
            follow = c.settle.ensures.follow names next tickets are of_plain of_follow;
            settled = c.settle.ensures.settled;
            numbered = s.numbered;
          };
      changed = subst (λ (f : FactsNow). AreChanges f.plain c.settle.new.plain) c.self.view_is (all_changed plain plain_cleared c.clear_changed.ensures.stay c.clear_changed.ensures.links c.settle.new.plain c.clear_changed.ensures.cleared c.settle.ensures.changed);
      changed_follow = subst (λ (f : FactsNow). AreChanges f.follow c.settle.new.follow) c.self.view_is (all_changed follow follow_cleared c.clear_changed-2.ensures.stay c.clear_changed-2.ensures.links c.settle.new.follow c.clear_changed-2.ensures.cleared c.settle.ensures.changed_follow);
      used = subst (λ (f : FactsNow). AreUsed f → AreUsed new) c.self.view_is
          (both_in_use inside new (still_in_use plain plain_cleared c.clear_changed.ensures.stay c.clear_changed.ensures.links c.settle.new.plain c.settle.ensures.same)
          (still_in_use follow follow_cleared c.clear_changed-2.ensures.stay c.clear_changed-2.ensures.links c.settle.new.follow c.settle.ensures.same_follow));
      steps = λ rows tickets rows_before is.
          let s = subst (λ (f : FactsNow). HasFacts names f rows tickets) (sym c.self.view_is) rows_before in
          (c.add_item_to_boards.ensures.rise, omega (arith, c.add_item_to_boards.ensures.steps, item_looked names boards rows c.args.item c.args.ends.now are c.lawful-2.ensures s.plain.shows s.follow.shows is));
    }

pub add_item_to_boards-requires : goal.add_item_to_boards-requires
add_item_to_boards-requires g c =
    let names = c.args.table.now in
    let boards = c.self.inside.boards in
    let m = subst (λ (f : FactsNow). MayAddItem f names c.args.item c.args.ends.now) (sym c.self.view_is) c.requires in
    let rows = m.rows_before.0 in
    let s = m.rows_before.3 in
    record {
      fits = record { plain = s.plain.fits; follow = s.follow.fits };
      item = m.live;
      ends = m.rows_before.4.live;
      wide = m.wide;
      wide_follow = m.wide_follow;
      room = m.room;
      room_follow = m.room_follow;
      few = λ t. omega (arith, c.few_present.ensures.targets names boards.plain rows Plain t s.plain.shows m.rows_before.2);
      few_follow = λ t. omega (
        arith,
        c.few_present.ensures.targets names boards.follow rows Follow t s.follow.shows m.rows_before.2,
        c.lawful_rows_ask_few.ensures.leads rows Follow (name_at names c.args.item) m.rows_before.2,
        ap length m.rows_before.4.names,
        length-map c.args.ends.now (name_at names),
      );
      settled = s.settled;
    }
