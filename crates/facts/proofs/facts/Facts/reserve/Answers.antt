use Rattle.std.proofs.Common.{refl, sym, false, subst, arith, ◌∙◌}
use Rattle.cpe_rows.specs.declared.statement.Mode.TheVariants.{Plain, Follow}
use Rattle.fact_boards.proofs.Boards.{same_boards}
use Rattle.facts.specs.Facts.{FactsNow, HasFacts}
use Rattle.facts.specs.Room.{RoomOnBoards}
use Rattle.facts.proofs.MoveLemmas.{settled_facts}
use Rattle.facts.proofs.facts.Facts.reserve.Goals as goal

pub reserve-requires-clause-plain_there : goal.reserve-requires-clause-plain_there
reserve-requires-clause-plain_there c =
    let rows = c.requires.rows_before.0 in
    let table = c.args.table.now in
    let boards = c.self.inside.boards in
    let s = subst (λ (f : FactsNow). HasFacts table f rows c.requires.rows_before.1) (sym c.self.view_is) c.requires.rows_before.3 in
    omega (arith, c.requires.few, c.few_present.ensures.target_ids table boards.plain rows Plain c.lawful.ensures (c.lawful-2.ensures.on Plain) s.plain.shows c.requires.rows_before.2)

pub reserve-requires-clause-follow_there : goal.reserve-requires-clause-follow_there
reserve-requires-clause-follow_there c =
    let rows = c.requires.rows_before.0 in
    let table = c.args.table.now in
    let boards = c.self.inside.boards in
    let s = subst (λ (f : FactsNow). HasFacts table f rows c.requires.rows_before.1) (sym c.self.view_is) c.requires.rows_before.3 in
    omega (arith, c.requires.few_follow, c.few_present.ensures.target_ids table boards.follow rows Follow c.lawful.ensures (c.lawful-2.ensures.on Follow) s.follow.shows c.requires.rows_before.2)

pub returns : goal.returns
returns c =
    let boards = c.self.inside.boards in
    let plain = c.self.inside.plain in
    let follow = c.self.inside.follow in
    let inside : FactsNow = record { boards = boards; plain = plain; follow = follow } in
    let made = c.reserve.ensures in
    let next = c.reserve.new.self in
    let new : FactsNow = record { boards = next; plain = plain; follow = follow } in
    subst (λ (f : FactsNow). RoomOnBoards f new c.args.table.now c.args.plain c.args.follow c.reserve.result) c.self.view_is (record {
      facts = λ names rows tickets rows_before.
          let shows = same_boards names boards next rows made.same (record { plain = rows_before.plain.shows; follow = rows_before.follow.shows }) in
          let fits = made.fits names (record { plain = rows_before.plain.fits; follow = rows_before.follow.fits }) in
          record {
            plain = settled_facts names Plain boards.plain next.plain rows tickets plain (λ q. false) rows_before.plain shows.plain fits.plain;
            follow = settled_facts names Follow boards.follow next.follow rows tickets follow (λ q. false) rows_before.follow shows.follow fits.follow;
            settled = record { plain = made.same.plain.marks ∙ rows_before.settled.plain; follow = made.same.follow.marks ∙ rows_before.settled.follow };
            numbered = rows_before.numbered;
          };
      boards = made;
      plain = refl;
      follow = refl;
    })
