use Rattle.std.proofs.Common.{sym, subst}
use Rattle.cpe_rows.specs.declared.statement.Mode.TheVariants.{Plain, Follow}
use Rattle.fact_boards.specs.Kept.{Boards, FitBoards, KeepsBoardRoom, ShowRows}
use Rattle.fact_boards.proofs.Boards.{cleared_asked, cleared_room}
use Rattle.fact_boards.proofs.kept.KeptFacts.settle.Goals as goal

pub returns-clause-shows : goal.returns-clause-shows
returns-clause-shows c names rows asked =
    let before = subst (λ (b : Boards). ShowRows names b rows) (sym c.self.view_is) asked in
    record {
      plain = cleared_asked names c.self.inside.plain c.clear_marks.new.self rows Plain c.clear_marks.ensures.cleared before.plain;
      follow = cleared_asked names c.self.inside.follow c.clear_marks-2.new.self rows Follow c.clear_marks-2.ensures.cleared before.follow;
    }

pub returns-clause-fits : goal.returns-clause-fits
returns-clause-fits c names f =
    let before = subst (λ (b : Boards). FitBoards b names) (sym c.self.view_is) f in
    record { plain = c.clear_marks.ensures.fits names before.plain; follow = c.clear_marks-2.ensures.fits names before.follow }

pub returns-clause-room : goal.returns-clause-room
returns-clause-room c = subst (λ (b : Boards). KeepsBoardRoom b.plain c.clear_marks.new.self 0 0) c.self.view_is (cleared_room c.self.inside.plain c.clear_marks.new.self c.clear_marks.ensures.cleared)

pub returns-clause-room_follow : goal.returns-clause-room_follow
returns-clause-room_follow c = subst (λ (b : Boards). KeepsBoardRoom b.follow c.clear_marks-2.new.self 0 0) c.self.view_is (cleared_room c.self.inside.follow c.clear_marks-2.new.self c.clear_marks-2.ensures.cleared)
