use Rattle.std.proofs.Common.{subst}
use Rattle.level_board.specs.Board.{AreAnswers, ProbesAreMarks, AreHeldIds}
use Rattle.fact_boards.specs.Kept.{AreSound, Boards}
use Rattle.fact_boards.proofs.Boards.{each_mode}
use Rattle.fact_boards.proofs.kept.KeptFacts.lawful.Goals as goal

pub returns : goal.returns
returns c =
    let here : Boards = record { plain = c.self.inside.plain; follow = c.self.inside.follow } in
    subst AreSound c.self.view_is
    (record {
      on = each_mode AreHeldIds here c.lawful.ensures.on c.lawful-2.ensures.on;
      answers = each_mode AreAnswers here c.lawful.ensures.answers c.lawful-2.ensures.answers;
      marks = each_mode ProbesAreMarks here c.lawful.ensures.marks c.lawful-2.ensures.marks;
    })
