use Rattle.std.proofs.Common.{arith, sym, subst}
use Rattle.fact_boards.specs.Kept.{Boards, FitBoards}
use Rattle.std.proofs.lemmas.Grind.{common_steps}
use Rattle.fact_boards.proofs.kept.KeptFacts.reserve.Goals as goal

pub returns : goal.returns
returns c = record { same = grind (arith, common_steps); plain = grind (arith, common_steps); plain_there = grind (arith, common_steps); plain_wide = grind (arith, common_steps); follow = grind (arith, common_steps); follow_there = grind (arith, common_steps); follow_wide = grind (arith, common_steps); fits = λ names f. let before = subst (λ (b : Boards). FitBoards b names) (sym c.self.view_is) f in record { plain = c.reserve.ensures.fits names before.plain; follow = c.reserve-2.ensures.fits names before.follow } }

pub returns-in_err-reserve : goal.returns-in_err-reserve
returns-in_err-reserve c = record { same = grind (arith, common_steps); plain = grind (arith, common_steps); plain_there = grind (arith, common_steps); plain_wide = grind (arith, common_steps); follow = grind (arith, common_steps); follow_there = grind (arith, common_steps); follow_wide = grind (arith, common_steps); fits = λ names f. let before = subst (λ (b : Boards). FitBoards b names) (sym c.self.view_is) f in record { plain = c.reserve.ensures.fits names before.plain; follow = before.follow } }
