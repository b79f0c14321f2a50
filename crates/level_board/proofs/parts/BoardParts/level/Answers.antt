use Rattle.std.proofs.Common.{rules, sym, subst}
use Rattle.level_board.specs.declared.level.Level.{Level}
use Rattle.level_board.specs.Board.{HasLevel, board_of_parts}
use Rattle.level_board.proofs.LevelLemmas.{level_law}
use Rattle.level_board.proofs.parts.BoardParts.level.Goals as goal

pub returns-in-Some-clause-probe : goal.returns-in-Some-clause-probe
returns-in-Some-clause-probe c = λ some names f. subst (λ (l : Level). HasLevel (board_of_parts c.args.self.now) names c.args.probe.0 l) (sym c.level_of.ensures) (level_law c.args.self.now c.requires.board names f c.args.probe.0 c.in-Some.row.now (search rules))
