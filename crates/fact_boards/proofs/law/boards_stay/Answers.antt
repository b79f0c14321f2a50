use Rattle.std.proofs.Common.{sym, subst}
use Rattle.cpe_rows.specs.declared.statement.Mode.TheVariants.{Plain, Follow}
use Rattle.level_board.specs.Board.{probe_times, target_times}
use Rattle.fact_laws.specs.Shown.{Shows}
use Rattle.fact_laws.proofs.Moves.{entry_asked, entry_there}
use Rattle.fact_boards.proofs.Boards.{same_boards}
use Rattle.fact_boards.proofs.law.boards_stay.Goals as goal

pub returns-clause-entries : goal.returns-clause-entries
returns-clause-entries c names boards rows next e h s = record {
  plain = record {
    asked = subst (Shows names (probe_times boards.plain)) (sym (entry_asked rows next e h Plain)) s.plain.asked;
    there = subst (Shows names (target_times boards.plain)) (sym (entry_there rows next e h Plain)) s.plain.there;
  };
  follow = record {
    asked = subst (Shows names (probe_times boards.follow)) (sym (entry_asked rows next e h Follow)) s.follow.asked;
    there = subst (Shows names (target_times boards.follow)) (sym (entry_there rows next e h Follow)) s.follow.there;
  };
}

pub returns-clause-set : goal.returns-clause-set
returns-clause-set c names boards rows k t s = record {
  plain = record { asked = s.plain.asked; there = s.plain.there };
  follow = record { asked = s.follow.asked; there = s.follow.there };
}

pub returns-clause-dropped : goal.returns-clause-dropped
returns-clause-dropped c names boards rows k s = record {
  plain = record { asked = s.plain.asked; there = s.plain.there };
  follow = record { asked = s.follow.asked; there = s.follow.there };
}

pub returns-clause-same : goal.returns-clause-same
returns-clause-same c = same_boards
