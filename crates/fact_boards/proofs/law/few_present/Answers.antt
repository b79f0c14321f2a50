use Rattle.std.proofs.Common.{arith}
use Rattle.level_board.specs.Board.{probe_times, target_times, target_ids}
use Rattle.fact_laws.specs.Asked.{asked, target_names}
use Rattle.fact_laws.proofs.Few.{asked_few, there_few}
use Rattle.fact_laws.proofs.Different.{held_few}
use Rattle.fact_laws.proofs.Shown.{shows_few}
use Rattle.fact_boards.proofs.law.few_present.Goals as goal

pub returns-clause-probes : goal.returns-clause-probes
returns-clause-probes c names board rows mode p s lawful = omega (arith, shows_few names (probe_times board) (asked rows mode) p s.asked, asked_few rows lawful mode)

pub returns-clause-targets : goal.returns-clause-targets
returns-clause-targets c names board rows mode t s lawful = omega (arith, shows_few names (target_times board) (target_names rows mode) t s.there, there_few rows lawful mode)

pub returns-clause-probe_ids : goal.returns-clause-probe_ids
returns-clause-probe_ids c names board rows mode are on s lawful = omega (arith, held_few names (probe_times board) (asked rows mode) board.probe_ids are on.probes s.asked, asked_few rows lawful mode)

pub returns-clause-target_ids : goal.returns-clause-target_ids
returns-clause-target_ids c names board rows mode are on s lawful = omega (arith, held_few names (target_times board) (target_names rows mode) (target_ids board) are on.targets s.there, there_few rows lawful mode)
