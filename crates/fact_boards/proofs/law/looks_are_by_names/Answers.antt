use Rattle.name_index.specs.declared.products.Side.TheVariants as side
use Rattle.level_board.specs.Board.{probe_times, target_times, target_ids}
use Rattle.fact_laws.specs.Asked.{asked, target_names}
use Rattle.fact_laws.proofs.Different.{held_few}
use Rattle.fact_boards.proofs.Looks.{looks_are}
use Rattle.fact_boards.proofs.law.looks_are_by_names.Goals as goal

pub returns-clause-asked : goal.returns-clause-asked
returns-clause-asked c names board rows mode numbers are on s = looks_are names (probe_times board) (asked rows mode) board.probe_ids side.Target numbers are on.probes s.asked

pub returns-clause-there : goal.returns-clause-there
returns-clause-there c names board rows mode numbers are on s = looks_are names (target_times board) (target_names rows mode) (target_ids board) side.Source numbers are on.targets s.there

pub returns-clause-few : goal.returns-clause-few
returns-clause-few c names board rows mode are on s = held_few names (probe_times board) (asked rows mode) board.probe_ids are on.probes s.asked

pub returns-clause-few_there : goal.returns-clause-few_there
returns-clause-few_there c names board rows mode are on s = held_few names (target_times board) (target_names rows mode) (target_ids board) are on.targets s.there
