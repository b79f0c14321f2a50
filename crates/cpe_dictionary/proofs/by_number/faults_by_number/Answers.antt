use Rattle.cpe_dictionary.proofs.Faulted.{repeats_law, different_law, cycles_law, width_law}
use Rattle.cpe_dictionary.proofs.by_number.faults_by_number.Goals as goal

pub returns-clause-repeats : goal.returns-clause-repeats
returns-clause-repeats c = repeats_law c.names_are_equal.ensures.same

pub returns-clause-different : goal.returns-clause-different
returns-clause-different c = different_law

pub returns-clause-cycles : goal.returns-clause-cycles
returns-clause-cycles c = cycles_law c.names_are_equal.ensures.same c.chains_by_number.ensures.paths c.entries_are_numbered.ensures.numbered

pub returns-clause-width : goal.returns-clause-width
returns-clause-width c = width_law c.chains_by_number.ensures.widths c.entries_are_numbered.ensures.numbered c.entries_are_numbered.ensures.marked
