use Rattle.std.proofs.Common.{refl}
use Rattle.cpe_dictionary.proofs.Numbering.{chain_by_number, ends_by_number, widths_by_number, paths_by_number}
use Rattle.cpe_dictionary.proofs.by_number.chains_by_number.Goals as goal

pub returns-clause-chains : goal.returns-clause-chains
returns-clause-chains c entries next k e ok is = chain_by_number entries next k e ok is ((c.names_are_equal.ensures.same e.name e.name).1 refl) (c.chains_are_paths.ensures entries e.name) c.chains_are_paths-2.ensures

pub returns-clause-ends : goal.returns-clause-ends
returns-clause-ends c entries next active k e ok marked is = ends_by_number entries next k e ok is ((c.names_are_equal.ensures.same e.name e.name).1 refl) active marked (c.chains_are_paths.ensures entries e.name) c.chains_are_paths-2.ensures

pub returns-clause-widths : goal.returns-clause-widths
returns-clause-widths c entries next active k e ok marked is = widths_by_number entries next k e ok is ((c.names_are_equal.ensures.same e.name e.name).1 refl) active marked (c.chains_are_paths.ensures entries e.name) c.chains_are_paths-2.ensures

pub returns-clause-paths : goal.returns-clause-paths
returns-clause-paths c entries next k j e y ok is here = paths_by_number entries next k e ok is ((c.names_are_equal.ensures.same e.name e.name).1 refl) j y here ((c.names_are_equal.ensures.same y.name y.name).1 refl) (c.chains_are_paths.ensures entries e.name) c.chains_are_paths-2.ensures
