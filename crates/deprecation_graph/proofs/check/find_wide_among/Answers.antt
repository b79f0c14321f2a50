use Rattle.std.specs.Option.{option_copied}
use Rattle.deprecation_graph.proofs.KeptLemmas.{kept_change}
use Rattle.deprecation_graph.proofs.check.find_wide_among.Goals as goal

pub find_ends-requires-clause-closed : goal.find_ends-requires-clause-closed
find_ends-requires-clause-closed c = kept_change c.args.kept.now c.args.change.node (option_copied c.args.change.next) c.requires.kept c.requires.change
