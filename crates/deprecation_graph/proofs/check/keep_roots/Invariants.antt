use Rattle.std.proofs.Common.{◌≡◌, take}
use Rattle.std.specs.List.{filter}
use Rattle.deprecation_graph.specs.Indexed.{has_none}
use Rattle.deprecation_graph.proofs.check.keep_roots.Given as goal

abbrev pub invariant-loop-source : goal.invariant-loop-source
invariant-loop-source l = l.roots.items ≡ filter (has_none l.kept.before.lists) (take l.source-index l.sources)
