use Rattle.std.proofs.Common.{List, ap, subst, ◌∙◌}
use Rattle.deprecation_graph.specs.Graph.{Node, sources_in}
use Rattle.cpe_dictionary.specs.Faults.{AreDifferent}
use Rattle.cpe_dictionary.specs.Numbers.{nodes_of_entries}
use Rattle.cpe_dictionary.proofs.SourceLemmas.{sources_by_number}
use Rattle.cpe_dictionary.proofs.dictionary.Dictionary.sources.Goals as goal

pub invariant_of-result : goal.invariant_of-result
invariant_of-result c =
    let nodes = c.self.invariant.numbered ∙ ap nodes_of_entries c.self.view_is in
    let different = subst AreDifferent c.self.view_is c.self.invariant.lawful.names_differ in
    sources_by_number c.args.self c.args.entry.now c.args.number c.in-Ok.numbers.items c.chains_by_number.ensures.paths c.entries_are_numbered.ensures.numbered c.chains_are_paths.ensures different c.requires
    (c.in-Ok.ensures ∙ ap (λ (ns : List Node). sources_in ns c.args.number) nodes)
