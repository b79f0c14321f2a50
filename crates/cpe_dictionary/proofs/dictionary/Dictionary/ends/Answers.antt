use Rattle.std.proofs.Common.{List, ap, subst, ◌∙◌}
use Rattle.cpe_rows.specs.declared.entry.Entry.{Entry}
use Rattle.deprecation_graph.specs.Graph.{Node, ends_in}
use Rattle.cpe_dictionary.specs.Faults.{AreDifferent}
use Rattle.cpe_dictionary.specs.Numbers.{nodes_of_entries}
use Rattle.cpe_dictionary.specs.Kept.{entry_names_at}
use Rattle.cpe_dictionary.proofs.DictionaryLemmas.{ends_named}
use Rattle.cpe_dictionary.proofs.dictionary.Dictionary.ends.Goals as goal

pub returns-in-Ok-clause-numbers : goal.returns-in-Ok-clause-numbers
returns-in-Ok-clause-numbers c =
    let k = c.args.number in
    c.in-Ok.ensures ∙ ap (λ (ns : List Node). ends_in ns k) c.self.invariant.numbered ∙ ap (λ (xs : List Entry). ends_in (nodes_of_entries xs) k) c.self.view_is

pub returns-in-Ok-clause-names : goal.returns-in-Ok-clause-names
returns-in-Ok-clause-names c =
    let es = c.args.self.now in
    let k = c.args.number in
    let different = subst AreDifferent c.self.view_is c.self.invariant.lawful.names_differ in
    ap (entry_names_at es) (returns-in-Ok-clause-numbers c)
    ∙ ends_named es c.args.name.now k c.requires different c.chains_by_number.ensures.ends c.entries_are_numbered.ensures.numbered c.entries_are_numbered.ensures.marked
