use Rattle.std.proofs.Common.{map, sym, ap, subst, ◌∙◌}
use Rattle.std.specs.List.{list_all}
use Rattle.std.proofs.lemmas.Bool.{true≢false}
use Rattle.deprecation_graph.specs.Filled.{AreAllowed, nodes_of_lists}
use Rattle.cpe_dictionary.specs.Given.{may_have_deprecation}
use Rattle.cpe_dictionary.specs.Plans.{numbered_successors}
use Rattle.cpe_dictionary.proofs.GivenGraph.{allowed_given, kept_given}
use Rattle.cpe_dictionary.proofs.GivenLemmas.{may_have_given}
use Rattle.cpe_dictionary.proofs.GivenNumbers.{if_none, if_some}
use Rattle.cpe_dictionary.proofs.dictionary.Dictionary.graph_given.Goals as goal

pub returns-in-Ok-clause-kept : goal.returns-in-Ok-clause-kept
returns-in-Ok-clause-kept c =
    let es = c.args.self.now in
    let ds = c.args.deprecations.now in
    let found = if_some (list_all (may_have_deprecation es) ds) (map (numbered_successors es) ds) c.in-Ok-Some.numbers (sym c.in-Ok-Some.field-0-is ∙ c.in-Ok-Some.ensures) in
    let lists = c.as_slice.ensures ∙ found.1 in
    kept_given c.names_are_equal.ensures.same c.chains_are_paths.ensures c.entries_are_numbered.ensures.numbered c.entries_are_numbered.ensures.marked c.chains_by_number.ensures.paths c.chains_by_number.ensures.widths
    es ds c.requires c.lawful.ensures.lawful c.lawful.ensures.few c.in-Ok.graph.nodes found.0 (c.in-Ok.ensures.ok ∙ ap nodes_of_lists lists) (subst AreAllowed lists c.in-Ok.ensures.allowed)

pub returns-in-Ok-Some-clause-unlawful : goal.returns-in-Ok-Some-clause-unlawful
returns-in-Ok-Some-clause-unlawful c is left =
    let es = c.args.self.now in
    let ds = c.args.deprecations.now in
    let found = if_some (list_all (may_have_deprecation es) ds) (map (numbered_successors es) ds) c.in-Ok-Some.numbers (sym c.in-Ok-Some.field-0-is ∙ c.in-Ok-Some.ensures) in
    let lists = c.as_slice.ensures ∙ found.1 in
    c.in-Err-fill.ensures.unlawful is
    (
    subst AreAllowed (sym lists)
    (allowed_given c.names_are_equal.ensures.same c.chains_are_paths.ensures c.entries_are_numbered.ensures.numbered c.entries_are_numbered.ensures.marked c.chains_by_number.ensures.paths c.chains_by_number.ensures.widths
    es ds c.requires c.lawful.ensures.lawful c.lawful.ensures.few c.edits_by_number.ensures.numbers c.faults_by_number.ensures.repeats c.faults_by_number.ensures.different left)
    )

pub returns-in-Ok-None-clause-unlawful : goal.returns-in-Ok-None-clause-unlawful
returns-in-Ok-None-clause-unlawful c is left =
    let es = c.args.self.now in
    let ds = c.args.deprecations.now in
    true≢false (sym (may_have_given es ds c.requires left) ∙ if_none (list_all (may_have_deprecation es) ds) (map (numbered_successors es) ds) (sym c.in-Ok-None.field-0-is ∙ c.in-Ok-None.ensures))
