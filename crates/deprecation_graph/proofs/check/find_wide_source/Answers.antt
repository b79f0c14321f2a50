use Rattle.std.proofs.Common.{◌∙◌, not, ◌<◌, ℕ, length, ap, sym, subst, arith}
use Rattle.std.specs.List.{All, find, filter}
use Rattle.std.specs.Option.{option_copied}
use Rattle.std.proofs.lemmas.Result.{IfOk-weaker}
use Rattle.deprecation_graph.specs.Graph.{changed_nodes}
use Rattle.deprecation_graph.specs.Faults.{is_wide_node}
use Rattle.deprecation_graph.specs.Indexed.{has_none}
use Rattle.deprecation_graph.specs.Kept.{nodes_in}
use Rattle.deprecation_graph.proofs.KeptLemmas.{find_wide_source as wide_is_source, kept_sources_below, length-nodes_of}
use Rattle.deprecation_graph.proofs.RootLemmas.{narrow_roots, roots_below, none_found}
use Rattle.deprecation_graph.proofs.check.find_wide_source.Goals as goal

pub find_sources-requires-clause-node : goal.find_sources-requires-clause-node
find_sources-requires-clause-node c = omega (arith, c.requires.change.node, length-nodes_of c.args.kept.now.active.items c.args.kept.now.next.lists c.requires.kept.next)

pub keep_roots-requires : goal.keep_roots-requires
keep_roots-requires c = subst (λ (n : ℕ). All (λ x. x < n) c.deref.result.now) (sym c.requires.kept.before) (kept_sources_below c.args.kept.now c.args.change.node c.deref.result.now c.requires.kept (c.deref.ensures.value ∙ c.in_ok-sources.ensures))

pub find_wide_among-requires-clause-nodes : goal.find_wide_among-requires-clause-nodes
find_wide_among-requires-clause-nodes c = roots_below (length c.args.kept.now.active.items) (has_none c.args.kept.now.before.lists) c.deref.result.now c.deref-2.result.now (kept_sources_below c.args.kept.now c.args.change.node c.deref.result.now c.requires.kept (c.deref.ensures.value ∙ c.in_ok-sources.ensures)) (c.deref-2.ensures.value ∙ c.in_ok-roots.ensures)

pub returns-then-is_none : goal.returns-then-is_none
returns-then-is_none c =
    let to = option_copied c.args.change.next in
    let roots = c.deref-2.ensures.value ∙ c.in_ok-roots.ensures ∙ ap (filter (has_none c.args.kept.now.before.lists)) (c.deref.ensures.value ∙ c.in_ok-sources.ensures) in
    sym (narrow_roots c.args.kept.now c.requires.kept c.args.change.node to c.requires.change (sym (ap (find (is_wide_node (changed_nodes (nodes_in c.args.kept.now) c.args.change.node to))) roots) ∙ sym c.in_ok-find_wide_among.ensures ∙ none_found c.in_ok-find_wide_among.field-0 (c.is_none.ensures ∙ ap not c.if-is_none.true)))

pub find_wide_among-requires-2-clause-nodes : goal.find_wide_among-requires-2-clause-nodes
find_wide_among-requires-2-clause-nodes c = kept_sources_below c.args.kept.now c.args.change.node c.deref-3.result.now c.requires.kept (c.deref-3.ensures.value ∙ c.in_ok-sources.ensures)

pub returns : goal.returns
returns c =
    let to = option_copied c.args.change.next in
    IfOk-weaker c.find_wide_among-2.result _ _ (λ v e. e ∙ ap (find (is_wide_node (changed_nodes (nodes_in c.args.kept.now) c.args.change.node to))) (c.deref-3.ensures.value ∙ c.in_ok-sources.ensures) ∙ wide_is_source (nodes_in c.args.kept.now) c.args.change.node to c.requires.kept.lawful c.requires.change) c.find_wide_among-2.ensures
