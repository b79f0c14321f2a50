use Rattle.std.proofs.Common.{◌∙◌, ℕ, List, ap, slice_set}
use Rattle.std.proofs.lemmas.Bool.{both_ways, OnTrue_at}
use Rattle.deprecation_graph.specs.Indexed.{Indexed, list_of_node, without_number}
use Rattle.deprecation_graph.proofs.HeadLemmas.{lists_at-removed, heads-updated, read_head, there_read}
use Rattle.deprecation_graph.proofs.lists.Lists.remove.Goals as goal

pub unreachable-requires : goal.unreachable-requires
unreachable-requires c =
    let e = ap (λ (l : Indexed). l.lists) c.self.view_is in
    let is = read_head c.self.inside.pool.lists c.self.inside.heads.items c.args.self.now.lists c.args.list _ e c.requires.list c.index-head.ensures in
    both_ways c.remove_value.result c.if-not-remove_value.true (c.remove_value.ensures.found ∙ there_read c.self.inside.pool.lists c.self.inside.heads.items c.args.self.now.lists c.args.list c.args.value _ e is c.requires.there)

pub invariant_of-self : goal.invariant_of-self
invariant_of-self c =
    let is = read_head c.self.inside.pool.lists c.self.inside.heads.items c.args.self.now.lists c.args.list _ (ap (λ (l : Indexed). l.lists) c.self.view_is) c.requires.list c.index-head.ensures in
    heads-updated c.self.inside.pool.lists c.remove_value.new.self.lists c.self.inside.heads.items c.args.list c.index-head.result.now _ c.self.invariant is (OnTrue_at c.if-not-remove_value.false c.remove_value.ensures.removed)

pub returns-clause-lists : goal.returns-clause-lists
returns-clause-lists c =
    let e = ap (λ (l : Indexed). l.lists) c.self.view_is in
    let is = read_head c.self.inside.pool.lists c.self.inside.heads.items c.args.self.now.lists c.args.list _ e c.requires.list c.index-head.ensures in
    lists_at-removed c.self.inside.pool.lists c.remove_value.new.self.lists c.self.inside.heads.items c.args.list c.args.value c.index-head.result.now c.self.invariant is (OnTrue_at c.if-not-remove_value.false c.remove_value.ensures.removed)
    ∙ ap (λ (ls : List (List ℕ)). slice_set ls c.args.list (without_number c.args.value (list_of_node ls c.args.list))) e
