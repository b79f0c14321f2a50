use Rattle.std.proofs.Common.{◌≡◌, ◌∙◌, [], length, subst, arith}
use Rattle.std.proofs.lemmas.List.{nil_from_length}
use Rattle.deprecation_graph.proofs.SearchLemmas.{Explores, explore_end, found_few, turn_below, turn_explores, turn_smaller}
use Rattle.deprecation_graph.specs.Indexed.{list_of_node}
use Rattle.deprecation_graph.specs.Kept.{lists_after}
use Rattle.deprecation_graph.proofs.search.find_reached.Goals as goal

pub read_after-requires : goal.read_after-requires
read_after-requires c = turn_below (list_of_node (lists_after c.args.lists.now.lists c.args.change)) (length c.args.lists.now.lists) c.args.start c.in-Some.node c.pop.new.self.items c.requires.closed c.requires.start c.in-Some.ensures.items c.loop-node.invariant.search

pub loop-node-smaller : goal.loop-node-smaller
loop-node-smaller c =
    let next = list_of_node (lists_after c.args.lists.now.lists c.args.change) in
    let v = c.in_ok-visit_all.ensures in
    let h = turn_explores next c.args.start c.in-Some.node c.in-Some.ensures.items (c.deref.ensures.value ∙ c.in_ok-read_after.ensures) c.loop-node.invariant.search v.visits in
    turn_smaller (length c.args.lists.now.lists) c.in-Some.node (found_few next (length c.args.lists.now.lists) c.args.start _ _ c.requires.closed c.requires.start v.ordered h) c.in-Some.ensures.items v.visits

pub loop-node-preserved : goal.loop-node-preserved
loop-node-preserved c =
    let v = c.in_ok-visit_all.ensures in
    record {
      ordered = v.ordered;
      search = turn_explores (list_of_node (lists_after c.args.lists.now.lists c.args.change)) c.args.start c.in-Some.node c.in-Some.ensures.items (c.deref.ensures.value ∙ c.in_ok-read_after.ensures) c.loop-node.invariant.search v.visits;
    }

pub returns : goal.returns
returns c =
    let none : c.loop-node.todo.items ≡ [] = nil_from_length c.loop-node.todo.items (let e = c.in_default.ensures.cases.0 in omega arith) in
    let next = list_of_node (lists_after c.args.lists.now.lists c.args.change) in
    explore_end next c.args.start c.loop-node.invariant.ordered (subst (Explores next c.args.start c.loop-node.found) none c.loop-node.invariant.search)
