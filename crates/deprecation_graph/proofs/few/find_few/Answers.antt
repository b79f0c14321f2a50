use Rattle.std.proofs.Common.{◌<◌, ◌∙◌, ◌∷◌, ◌++◌, [], ℕ, List, length, sym, ap, subst, arith}
use Rattle.deprecation_graph.specs.Indexed.{list_of_node}
use Rattle.deprecation_graph.specs.Kept.{lists_after}
use Rattle.deprecation_graph.proofs.FewLemmas.{Reads, reads_begin, reads_step, reads_below, reads_end}
use Rattle.deprecation_graph.proofs.few.find_few.Goals as goal

pub loop-place-init : goal.loop-place-init
loop-place-init c =
    let next = list_of_node (lists_after c.args.lists.now.lists c.args.change) in
    subst (λ (xs : List ℕ). Reads next c.args.start xs 0) (sym (c.in_ok-push.ensures.items ∙ ap (λ (xs : List ℕ). xs ++ c.args.start ∷ []) c.new-found.ensures.items)) (reads_begin next c.args.start)

pub read_after-requires : goal.read_after-requires
read_after-requires c =
    let n = length c.args.lists.now.lists in
    subst (λ (x : ℕ). x < n) (sym c.index.ensures) (reads_below (list_of_node (lists_after c.args.lists.now.lists c.args.change)) n c.args.start c.loop-place.place c.index.result.now c.requires.closed c.requires.start (omega (arith, c.len.ensures, c.loop-place-test.true)) c.loop-place.invariant)

pub loop-place-preserved : goal.loop-place-preserved
loop-place-preserved c =
    let next = list_of_node (lists_after c.args.lists.now.lists c.args.change) in
    reads_step next c.args.start c.loop-place.place c.index.result.now (omega (arith, c.len.ensures, c.loop-place-test.true)) (c.deref.ensures.value ∙ c.in_ok-read_after.ensures ∙ ap next c.index.ensures) c.loop-place.invariant c.in_ok-add_all.ensures

pub returns : goal.returns
returns c = reads_end (list_of_node (lists_after c.args.lists.now.lists c.args.change)) c.args.start c.loop-place.place c.loop-place.found.items c.sort_unstable.new.self.items (omega (arith, c.len.ensures, c.loop-place-test.false)) c.loop-place.invariant c.sort_unstable.ensures.permutation c.sort_unstable.ensures.sorted
