use Rattle.std.proofs.Common.{◌∙◌, ◌++◌, ◌∷◌, [], ℕ, List, ap, slice_set}
use Rattle.deprecation_graph.specs.Indexed.{Indexed, list_of_node}
use Rattle.deprecation_graph.proofs.HeadLemmas.{lists_at-pushed, heads-pushed, read_head}
use Rattle.deprecation_graph.proofs.lists.Lists.push.Goals as goal

pub invariant_of-self : goal.invariant_of-self
invariant_of-self c = heads-pushed c.self.inside.pool.lists c.push.new.self.lists c.self.inside.heads.items c.args.list c.args.value c.index-head.result.now c.self.invariant (read_head c.self.inside.pool.lists c.self.inside.heads.items c.args.self.now.lists c.args.list _ (ap (λ (l : Indexed). l.lists) c.self.view_is) c.requires.list c.index-head.ensures) c.push.ensures.pushed

pub returns-clause-lists : goal.returns-clause-lists
returns-clause-lists c =
    let is = ap (λ (l : Indexed). l.lists) c.self.view_is in
    lists_at-pushed c.self.inside.pool.lists c.push.new.self.lists c.self.inside.heads.items c.args.list c.args.value c.index-head.result.now c.self.invariant (read_head c.self.inside.pool.lists c.self.inside.heads.items c.args.self.now.lists c.args.list _ is c.requires.list c.index-head.ensures) c.push.ensures.pushed
    ∙ ap (λ (ls : List (List ℕ)). slice_set ls c.args.list (list_of_node ls c.args.list ++ c.args.value ∷ [])) is
