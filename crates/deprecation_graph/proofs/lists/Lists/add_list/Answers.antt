use Rattle.std.proofs.Common.{◌∙◌, ◌++◌, ◌∷◌, [], ap, sym, subst}
use Rattle.deprecation_graph.specs.Indexed.{Indexed}
use Rattle.deprecation_graph.specs.Heads.{AreHeads, lists_at}
use Rattle.deprecation_graph.proofs.HeadLemmas.{lists_at-added, heads-added}
use Rattle.deprecation_graph.proofs.lists.Lists.add_list.Goals as goal

pub invariant_of-self : goal.invariant_of-self
invariant_of-self c = subst (AreHeads c.make_list.new.self.lists) (sym c.push_reserved.ensures.items) (heads-added c.self.inside.pool.lists c.make_list.new.self.lists c.self.inside.heads.items c.in-Some.head c.self.invariant c.in-Some.ensures.fresh c.in-Some.ensures.made)

pub returns-clause-lists : goal.returns-clause-lists
returns-clause-lists c =
    ap (lists_at c.make_list.new.self.lists) c.push_reserved.ensures.items
    ∙ lists_at-added c.self.inside.pool.lists c.make_list.new.self.lists c.self.inside.heads.items c.in-Some.head c.self.invariant c.in-Some.ensures.fresh c.in-Some.ensures.made
    ∙ ap (λ (l : Indexed). l.lists ++ [] ∷ []) c.self.view_is
