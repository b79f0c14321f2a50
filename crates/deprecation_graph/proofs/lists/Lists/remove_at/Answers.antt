use Rattle.std.proofs.Common.{ap, refl}
use Rattle.deprecation_graph.specs.Indexed.{Indexed}
use Rattle.deprecation_graph.proofs.HeadLemmas.{read_head}
use Rattle.deprecation_graph.proofs.MateLemmas.{heads-taken, loses_cell}
use Rattle.deprecation_graph.proofs.MirrorLemmas.{loses_first}
use Rattle.deprecation_graph.proofs.lists.Lists.remove_at.Goals as goal

pub invariant_of-self : goal.invariant_of-self
invariant_of-self c =
    let is = read_head c.self.inside.pool.lists c.self.inside.heads.items c.args.self.now.lists c.args.list _ (ap (λ (l : Indexed). l.lists) c.self.view_is) c.requires.list c.index-head.ensures in
    heads-taken c.self.inside.pool.lists c.remove_cell.new.self.lists c.self.inside.heads.items c.args.list c.args.value c.args.cell.0 c.index-head.result.now c.self.invariant is (c.holds.ensures.0 c.if-holds.true) c.remove_cell.ensures.removed

pub returns-then-value-clause-lists : goal.returns-then-value-clause-lists
returns-then-value-clause-lists c =
    let e = ap (λ (l : Indexed). l.lists) c.self.view_is in
    let is = read_head c.self.inside.pool.lists c.self.inside.heads.items c.args.self.now.lists c.args.list _ e c.requires.list c.index-head.ensures in
    loses_cell c.self.inside.pool.lists c.remove_cell.new.self.lists c.self.inside.heads.items c.args.list c.args.value c.args.cell.0 c.index-head.result.now c.self.invariant is (c.holds.ensures.0 c.if-holds.true) c.remove_cell.ensures.removed c.args.self.now.lists _ e refl c.requires.list c.value.result c.value.ensures c.if-value.true

pub returns-clause-lists : goal.returns-clause-lists
returns-clause-lists c = loses_first c.args.self.now.lists c.remove.new.self.lists c.args.list c.args.value c.remove.ensures.lists c.requires.list c.requires.there
