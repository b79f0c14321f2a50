use Rattle.std.proofs.Common.{arith}
use Rattle.std.proofs.lemmas.Result.{err_from_is_err_and}
use Rattle.deprecation_graph.proofs.ListLemmas.{has_room}
use Rattle.deprecation_graph.proofs.FillingLemmas.{last_is_node}
use Rattle.deprecation_graph.proofs.StepLemmas.{list_here, settles_here, allowed_here}
use Rattle.deprecation_graph.proofs.filling.settle.Goals as goal

pub change-requires-clause-room : goal.change-requires-clause-room
change-requires-clause-room c =
    has_room c.args.lists.now c.requires.fit c.args.node c.index-lists-node.result c.requires.filling.between
    (list_here c.requires.fit c.requires.filling c.args.node c.requires.last c.index-lists-node.result c.index-lists-node.is)

pub returns-in_err-change-clause-unlawful : goal.returns-in_err-change-clause-unlawful
returns-in_err-change-clause-unlawful c =
    let p = err_from_is_err_and c.from_residual.result c.from_residual.ensures.1 in
    rw (p.1, p.2) (λ unlawful ok. c.in_err-change.ensures.unlawful unlawful
    (allowed_here c.requires.fit c.requires.filling c.args.node c.requires.last c.index-lists-node.result c.index-lists-node.is c.requires.seen
    ok))

pub leave-requires-clause-node : goal.leave-requires-clause-node
leave-requires-clause-node c = omega (arith, last_is_node c.requires.filling c.args.node c.requires.last, c.requires.filling.marked)

pub returns-clause-ok : goal.returns-clause-ok
returns-clause-ok c =
    let m = settles_here c.requires.fit c.requires.filling c.args.node c.requires.last c.index-lists-node.result c.index-lists-node.is
    c.requires.seen c.in_ok-change.ensures.nodes c.leave.ensures.marks c.leave.ensures.waiting in
    record { filling = m.way; less = m.less; newer = m.newer }
