use Rattle.std.proofs.Common.{refl}
use Rattle.deprecation_graph.proofs.StepLemmas.{looks_on, enters_here, refuses_here}
use Rattle.deprecation_graph.proofs.filling.step.Goals as goal

pub returns-in-Done-clause-ok : goal.returns-in-Done-clause-ok
returns-in-Done-clause-ok c =
    let m = looks_on c.requires.fit c.requires.filling c.args.node c.requires.last c.index-lists-node.result c.index-lists-node.is
    c.successors-next.result.now c.successors-next.ensures c.index-seen.result.now c.in-Some.successor.now c.index-seen.ensures
    c.in-Some.ensures.lookup.3.0 c.in-Some.ensures.lookup.1 c.index.result.now c.index.ensures c.in-Done.is refl in
    record { filling = m.way; less = m.less; newer = m.newer }

pub returns-in_ok-enter-in-New-clause-ok : goal.returns-in_ok-enter-in-New-clause-ok
returns-in_ok-enter-in-New-clause-ok c =
    let m = enters_here c.requires.fit c.requires.filling c.args.node c.requires.last c.index-lists-node.result c.index-lists-node.is
    c.successors-next.result.now c.successors-next.ensures c.index-seen.result.now c.in-Some.successor.now c.index-seen.ensures
    c.in-Some.ensures.lookup.3.0 c.in-Some.ensures.lookup.1 c.index.result.now c.index.ensures c.in-New.is c.in_ok-enter-in-New.ensures.marks
    c.in_ok-enter-in-New.ensures.waiting in
    record { filling = m.way; less = m.less; newer = m.newer }

pub returns-in-Waiting-clause-unlawful : goal.returns-in-Waiting-clause-unlawful
returns-in-Waiting-clause-unlawful c = λ _ ok. refuses_here c.requires.fit c.requires.filling c.args.node c.requires.last c.index-lists-node.result
    c.index-lists-node.is c.successors-next.result.now c.successors-next.ensures c.index-seen.result.now c.in-Some.successor.now c.index-seen.ensures
    c.in-Some.ensures.lookup.3.0 c.in-Some.ensures.lookup.1 c.index.result.now c.index.ensures c.in-Waiting.is ok
