use Rattle.std.proofs.Common.{All, ap, subst, sym, ◌∙◌, take_all}
use Rattle.std.specs.List.{flat_map}
use Rattle.cpe_name.specs.Names.{IsName}
use Rattle.cpe_rows.specs.FactNames.{fact_names}
use Rattle.cpe_rows.proofs.Lists.{all_with_next}
use Rattle.cpe_rows.proofs.TestNames.{names-logic}
use Rattle.cpe_rows.proofs.formed.+are_facts.Goals as goal

pub loop-child-preserved : goal.loop-child-preserved
loop-child-preserved t c =
    all_with_next IsName fact_names c.as_slice-child-items.result.now c.loop-child.child-index c.child-item.result c.loop-child-test.true c.loop-child.invariant
    (subst (λ x. All IsName (fact_names x)) c.child-item.is c.are_facts.ensures)

pub returns-after-loop-child : goal.returns-after-loop-child
returns-after-loop-child t c =
    let of = c.as_slice-child-items.result.now in
    let all = subst (λ xs. All IsName (flat_map fact_names xs)) (take_all c.loop-child.child-index of c.loop-child-test.false) c.loop-child.invariant in
    let names = ap fact_names c.in-Logic.is ∙ (names-logic c.in-Logic.operator c.in-Logic.negate c.in-Logic.of ∙ ap (flat_map fact_names) (sym c.as_slice-child-items.ensures)) in
    subst (λ ns. All IsName ns) (sym names) all
