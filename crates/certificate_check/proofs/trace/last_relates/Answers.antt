use Rattle.std.proofs.Common.{◌∙◌}
use Rattle.certificate_check.specs.Relates.{related}
use Rattle.certificate_check.specs.Tested.{last_relates}
use Rattle.certificate_check.proofs.Loops.{last_is}
use Rattle.certificate_check.proofs.trace.last_relates.Goals as goal

pub returns : goal.returns
returns c =
    let fact = c.in-Some.ensures.value ∙ last_is c.args.fact.now in
    let one = c.in-Some-last.ensures.value ∙ last_is c.args.item.now in
    c.holds.ensures ∙ λ i. last_relates (related c.args.relates) (fact i) (one i)
