use Rattle.std.proofs.Common.{◌∙◌, sym, refl}
use Rattle.cpe_uri.proofs.Components.{went_at}
use Rattle.cpe_uri.proofs.text.scan_from.Goals as goal

pub loop-rest-preserved : goal.loop-rest-preserved
loop-rest-preserved c = c.skip_from-rest.ensures.same c.args.packed ∙ went_at c.args.packed c.loop-rest.state c.in-Some.next c.loop-rest.rest.now c.in-len1-up.len_at_least (sym c.in-Some.ensures) ∙ c.loop-rest.invariant

pub loop-rest-init : goal.loop-rest-init
loop-rest-init c = refl
