use Rattle.cpe_uri.specs.Requoting.{packed_from}
use Rattle.cpe_uri.proofs.Puts.{put_more}
use Rattle.cpe_uri.proofs.bound.put_packed.Goals as goal

pub returns-clause-written : goal.returns-clause-written
unfolding packed_from
returns-clause-written c =
    let two = put_more _ _ _ _ _ c.put_behind-at.ensures.written c.put_behind-at-2.ensures.written in
    let three = put_more _ _ _ _ _ two c.put_behind-at-3.ensures.written in
    let four = put_more _ _ _ _ _ three c.put_behind-at-4.ensures.written in
    put_more _ _ _ _ _ four c.put_behind.ensures.written
