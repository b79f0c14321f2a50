use Rattle.cpe_uri.specs.Requoting.{untrimmed_from}
use Rattle.cpe_uri.proofs.Puts.{put_more}
use Rattle.cpe_uri.proofs.bound.put_components.Goals as goal

pub returns-clause-written : goal.returns-clause-written
unfolding untrimmed_from
returns-clause-written c =
    let vendor = put_more _ _ _ _ _ c.put_first-at.ensures.written c.put_behind-at.ensures.written in
    let product = put_more _ _ _ _ _ vendor c.put_behind-at-2.ensures.written in
    let version = put_more _ _ _ _ _ product c.put_behind-at-3.ensures.written in
    let update = put_more _ _ _ _ _ version c.put_behind-at-4.ensures.written in
    let edition = put_more _ _ _ _ _ update c.put_edition-at.ensures.written in
    put_more _ _ _ _ _ edition c.put_behind.ensures.written
