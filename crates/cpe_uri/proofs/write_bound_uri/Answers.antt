use Rattle.std.proofs.Common.{refl, arith}
use Rattle.cpe_fs.proofs.Writing.{nothing_bound, written_bound}
use Rattle.cpe_uri.specs.Canon.{canon}
use Rattle.cpe_uri.specs.Bound.{bound_uri}
use Rattle.cpe_uri.proofs.Requoted.{written_is}
use Rattle.cpe_uri.proofs.write_bound_uri.Goals as goal

pub returns-in_default : goal.returns-in_default
unfolding bound_uri
returns-in_default c = nothing_bound canon bound_uri c.args.text.now c.args.at _ c.args.room.now refl (c.in_default.ensures.refused refl)

pub returns : goal.returns
unfolding bound_uri
returns c =
    let are = c.in-Some.ensures.found in
    written_bound canon bound_uri c.args.text.now c.args.at _ c.args.room.now refl c.put_uri.new.room _ c.put_uri.result c.in-Some.written are c.put_uri.ensures.written (written_is c.args.text.now c.in-Some.written are)
    (omega (arith, c.put_uri.ensures.at, are.within)) c.put_uri.ensures.room
