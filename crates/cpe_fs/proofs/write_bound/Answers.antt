use Rattle.std.proofs.Common.{refl, arith}
use Rattle.cpe_fs.specs.Grammar.{fs_text}
use Rattle.cpe_fs.specs.Bound.{bound}
use Rattle.cpe_fs.proofs.Bounds.{written_is}
use Rattle.cpe_fs.proofs.Writing.{nothing_bound, written_bound}
use Rattle.cpe_fs.proofs.write_bound.Goals as goal

pub returns-in_default : goal.returns-in_default
unfolding bound
returns-in_default c = nothing_bound fs_text bound c.args.text.now c.args.at _ c.args.room.now refl (c.in_default.ensures.refused refl)

pub returns : goal.returns
unfolding bound
returns c =
    let are = c.in-Some.ensures.found in
    written_bound fs_text bound c.args.text.now c.args.at _ c.args.room.now refl c.put_string.new.room _ c.put_string.result c.in-Some.written are c.put_string.ensures.written (written_is c.args.text.now c.in-Some.written are)
    (omega (arith, c.put_string.ensures.at, are.within)) c.put_string.ensures.room
