use Rattle.std.proofs.Common.{length, ◌+◌, ◌-◌, arith}
use Rattle.std.proofs.lemmas.Slice.{drop-put_mid}
use Rattle.byte_room.proofs.put.Goals as goal

-- the bytes after the written ones are unchanged
pub returns-clause-behind : goal.returns-clause-behind
returns-clause-behind c =
    drop-put_mid c.args.at (c.args.at + length c.args.bytes.now - c.args.at) c.args.room.now c.copy_from_slice.new.self (c.args.at + length c.args.bytes.now) (omega arith) (omega arith) (omega arith)
