use Rattle.std.proofs.Common.{◌≡◌, ◌≤◌, ◌+◌, ◌++◌, length, take}
use Rattle.cpe_fs.specs.Unquoting.{unquoted}
use Rattle.cpe_fs.proofs.bound.put_unquoted.Given as goal

abbrev pub invariant-loop-rest : goal.invariant-loop-rest
invariant-loop-rest l = record {
  at : l.at + length l.rest ≤ l.start + length l.bytes;
  room : length l.room ≡ length l.fn.room;
  written : take l.at l.room ++ unquoted l.rest ≡ take l.start l.fn.room ++ unquoted l.bytes;
}

abbrev pub decreases-loop-rest : goal.decreases-loop-rest
decreases-loop-rest l = length l.rest
