use Rattle.std.proofs.Common.{◌≡◌, ◌≤◌, ◌+◌, ◌*◌, ◌++◌, length, take, false}
use Rattle.cpe_uri.specs.Requoting.{requoted}
use Rattle.cpe_uri.proofs.bound.put_long.Given as goal

abbrev pub invariant-loop-rest : goal.invariant-loop-rest
invariant-loop-rest l = record {
  at : l.at + 3 * length l.rest ≤ l.start + 3 * length l.bytes;
  room : length l.room ≡ length l.fn.room;
  written : take l.at l.room ++ requoted l.quoted l.rest ≡ take l.start l.fn.room ++ requoted false l.bytes;
}

abbrev pub decreases-loop-rest : goal.decreases-loop-rest
decreases-loop-rest l = length l.rest
