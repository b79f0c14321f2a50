use Rattle.std.proofs.Common.{◌≡◌, ◌≤◌, ◌+◌, ◌*◌, ◌++◌, length, take, drop}
use Rattle.cpe_uri.specs.Requoting.{requoted}
use Rattle.cpe_uri.proofs.bound.put_each.Given as goal

abbrev pub invariant-loop-byte : goal.invariant-loop-byte
invariant-loop-byte l = record {
  at : l.at ≤ l.start + 3 * l.byte-index;
  room : length l.room ≡ length l.fn.room;
  written : take l.at l.room ++ requoted l.quoted (drop l.byte-index l.bytes) ≡ take l.start l.fn.room ++ requoted l.first_quoted l.bytes;
}
