use Rattle.std.proofs.Common.{◌≡◌, ◌≤◌, ◌+◌, ◌*◌, ◌++◌, length, take}
use Rattle.cpe_uri.specs.Rewriting.{rewritten}
use Rattle.cpe_uri.proofs.write.put_run.Given as goal

abbrev pub invariant-loop-rest : goal.invariant-loop-rest
invariant-loop-rest l = record {
  at : l.at + 2 * length l.rest ≤ l.start + 2 * length l.bytes;
  shorter : length l.rest ≤ length l.bytes;
  room : length l.room ≡ length l.fn.room;
  written : take l.at l.room ++ rewritten l.rest ≡ take l.start l.fn.room ++ rewritten l.bytes;
}

abbrev pub decreases-loop-rest : goal.decreases-loop-rest
decreases-loop-rest l = length l.rest
