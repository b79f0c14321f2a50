use Rattle.std.proofs.Common.{◌≡◌, ◌-◌, take, map, nat_le}
use Rattle.cpe_rows.specs.Shape.{largest}
use Rattle.certificate_records.proofs.Levels.{levels_at}
use Rattle.certificate_records.proofs.why.+is_within.Given as goal

abbrev pub decreases-is_within : goal.decreases-is_within
decreases-is_within l = l.limit

abbrev pub invariant-loop-given : goal.invariant-loop-given
invariant-loop-given l = l.within ≡ nat_le (largest (map levels_at (take l.given-index l.given-items))) (l.limit - 1)
