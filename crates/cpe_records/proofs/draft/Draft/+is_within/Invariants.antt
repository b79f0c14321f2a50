use Rattle.std.proofs.Common.{◌≡◌, ◌-◌, take, map, nat_le}
use Rattle.cpe_rows.specs.Shape.{largest}
use Rattle.cpe_records.specs.Tests.{draft_depth}
use Rattle.cpe_records.proofs.draft.Draft.+is_within.Given as goal

abbrev pub invariant-loop-child : goal.invariant-loop-child
invariant-loop-child l = l.within ≡ nat_le (largest (map draft_depth (take l.child-index l.child-items))) (l.limit - 1)
