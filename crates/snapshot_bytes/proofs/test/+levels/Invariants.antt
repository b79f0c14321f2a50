use Rattle.std.proofs.Common.{◌≡◌, ◌-◌, ◌+◌, ◌*◌}
use Rattle.snapshot_bytes.specs.Reading.{many, test_at}
use Rattle.snapshot_bytes.proofs.Loop.{with_prefix}
use Rattle.snapshot_bytes.proofs.test.+levels.Given as goal

abbrev pub decreases-children : goal.decreases-children
decreases-children l = 4 * l.levels + 2

abbrev pub decreases-logic : goal.decreases-logic
decreases-logic l = 4 * l.levels

abbrev pub decreases-test : goal.decreases-test
decreases-test l = 4 * l.levels + 1

abbrev pub invariant-children-loop : goal.invariant-children-loop
invariant-children-loop l = with_prefix l.of (many (test_at l.levels) (l.count - l.counter) l.cursor) ≡ many (test_at l.levels) l.count l.fn.cursor

abbrev pub decreases-read_joined : goal.decreases-read_joined
decreases-read_joined l = 4 * l.levels + 3
