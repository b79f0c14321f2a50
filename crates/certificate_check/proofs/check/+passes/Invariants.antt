use Rattle.std.proofs.Common.{◌≡◌, map, drop}
use Rattle.certificate_check.specs.Tested.{all_pass, test_passes}
use Rattle.certificate_check.proofs.check.+passes.Given as goal

abbrev pub invariant-loop-child : goal.invariant-loop-child
invariant-loop-child g l = record {
  place : l.k ≡ l.child-index;
  left :
      all_pass (map (test_passes (g.R.PlainRows.rows l.rows) l.mode) (drop l.child-index l.child-items)) (drop l.k l.given)
      ≡ all_pass (map (test_passes (g.R.PlainRows.rows l.rows) l.mode) l.child-items) l.given;
}
