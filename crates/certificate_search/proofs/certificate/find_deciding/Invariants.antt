use Rattle.std.proofs.Common.{◌≡◌}
use Rattle.cpe_rows.specs.Evaluation.{test_truth}
use Rattle.cpe_rows.specs.Truth.{same_truth}
use Rattle.cpe_rows.specs.Verdict.{check_truth, fact_truth}
use Rattle.certificate_check.specs.Good.{deciding}
use Rattle.certificate_search.proofs.Counted.{IsSought}
use Rattle.certificate_search.proofs.certificate.find_deciding.Given as goal

abbrev pub invariant-loop-child : goal.invariant-loop-child
invariant-loop-child g l = record {
  place : l.place ≡ l.child-index;
  sought :
      IsSought (λ t. same_truth (deciding l.operator) (test_truth (fact_truth (g.R.PlainRows.rows l.asked.rows.now) l.asked.mode) (check_truth
      (g.R.PlainRows.rows l.asked.rows.now)) t)) l.of l.child-index;
}
