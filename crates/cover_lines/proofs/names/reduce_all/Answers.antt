use Rattle.std.proofs.Common.{arith}
use Rattle.cover_lines.proofs.MarkLemmas.{fewer_looks}
use Rattle.cover_lines.proofs.names.reduce_all.Goals as goal

pub returns-clause-steps : goal.returns-clause-steps
returns-clause-steps g c = let names = c.args.names.now in (c.find_matched.ensures.steps.0, omega (arith, c.find_matched.ensures.steps.1, fewer_looks names names))

pub returns-in_err-marks-clause-steps : goal.returns-in_err-marks-clause-steps
returns-in_err-marks-clause-steps g c = let names = c.args.names.now in (c.find_matched.ensures.steps.0, omega (arith, c.find_matched.ensures.steps.1, fewer_looks names names))
