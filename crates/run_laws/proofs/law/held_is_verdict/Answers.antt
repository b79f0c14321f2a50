use Rattle.run_laws.proofs.Explained.{held_is_verdict, lines_are_checked_in_turn}
use Rattle.run_laws.proofs.law.held_is_verdict.Goals as goal

pub returns-clause-in_turn : goal.returns-clause-in_turn
returns-clause-in_turn c = lines_are_checked_in_turn

pub returns-clause-verdict : goal.returns-clause-verdict
returns-clause-verdict c = held_is_verdict c.good_certificates_are_right.ensures
