use Rattle.cpe_rows.proofs.Refused.{refused_step, accepted_step}
use Rattle.cpe_rows.proofs.law.faults_refuse.Goals as goal

pub returns-clause-refused : goal.returns-clause-refused
returns-clause-refused c = refused_step

pub returns-clause-accepted : goal.returns-clause-accepted
returns-clause-accepted c = accepted_step
