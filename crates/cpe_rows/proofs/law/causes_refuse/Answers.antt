use Rattle.cpe_rows.proofs.Raised.{no_item_heavy, no_statement_heavy, no_check_heavy}
use Rattle.cpe_rows.proofs.Refused.{cause_refused, heavy_refused, light_accepted}
use Rattle.cpe_rows.proofs.law.causes_refuse.Goals as goal

pub returns-clause-refused : goal.returns-clause-refused
returns-clause-refused c rows e f within = cause_refused rows e within f

pub returns-clause-too_heavy : goal.returns-clause-too_heavy
returns-clause-too_heavy c rows e f within = heavy_refused rows e within f

pub returns-clause-accepted : goal.returns-clause-accepted
returns-clause-accepted c = light_accepted

pub returns-clause-item_dropped : goal.returns-clause-item_dropped
returns-clause-item_dropped c rows n within = no_item_heavy rows within n

pub returns-clause-statement_dropped : goal.returns-clause-statement_dropped
returns-clause-statement_dropped c rows id within = no_statement_heavy rows within id

pub returns-clause-check_dropped : goal.returns-clause-check_dropped
returns-clause-check_dropped c rows k within = no_check_heavy rows within k
