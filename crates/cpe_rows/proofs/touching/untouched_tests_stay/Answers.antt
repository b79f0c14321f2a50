use Rattle.cpe_rows.proofs.UntouchedTests.{stays}
use Rattle.cpe_rows.proofs.touching.untouched_tests_stay.Goals as goal

pub returns : goal.returns
returns c fact fact1 check check1 p q t facts checks = stays fact fact1 check check1 p q facts checks t
