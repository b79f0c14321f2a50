use Rattle.std.proofs.Common.{◌∙◌}
use Rattle.statement_rows.specs.Readings.{check_keys}
use Rattle.statement_rows.proofs.AskerLemmas.{none_of_all, one_of_all}
use Rattle.statement_rows.proofs.by_result.asks_one.Goals as goal

pub returns-in-Some : goal.returns-in-Some
returns-in-Some c = c.asks_only.ensures ∙ one_of_all (check_keys c.args.test.now) c.in-Some.key.now c.in-Some.ensures

pub returns-in-None : goal.returns-in-None
returns-in-None c = none_of_all (check_keys c.args.test.now) c.in-None.ensures
