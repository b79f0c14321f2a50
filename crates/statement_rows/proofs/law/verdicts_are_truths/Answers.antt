use Rattle.check_results.specs.Kept.{kept_truth}
use Rattle.statement_rows.specs.Readings.{truths_of}
use Rattle.statement_rows.proofs.NameTruths.{reading_named}
use Rattle.statement_rows.proofs.law.verdicts_are_truths.Goals as goal

pub returns : goal.returns
returns c truth checks s ids fact h = reading_named fact (kept_truth checks) s.test (truths_of truth s.mode ids) h
