use Rattle.fact_laws.proofs.Few.{lead_few, there_few, asked_few, kept_few}
use Rattle.fact_laws.proofs.law.lawful_rows_ask_few.Goals as goal

pub returns-clause-leads : goal.returns-clause-leads
returns-clause-leads c rows mode n h = lead_few rows h mode n

pub returns-clause-asked : goal.returns-clause-asked
returns-clause-asked c rows mode h = asked_few rows h mode

pub returns-clause-there : goal.returns-clause-there
returns-clause-there c rows mode h = there_few rows h mode

pub returns-clause-kept : goal.returns-clause-kept
returns-clause-kept c = kept_few
