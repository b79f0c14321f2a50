use Rattle.cpe_rows.proofs.CheckChanges.{turned, kept, dropped, fact_boards, dropped_facts}
use Rattle.cpe_rows.proofs.touching.checks_touch.Goals as goal

pub returns-clause-kept : goal.returns-clause-kept
returns-clause-kept c rows k key t h = kept k key h rows t

pub returns-clause-dropped : goal.returns-clause-dropped
returns-clause-dropped c rows k key h = dropped k key h rows

pub returns-clause-turned : goal.returns-clause-turned
returns-clause-turned c = turned

pub returns-clause-fact_boards : goal.returns-clause-fact_boards
returns-clause-fact_boards c = fact_boards

pub returns-clause-dropped_facts : goal.returns-clause-dropped_facts
returns-clause-dropped_facts c = dropped_facts
