use Rattle.cpe_rows.proofs.Added.{no_chain}
use Rattle.fact_laws.proofs.Counted.{counted_once}
use Rattle.fact_laws.proofs.Sources.{apart_once, ends_lead, led_by_copies, led_by_those_there}
use Rattle.fact_laws.proofs.law.led_are_sources.Goals as goal

pub returns-clause-led : goal.returns-clause-led
returns-clause-led c entries n list d = led_by_copies no_chain entries n list d

pub returns-clause-ends : goal.returns-clause-ends
returns-clause-ends c = ends_lead

pub returns-clause-once : goal.returns-clause-once
returns-clause-once c entries n list d few = led_by_those_there no_chain entries n list d few

pub returns-clause-items_once : goal.returns-clause-items_once
returns-clause-items_once c rows x lawful = apart_once x rows.items lawful.items_differ

pub returns-clause-facts_once : goal.returns-clause-facts_once
returns-clause-facts_once c = counted_once
