use Rattle.fact_laws.proofs.Counted.{counted, fewer_fresh, fewer_in, fewer_of}
use Rattle.fact_laws.proofs.law.facts_occur_once.Goals as goal

pub returns : goal.returns
returns c = record { times = counted; less = fewer_of; less_fresh = fewer_fresh; less_in = fewer_in }
