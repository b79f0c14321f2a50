use Rattle.fact_laws.proofs.Different.{fewer_different, less_different, once_different, one_once}
use Rattle.fact_laws.proofs.law.different_names_occur_once.Goals as goal

pub returns : goal.returns
returns c = record { once = one_once; few = fewer_different; numbers = once_different; less = less_different }
