use Rattle.advise_ranges.proofs.ReadLemmas.{valid_by}
use Rattle.advise_ranges.proofs.read.read_advice.Goals as goal

pub returns-clause-valid : goal.returns-clause-valid
returns-clause-valid c = valid_by c.args.line.now c.advice_in.result c.advice_in.ensures
