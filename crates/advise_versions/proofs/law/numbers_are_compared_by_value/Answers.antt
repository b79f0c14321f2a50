use Rattle.advise_versions.proofs.NumberLemmas.{numbers_by_value}
use Rattle.advise_versions.proofs.law.numbers_are_compared_by_value.Goals as goal

pub returns : goal.returns
returns c = numbers_by_value
