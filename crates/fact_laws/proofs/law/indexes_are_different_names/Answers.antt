use Rattle.fact_laws.proofs.Different.{held_different, near_different, held_few}
use Rattle.fact_laws.proofs.law.indexes_are_different_names.Goals as goal

pub returns-clause-names : goal.returns-clause-names
returns-clause-names c = held_different

pub returns-clause-near : goal.returns-clause-near
returns-clause-near c names times list held side asked are on s = near_different names times list held are on s side asked

pub returns-clause-few : goal.returns-clause-few
returns-clause-few c = held_few
