use Rattle.fact_laws.proofs.Tables.{held_list, released_list}
use Rattle.fact_laws.proofs.law.tables_are_lists.Goals as goal

pub returns-clause-held : goal.returns-clause-held
returns-clause-held c old new id name list h = held_list old new id name h list

pub returns-clause-released : goal.returns-clause-released
returns-clause-released c old new id name list are has r s = released_list old new id r name list are has s
