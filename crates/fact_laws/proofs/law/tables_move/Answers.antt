use Rattle.fact_laws.proofs.Tables.{held_shows, released_shows, name_stays}
use Rattle.fact_laws.proofs.law.tables_move.Goals as goal

pub returns-clause-held : goal.returns-clause-held
returns-clause-held c old new id name times list h = held_shows old new id name h times list

pub returns-clause-released : goal.returns-clause-released
returns-clause-released c old new id times list r last = released_shows old new id r times list last

pub returns-clause-names : goal.returns-clause-names
returns-clause-names c old new id name x h = name_stays old new id name h x
