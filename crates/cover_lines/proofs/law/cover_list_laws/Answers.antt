use Rattle.cover_lines.proofs.CoverLemmas.{covers_are_of_names, covers_are_one, covers_mean_the_same, covers_stay, names_are_covered}
use Rattle.cover_lines.proofs.law.cover_list_laws.Goals as goal

pub returns-clause-one : goal.returns-clause-one
returns-clause-one c = covers_are_one c.one_text.ensures.name

pub returns-clause-stay : goal.returns-clause-stay
returns-clause-stay c = covers_stay c.one_text.ensures.name

pub returns-clause-names : goal.returns-clause-names
returns-clause-names c = covers_are_of_names c.one_text.ensures.name

pub returns-clause-covered : goal.returns-clause-covered
returns-clause-covered c = names_are_covered c.cover_laws.ensures.transitive c.cover_laws.ensures.«mutual»

pub returns-clause-same : goal.returns-clause-same
returns-clause-same c = covers_mean_the_same c.cover_laws.ensures.transitive c.cover_laws.ensures.«mutual» c.relation_laws.ensures.lower
