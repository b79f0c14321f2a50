use Rattle.fact_laws.proofs.Shown.{shows_none, shows_more, shows_fewer, shows_order, shows_same, shows_few, shows_part, shown_passes, passing_shown}
use Rattle.fact_laws.proofs.law.lists_are_shown.Goals as goal

pub returns : goal.returns
returns c = record { empty = shows_none; more = shows_more; fewer = shows_fewer; order = shows_order; same = shows_same; few = shows_few; part = shows_part; somewhere = shown_passes; passing = passing_shown }
