use Rattle.fact_rows.proofs.LinkLemmas.{away_still, gone_once}
use Rattle.fact_rows.proofs.links.unlink_end.Goals as goal

pub returns-clause-gone : goal.returns-clause-gone
returns-clause-gone c = gone_once c.args.facts.now.entries c.remove_link.new.facts.entries c.args.end c.args.fact c.remove_link.ensures.times

pub returns-clause-away : goal.returns-clause-away
returns-clause-away c = away_still c.args.facts.now.entries c.remove_link.new.facts.entries c.args.end c.args.fact c.remove_link.ensures.times c.remove_link.ensures.elsewhere
