use Rattle.fact_rows.proofs.LinkLemmas.{once_put}
use Rattle.fact_rows.proofs.links.link_end.Goals as goal

pub returns-clause-once : goal.returns-clause-once
returns-clause-once c = once_put c.args.facts.now.entries c.add_at.new.facts.entries c.args.end c.args.fact c.add_at.result c.add_at.ensures.here c.add_at.ensures.err c.add_at.ensures.others
