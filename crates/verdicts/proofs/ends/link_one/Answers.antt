use Rattle.verdicts.proofs.LeadLemmas.{linked_more, no_links}
use Rattle.verdicts.proofs.ends.link_one.Goals as goal

pub returns-in_err-ends-clause-more : goal.returns-in_err-ends-clause-more
returns-in_err-ends-clause-more c = no_links c.args.facts.now

pub returns-in_err-link-clause-more : goal.returns-in_err-link-clause-more
returns-in_err-link-clause-more c = linked_more c.args.facts.now c.link.new.self c.args.fact.0 _ c.link.result c.link.ensures

pub returns-clause-more : goal.returns-clause-more
returns-clause-more c = linked_more c.args.facts.now c.link.new.self c.args.fact.0 _ c.link.result c.link.ensures
