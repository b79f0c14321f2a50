use Rattle.facts.proofs.users.remove_statement_users.Goals as goal

pub returns-clause-left : goal.returns-clause-left
returns-clause-left c = (c.remove_users.new.facts, c.remove_users.ensures.less, c.remove_facts.ensures.removed)
