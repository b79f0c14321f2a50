use Rattle.facts.proofs.users.add_statement_users.Goals as goal

pub returns : goal.returns
returns c = (c.add_users.new.facts, c.add_users.ensures.added, c.add_users.ensures.changed, c.refresh_facts.ensures)
