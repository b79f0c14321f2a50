use Rattle.facts.proofs.LevelLemmas.{shown}
use Rattle.facts.proofs.law.facts_are_shown.Goals as goal

pub returns : goal.returns
returns c names board rows mode fact numbers answers fits shows = shown names board rows mode answers fits shows fact numbers
