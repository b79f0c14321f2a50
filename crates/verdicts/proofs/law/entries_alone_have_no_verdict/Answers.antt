use Rattle.verdicts.proofs.EntryLemmas.{alone_verdicts}
use Rattle.verdicts.proofs.law.entries_alone_have_no_verdict.Goals as goal

pub returns : goal.returns
returns c names v was now h = alone_verdicts names v was now h
