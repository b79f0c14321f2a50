use Rattle.engine_snapshot.proofs.meant.deprecate_all.Goals as goal

pub returns-in-Err-clause-refused : goal.returns-in-Err-clause-refused
returns-in-Err-clause-refused c = λ is. c.in-Err.ensures.unlawful (c.load_fault.ensures is)
