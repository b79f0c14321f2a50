use Rattle.engine_snapshot.proofs.puts.put.Goals as goal

pub returns-in-Err-clause-refused : goal.returns-in-Err-clause-refused
returns-in-Err-clause-refused g c = λ is. c.in-Err.ensures.unlawful (c.load_fault.ensures is)
