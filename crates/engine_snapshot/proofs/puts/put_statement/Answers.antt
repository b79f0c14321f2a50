use Rattle.engine_snapshot.proofs.Taken.{statement_taken}
use Rattle.engine_snapshot.proofs.puts.put_statement.Goals as goal

pub returns-in-Err-clause-refused : goal.returns-in-Err-clause-refused
returns-in-Err-clause-refused g c = λ is more lawful. c.in-Err.ensures.unlawful (c.load_fault.ensures is) (statement_taken c.args.engine.now c.args.statement more lawful)
