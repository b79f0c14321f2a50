use Rattle.std.proofs.Common.{map}
use Rattle.snapshot_bytes.specs.States.{pair_of_result}
use Rattle.engine_snapshot.proofs.puts.put_result.Goals as goal

pub returns-in-Err-clause-refused : goal.returns-in-Err-clause-refused
returns-in-Err-clause-refused g c = λ is more. c.in-Err.ensures.unlawful (c.load_fault.ensures is) (map pair_of_result more)
