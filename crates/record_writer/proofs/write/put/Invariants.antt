use Rattle.std.proofs.Common.{◌≡◌, ◌++◌, map, take}
use Rattle.json.specs.Reads.{token_of}
use Rattle.record_writer.proofs.write.put.Given as goal

abbrev pub invariant-loop-token : goal.invariant-loop-token
invariant-loop-token l = (l.writer.before ≡ l.fn.writer.before) × (l.writer.tokens ≡ l.fn.writer.tokens ++ map token_of (take l.token-index l.tokens))
