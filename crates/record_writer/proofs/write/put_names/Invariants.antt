use Rattle.std.proofs.Common.{◌≡◌, ◌++◌, flat_map, take}
use Rattle.json.specs.Tree.{json_tokens}
use Rattle.record_writer.specs.Written.{name_json}
use Rattle.record_writer.proofs.write.put_names.Given as goal

abbrev pub invariant-loop-name : goal.invariant-loop-name
invariant-loop-name l = (l.writer.before ≡ l.fn.writer.before) × (l.writer.tokens ≡ l.fn.writer.tokens ++ flat_map (λ n. json_tokens (name_json n)) (take l.name-index l.names))
