use Rattle.std.proofs.Common.{◌≡◌, ◌++◌, flat_map, take}
use Rattle.json.specs.Tree.{json_tokens}
use Rattle.record_writer.specs.WrittenRecord.{test_json}
use Rattle.record_writer.proofs.test.+put_test.Given as goal

abbrev pub invariant-loop-child : goal.invariant-loop-child
invariant-loop-child l = (l.writer.before ≡ l.initial.writer.before) × (l.writer.tokens ≡ l.initial.writer.tokens ++ flat_map (λ t. json_tokens (test_json t)) (take l.child-index l.child-items))
