use Rattle.std.proofs.Common.{◌≡◌, ◌++◌, flat_map, take}
use Rattle.json.specs.Tree.{json_tokens}
use Rattle.certificate_records.specs.Written.{given_json}
use Rattle.certificate_records.proofs.put.+put_why.Given as goal

abbrev pub invariant-loop-given : goal.invariant-loop-given
invariant-loop-given l = (l.writer.before ≡ l.initial.writer.before) × (l.writer.tokens ≡ l.initial.writer.tokens ++ flat_map (λ w. json_tokens (given_json w)) (take l.given-index l.given-items))
