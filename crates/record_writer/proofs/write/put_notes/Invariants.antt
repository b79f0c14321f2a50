use Rattle.std.proofs.Common.{◌≡◌, ◌++◌, flat_map, take}
use Rattle.json.specs.Tree.{json_tokens}
use Rattle.record_writer.specs.Written.{note_json}
use Rattle.record_writer.proofs.write.put_notes.Given as goal

abbrev pub invariant-loop-note : goal.invariant-loop-note
invariant-loop-note l = (l.writer.before ≡ l.fn.writer.before) × (l.writer.tokens ≡ l.fn.writer.tokens ++ flat_map (λ n. json_tokens (note_json n)) (take l.note-index l.notes))
