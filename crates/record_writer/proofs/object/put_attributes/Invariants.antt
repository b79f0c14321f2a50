use Rattle.std.proofs.Common.{◌≡◌, ◌++◌, flat_map, take}
use Rattle.record_writer.specs.NameObject.{value_tokens}
use Rattle.record_writer.proofs.object.put_attributes.Given as goal

abbrev pub invariant-loop-attribute : goal.invariant-loop-attribute
invariant-loop-attribute l = (l.writer.before ≡ l.fn.writer.before) × (l.writer.tokens ≡ l.fn.writer.tokens ++ flat_map (value_tokens l.fn.name) (take l.attribute-index l.which))
