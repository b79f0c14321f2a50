use Rattle.std.proofs.Common.{subst, sym, ◌∙◌}
use Rattle.std.specs.Str.{IsAscii}
use Rattle.record_writer.proofs.Printed.{IsAscii-component}
use Rattle.record_writer.proofs.object.put_attribute.Goals as goal

pub ascii_str-requires : goal.ascii_str-requires
ascii_str-requires c = subst IsAscii (sym (c.as_slice.ensures.value ∙ c.in_ok-text.ensures)) (IsAscii-component c.get-value.result.now c.lawful.ensures)
