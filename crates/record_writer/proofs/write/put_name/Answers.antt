use Rattle.std.proofs.Common.{subst, sym, ◌∙◌}
use Rattle.std.specs.Str.{IsAscii}
use Rattle.record_writer.proofs.Printed.{IsAscii-fs_text}
use Rattle.record_writer.proofs.write.put_name.Goals as goal

pub ascii_str-requires : goal.ascii_str-requires
ascii_str-requires c =
    subst IsAscii (sym (c.as_slice.ensures.value ∙ c.in_ok-text.ensures)) (IsAscii-fs_text c.args.name.now c.lawful.ensures)
