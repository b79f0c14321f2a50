use Rattle.std.proofs.Common.{length, ap, ◌∙◌, arith, drop, length-drop}
use Rattle.name_index.proofs.put.move_half.Goals as goal

pub unreachable-requires : goal.unreachable-requires
unreachable-requires c =
    omega (arith, c.in-Err.ensures.full, c.requires.full, c.requires.room, ap length c.requires.empty, c.args.half.now.ok, ap length (c.back_of.ensures ∙ ap (drop 512) c.deref.ensures.value), length-drop 512 c.args.block.now.items)
