use Rattle.std.proofs.Common.{◌≡◌, ◌++◌, take}
use Rattle.std.specs.List.{flat_map}
use Rattle.advise_ranges.specs.Lines.{item_line}
use Rattle.advise_ranges.proofs.reply.push_items.Given as goal

abbrev pub invariant-loop-name : goal.invariant-loop-name
invariant-loop-name l = l.page ≡ l.fn.page ++ flat_map item_line (take l.name-index l.names)
