use Rattle.std.proofs.Common.{◌≡◌, ◌++◌, take}
use Rattle.std.specs.List.{flat_map}
use Rattle.advise_ranges.specs.Lines.{advisory_line}
use Rattle.advise_ranges.proofs.reply.push_ids.Given as goal

abbrev pub invariant-loop-id : goal.invariant-loop-id
invariant-loop-id l = l.page ≡ l.fn.page ++ flat_map advisory_line (take l.id-index l.ids)
