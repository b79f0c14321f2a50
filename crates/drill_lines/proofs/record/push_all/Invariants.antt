use Rattle.std.proofs.Common.{◌≡◌, ◌++◌, take}
use Rattle.std.specs.List.{flat_map}
use Rattle.drill_lines.proofs.record.push_all.Given as goal

abbrev pub invariant-loop-text : goal.invariant-loop-text
invariant-loop-text l = l.page ≡ l.fn.page ++ flat_map (λ text. text.now) (take l.text-index l.texts)
