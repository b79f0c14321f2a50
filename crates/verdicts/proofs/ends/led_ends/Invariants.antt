use Rattle.std.proofs.Common.{◌≡◌, take}
use Rattle.std.specs.List.{flat_map}
use Rattle.facts.specs.declared.lead.Led.{Led}
use Rattle.verdicts.proofs.ends.led_ends.Given as goal

abbrev pub invariant-loop-led : goal.invariant-loop-led
invariant-loop-led l = l.all.items ≡ flat_map (λ (x : Led). x.ends.items) (take l.led-index l.facts)
