use Rattle.std.proofs.Common.{◌≡◌, ◌++◌, [], Option, take}
use Rattle.std.specs.List.{flat_map}
use Rattle.std.specs.Option.{option_map_or}
use Rattle.cpe_rows.specs.cpe_name.Eleven.{Values}
use Rattle.snapshot_bytes.specs.Parts.{name}
use Rattle.engine_snapshot.proofs.write.push_items.Given as goal

abbrev pub invariant-loop-k : goal.invariant-loop-k
invariant-loop-k l = l.out.items ≡ l.fn.bytes.items ++ flat_map (λ (o : Option Values). option_map_or name o []) (take l.k l.slots)
