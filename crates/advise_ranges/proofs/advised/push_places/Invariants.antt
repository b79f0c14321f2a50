use Rattle.std.proofs.Common.{◌≡◌, ◌++◌, take}
use Rattle.std.specs.List.{flat_map}
use Rattle.indexmap.specs.IndexMap.{keys}
use Rattle.advise_ranges.specs.Found.{advice_place_in}
use Rattle.advise_ranges.proofs.advised.push_places.Given as goal

abbrev pub invariant-loop-id : goal.invariant-loop-id
invariant-loop-id l = l.places.items ≡ l.fn.places.items ++ flat_map (advice_place_in (keys l.by_id)) (take l.id-index l.ids)
