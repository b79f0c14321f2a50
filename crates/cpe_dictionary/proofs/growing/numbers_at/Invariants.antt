use Rattle.std.proofs.Common.{◌≡◌, ◌++◌, drop, slice_get}
use Rattle.std.specs.List.{filter_map}
use Rattle.cpe_dictionary.proofs.growing.numbers_at.Given as goal

abbrev pub invariant-loop-place : goal.invariant-loop-place
invariant-loop-place l = l.numbers.items ++ filter_map (slice_get l.names.numbers) (drop l.place-index l.places) ≡ filter_map (slice_get l.names.numbers) l.places
