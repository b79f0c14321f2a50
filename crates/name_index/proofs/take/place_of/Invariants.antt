use Rattle.std.proofs.Common.{length, ◌-◌, ◌≡◌, true}
use Rattle.std.specs.Prelude.{nat_eq}
use Rattle.std.specs.List.{list_any}
use Rattle.name_index.specs.Places.{numbers_behind}
use Rattle.name_index.proofs.take.place_of.Given as goal

abbrev pub invariant-loop-block : goal.invariant-loop-block
invariant-loop-block l = list_any (λ x. nat_eq x l.number) (numbers_behind l.blocks l.block 0) ≡ true

abbrev pub decreases-loop-block : goal.decreases-loop-block
decreases-loop-block l = length l.blocks - l.block
