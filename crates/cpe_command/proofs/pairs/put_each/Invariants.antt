use Rattle.std.proofs.Common.{◌≡◌, ◌≤◌, ◌+◌, ◌*◌, ◌++◌, ◌∷◌, take, length}
use Rattle.std.specs.List.{flat_map}
use Rattle.cpe_relation.specs.NameRelation.{relation_of}
use Rattle.cpe_command.specs.Pairs.{relation_text}
use Rattle.cpe_command.proofs.pairs.put_each.Given as goal

abbrev pub invariant-loop-attribute : goal.invariant-loop-attribute
invariant-loop-attribute l =
    (l.end ≤ l.fn.at + 10 * l.attribute-index)
    × (length l.room ≡ length l.fn.room)
    × (take l.end l.room ≡ take l.fn.at l.fn.room ++ flat_map (λ w. 32 ∷ relation_text (relation_of l.relations w)) (take l.attribute-index l.which))
