use Rattle.std.proofs.Common.{◌≡◌, ◌++◌, ◌∷◌, take}
use Rattle.std.specs.List.{flat_map}
use Rattle.cpe_name.specs.Names.{value_of}
use Rattle.cpe_fs.specs.Grammar.{fs_component}
use Rattle.cpe_fs.proofs.bind.push_fields.Given as goal

abbrev pub invariant-loop-attribute : goal.invariant-loop-attribute
invariant-loop-attribute l = l.out.items ≡ l.fn.out.items ++ flat_map (λ a. 58 ∷ fs_component (value_of l.name a)) (take l.attribute-index l.which)
