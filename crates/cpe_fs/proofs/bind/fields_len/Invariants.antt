use Rattle.std.proofs.Common.{◌≡◌, ◌∷◌, ◌≤◌, ◌*◌, ◌^◌, ◌+◌, take, length}
use Rattle.std.specs.List.{flat_map}
use Rattle.cpe_name.specs.Names.{value_of}
use Rattle.cpe_fs.specs.Grammar.{fs_component}
use Rattle.cpe_fs.proofs.bind.fields_len.Given as goal

abbrev pub invariant-loop-attribute : goal.invariant-loop-attribute
invariant-loop-attribute l = record { value : l.len ≡ length (flat_map (λ a. 58 ∷ fs_component (value_of l.name a)) (take l.attribute-index l.which)); small : l.len ≤ (2 ^ 66 + 1) * l.attribute-index }
