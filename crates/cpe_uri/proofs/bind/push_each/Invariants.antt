use Rattle.std.proofs.Common.{◌≡◌, ◌++◌, ◌∷◌, take}
use Rattle.std.specs.List.{flat_map}
use Rattle.cpe_name.specs.Names.{value_of}
use Rattle.cpe_uri.specs.Spelling.{uri_component}
use Rattle.cpe_uri.proofs.bind.push_each.Given as goal

abbrev pub invariant-loop-attribute : goal.invariant-loop-attribute
invariant-loop-attribute l = l.out.items ≡ l.fn.out.items ++ flat_map (λ a. l.before ∷ uri_component (value_of l.name a)) (take l.attribute-index l.which)
