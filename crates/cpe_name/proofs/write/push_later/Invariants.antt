use Rattle.std.proofs.Common.{◌≡◌, ◌++◌, ◌∷◌, take}
use Rattle.std.specs.List.{flat_map}
use Rattle.cpe_name.specs.Text.{attribute_text}
use Rattle.cpe_name.proofs.write.push_later.Given as goal

abbrev pub invariant-loop-which : goal.invariant-loop-which
invariant-loop-which l = l.out.items ≡ l.fn.out.items ++ flat_map (λ a. 44 ∷ attribute_text l.name a) (take l.which-index l.later)
