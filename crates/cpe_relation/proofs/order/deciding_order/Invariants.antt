use Rattle.std.proofs.Common.{◌≡◌, Bool, take}
use Rattle.std.specs.List.{list_all}
use Rattle.cpe_name.specs.declared.attribute.Attribute.{Attribute}
use Rattle.cpe_name.specs.Names.{attributes}
use Rattle.cpe_relation.proofs.order.deciding_order.Given as goal

abbrev pub invariant-loop-which : goal.invariant-loop-which
invariant-loop-which l =
    (test : Attribute → Bool) → list_all test l.order.items ≡ list_all test (take l.which-index attributes)
