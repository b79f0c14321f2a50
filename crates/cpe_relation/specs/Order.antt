-- Orders in which the attributes of two names can be compared.
use Rattle.std.specs.Prelude.{◌≡◌, List, Bool}
use Rattle.std.specs.List.{list_all}
use Rattle.cpe_name.specs.declared.attribute.Attribute.{Attribute}
use Rattle.cpe_name.specs.Names.{attributes}

-- The order has exactly the eleven attributes: each test is true of all in the order exactly if it is true of all
-- attributes.
abbrev pub IsOrder : List Attribute → Type 0
IsOrder order = (test : Attribute → Bool) → list_all test order ≡ list_all test attributes
