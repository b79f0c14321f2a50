-- The test of equality of names.
use Rattle.std.specs.Prelude.{◌≡◌, ℕ, Bool, ◌&&◌, List, [], ◌∷◌, map, refl}
use Rattle.std.specs.List.{list_all, flat_map}
use Rattle.std.specs.Bool.{Decides}
use Rattle.std.proofs.Common.{ap}
use Rattle.std.proofs.lemmas.Slice.Eq.{slice_eq-Decides}
use lib.Pointwise.{pointwise}
use Rattle.cpe_values.specs.Same.{same_value, value_input}
use Rattle.cpe_values.specs.Equal.{same_value-Decides}
use Rattle.cpe_name.specs.Eleven.{Values}
use Rattle.cpe_name.specs.declared.attribute.Attribute.{Attribute}
use Rattle.cpe_name.specs.Names.{attributes, value_of, named}

-- both names have the same value for each attribute
abbrev pub same_name : Values → Values → Bool
same_name v w = list_all (λ a. same_value (value_of v a) (value_of w a)) attributes

abbrev pub name_input : Values → List (List ℕ)
name_input v = flat_map (λ a. value_input (value_of v a)) attributes

as_pointwise : (v w : Values) (which : List Attribute) → list_all (λ a. same_value (value_of v a) (value_of w a)) which ≡ pointwise same_value (map (value_of v) which) (map (value_of w) which)
as_pointwise v w [] = refl
as_pointwise v w (a ∷ rest) = ap (λ (b : Bool). same_value (value_of v a) (value_of w a) && b) (as_pointwise v w rest)

pub same_name-Decides : (v w : Values) → Decides (same_name v w) (v ≡ w)
same_name-Decides v w =
    let d = slice_eq-Decides same_value-Decides (map (value_of v) attributes) (map (value_of w) attributes) (same_name v w) (as_pointwise v w attributes) in
    (λ h. ap named (d.0 h), λ e. d.1 (ap (λ (u : Values). map (value_of u) attributes) e))
