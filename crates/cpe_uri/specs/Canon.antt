-- The canonical URI of a name (NIST IR 7695, 6.1.2).
use Rattle.std.specs.Prelude.{ℕ, Bool, true, false, nat_eq, if◌then◌else◌, List, [], ◌∷◌, ◌++◌, codes}
use Rattle.std.specs.List.{join_with_byte, flat_map, list_all}
use Rattle.cpe_values.specs.declared.value.Value.{Value}
use Rattle.cpe_values.specs.declared.value.Value.TheVariants as value
use Rattle.cpe_name.specs.Eleven.{Values}
use Rattle.cpe_name.specs.declared.attribute.Attribute.{Attribute}
use Rattle.cpe_name.specs.declared.attribute.Attribute.TheVariants.{Edition, SwEdition, TargetSw, TargetHw, Other}
use Rattle.cpe_name.specs.Names.{value_of}
use Rattle.cpe_uri.specs.Spelling.{uri_component}

abbrev pub is_any_component : Value → Bool
is_any_component value.Any = true
is_any_component value.Na = false
is_any_component (value.Text t) = false

-- the attributes that names of CPE 2.2 don't have; they are packed into the component of the edition
abbrev pub extended : List Attribute
extended = SwEdition ∷ TargetSw ∷ TargetHw ∷ Other ∷ []

-- the edition and the four extended attributes, with a tilde before each
abbrev pub packed : Values → List ℕ
packed w = flat_map (λ a. 126 ∷ uri_component (value_of w a)) (Edition ∷ extended)

-- the edition alone if the four extended attributes are ANY, and otherwise the packed fields
abbrev pub edition_component : Values → List ℕ
edition_component w = if list_all (λ a. is_any_component (value_of w a)) extended then uri_component w.edition else packed w

-- the seven components of the canonical URI, in order
abbrev pub components : Values → List (List ℕ)
components w = uri_component w.part ∷ uri_component w.vendor ∷ uri_component w.product ∷ uri_component w.version ∷ uri_component w.update ∷ edition_component w ∷ uri_component w.language ∷ []

-- the text without the bytes `c` at its end
abbrev pub trimmed : ℕ → List ℕ → List ℕ
trimmed c [] = []
trimmed c (b ∷ s) = if list_all (nat_eq c) (b ∷ s) then [] else b ∷ trimmed c s

-- `cpe:/` and the components joined by colons, without the colons at the end
abbrev pub canon : Values → List ℕ
canon w = trimmed 58 (codes "cpe:/" ++ join_with_byte 58 (components w))
