-- Well-formed names (NIST IR 7695, 5): eleven values, of which the part and the language have a special shape.
use Rattle.std.specs.Prelude.{◌≡◌, true, false, List, [], ◌∷◌, IsTrue, slice_index_or}
use Rattle.std.specs.List.{AllByRecursion}
use Rattle.cpe_values.specs.declared.value.Value.{Value}
use Rattle.cpe_values.specs.declared.value.Value.TheVariants as value
use Rattle.cpe_values.specs.Values.{IsValue}
use Rattle.cpe_name.specs.Eleven.{Values, at, each}
use Rattle.cpe_name.specs.declared.attribute.Attribute.{Attribute}
use Rattle.cpe_name.specs.declared.attribute.Attribute.TheVariants.{Part, Vendor, Product, Version, Update, Edition, Language, SwEdition, TargetSw, TargetHw, Other}
use Rattle.cpe_name.specs.declared.name.NameFault.{NameFault}
use Rattle.cpe_name.specs.declared.name.NameFault.TheVariants.{BadPart, BadLanguage}
use Rattle.cpe_name.specs.Shapes.{is_part, is_language}

-- the attributes in the order of the formatted string
abbrev pub attributes : List Attribute
attributes = Part ∷ Vendor ∷ Product ∷ Version ∷ Update ∷ Edition ∷ Language ∷ SwEdition ∷ TargetSw ∷ TargetHw ∷ Other ∷ []

-- the value of an attribute of a name
abbrev pub value_of : Values → Attribute → Value
value_of v a = at v a

-- the value ANY for each attribute
abbrev pub any_values : Values
any_values = each (λ _. value.Any)

-- the name with these values, in the order of the attributes
abbrev pub named : List Value → Values
named vs = record {
  part = slice_index_or vs 0 value.Any;
  vendor = slice_index_or vs 1 value.Any;
  product = slice_index_or vs 2 value.Any;
  version = slice_index_or vs 3 value.Any;
  update = slice_index_or vs 4 value.Any;
  edition = slice_index_or vs 5 value.Any;
  language = slice_index_or vs 6 value.Any;
  sw_edition = slice_index_or vs 7 value.Any;
  target_sw = slice_index_or vs 8 value.Any;
  target_hw = slice_index_or vs 9 value.Any;
  other = slice_index_or vs 10 value.Any;
}

-- the attribute may have this value
abbrev pub Suits : Attribute → Value → Type 0
Suits Part v = IsValue v × IsTrue (is_part v)
Suits Language v = IsValue v × IsTrue (is_language v)
Suits Vendor v = IsValue v
Suits Product v = IsValue v
Suits Version v = IsValue v
Suits Update v = IsValue v
Suits Edition v = IsValue v
Suits SwEdition v = IsValue v
Suits TargetSw v = IsValue v
Suits TargetHw v = IsValue v
Suits Other v = IsValue v

-- each value suits its attribute
abbrev pub IsName : Values → Type 0
IsName v = AllByRecursion (λ a. Suits a (value_of v a)) attributes

-- this is the first fault of eleven values
abbrev pub IsFault : NameFault → Values → Type 0
IsFault BadPart v = is_part v.part ≡ false
IsFault BadLanguage v = (is_part v.part ≡ true) × (is_language v.language ≡ false)
