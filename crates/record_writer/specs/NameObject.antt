-- A name as an object of JSON: each member is an attribute, written as its component in a formatted string (NIST IR
-- 7695, 6.2).
use Rattle.std.specs.Prelude.{ℕ, List, [], ◌∷◌, if◌then◌else◌}
use Rattle.json.specs.Token.{Token, key}
use Rattle.json.specs.Json.{Json, string, object, Members, no_members, member}
use Rattle.cpe_rows.specs.cpe_values.declared.value.Value.{Value}
use Rattle.cpe_rows.specs.cpe_name.Eleven.{Values}
use Rattle.cpe_rows.specs.cpe_name.declared.attribute.Attribute.{Attribute}
use Rattle.cpe_rows.specs.cpe_name.declared.attribute.Attribute.TheVariants.{Part, Vendor, Product, Version, Update, Edition, Language, SwEdition, TargetSw, TargetHw, Other}
use Rattle.cpe_rows.specs.cpe_name.Names.{value_of}
use Rattle.cpe_rows.specs.cpe_name.Text.{attribute_name}
use Rattle.cpe_records.specs.cpe_uri.Canon.{is_any_component}
use Rattle.cpe_fs.specs.Grammar.{fs_component}

-- the attributes, sorted by their names
abbrev pub sorted_attributes : List Attribute
sorted_attributes = Edition ∷ Language ∷ Other ∷ Part ∷ Product ∷ SwEdition ∷ TargetHw ∷ TargetSw ∷ Update ∷ Vendor ∷ Version ∷ []

-- the member of an attribute, unless its value is ANY, before the other members
abbrev pub with_value : List ℕ → Value → Members → Members
with_value name v rest = if is_any_component v then rest else member name (string (fs_component v)) rest

abbrev pub with_values : Values → List Attribute → Members
with_values n [] = no_members
with_values n (a ∷ more) = with_value (attribute_name a) (value_of n a) (with_values n more)

-- a name as an object of its attributes that are not ANY
unfoldable pub name_object : Values → Json
name_object n = object (with_values n sorted_attributes)

-- the tokens of an attribute; none if its value is ANY
abbrev pub value_tokens : Values → Attribute → List Token
value_tokens n a = if is_any_component (value_of n a) then [] else key (attribute_name a) ∷ Token.string (fs_component (value_of n a)) ∷ []
