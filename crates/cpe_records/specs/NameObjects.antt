-- Names that are written as objects. A member of the object is an attribute, written as its component in a formatted
-- string (NIST IR 7695, 6.2).
use Rattle.std.specs.Prelude.{◌≡◌, Bool, true, Option, Some, None, Result, Ok, Err, option_and_then, is_none, unwrap_or, map, find, if◌then◌else◌}
use Rattle.serde_json.specs.Data.{Data}
use Rattle.serde_json.specs.Find.{get, as_str}
use Rattle.cpe_rows.specs.cpe_values.declared.value.Value.{Value}
use Rattle.cpe_rows.specs.cpe_values.declared.value.Value.TheVariants as value
use Rattle.cpe_rows.specs.cpe_name.declared.attribute.Attribute.{Attribute}
use Rattle.cpe_rows.specs.cpe_name.declared.attribute.Attribute.TheVariants.{Part, Vendor, Product, Version, Update, Edition, Language, SwEdition, TargetSw, TargetHw, Other}
use Rattle.cpe_rows.specs.cpe_name.Eleven.{Values}
use Rattle.cpe_rows.specs.cpe_name.Names.{attributes, named}
use Rattle.cpe_rows.specs.cpe_name.Eleven.{put}
use Rattle.cpe_rows.specs.cpe_name.Shapes.{is_part, is_language}
use Rattle.cpe_rows.specs.cpe_name.Text.{attribute_name}
use Rattle.cpe_fs.specs.Component.{read_component}
use Rattle.cpe_fs.specs.declared.component.ComponentFault.{ComponentFault}
use Rattle.cpe_fs.specs.declared.component.ComponentFault.TheVariants as fault
use Rattle.cpe_records.specs.Forms.{or_default}

-- the value of the attribute that this component spells
abbrev pub component_in : Data → Option Value
component_in d = option_and_then read_component (as_str d)

-- the value at an attribute's key; ANY if the key is absent
abbrev pub component_at : Attribute → Data → Option Value
component_at a d = or_default value.Any component_in (get (attribute_name a) d)

-- whether an attribute may have this value; only part and language restrict it (NIST IR 7695, 5.3)
abbrev pub has_attribute_shape : Attribute → Value → Bool
has_attribute_shape Part v = is_part v
has_attribute_shape Language v = is_language v
has_attribute_shape Vendor v = true
has_attribute_shape Product v = true
has_attribute_shape Version v = true
has_attribute_shape Update v = true
has_attribute_shape Edition v = true
has_attribute_shape SwEdition v = true
has_attribute_shape TargetSw v = true
has_attribute_shape TargetHw v = true
has_attribute_shape Other v = true

abbrev pub shaped : Attribute → Value → Option Value
shaped a v = if has_attribute_shape a v then Some v else None

-- the value of an attribute, if the object has a value for it that the attribute may have
abbrev pub member_value_at : Data → Attribute → Option Value
member_value_at d a = option_and_then (shaped a) (component_at a d)

-- the first attribute without a value
abbrev pub first_without : Data → Option Attribute
first_without d = find (λ a. is_none (member_value_at d a)) attributes

-- the values of all attributes; ANY for an attribute without a value
abbrev pub values_at : Data → Values
values_at d = named (map (λ a. unwrap_or (member_value_at d a) value.Any) attributes)

-- ---- how the values are found

abbrev pub Lacks : ComponentFault → Option Value → Type 0
Lacks fault.NotComponent found = found ≡ None
Lacks fault.Memory found = Unit {0}

-- a search's result is the value that is found; if memory ran out, nothing is claimed
abbrev pub FindsValue : Result Value ComponentFault → Option Value → Type 0
FindsValue (Ok v) found = found ≡ Some v
FindsValue (Err e) found = Lacks e found

-- the name is unchanged except that the attribute has its value from the object
pub record HasValueOf (d : Data) (a : Attribute) (old new : Values) : Type 0 where
  pub value : Value
  pub present : member_value_at d a ≡ Some value
  pub is : new ≡ put old a value

-- the result is the first attribute without a value; if there is none, the name has all values
abbrev pub IsFilled : Data → Option Attribute → Values → Type 0
IsFilled d None w = (first_without d ≡ None) × (w ≡ values_at d)
IsFilled d (Some a) w = first_without d ≡ Some a
