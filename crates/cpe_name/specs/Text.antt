-- The output text of a well-formed name: all attributes in their order, without spaces.
use Rattle.std.specs.Prelude.{ℕ, List, [], ◌∷◌, ◌++◌, map, codes}
use Rattle.std.specs.List.{join_with_byte}
use Rattle.cpe_values.specs.declared.value.Value.{Value}
use Rattle.cpe_values.specs.declared.value.Value.TheVariants as value
use Rattle.cpe_values.specs.declared.spelling.Style.TheVariants as style
use Rattle.cpe_values.specs.Spelling.{spelling}
use Rattle.cpe_name.specs.Eleven.{Values}
use Rattle.cpe_name.specs.declared.attribute.Attribute.{Attribute}
use Rattle.cpe_name.specs.declared.attribute.Attribute.TheVariants.{Part, Vendor, Product, Version, Update, Edition, Language, SwEdition, TargetSw, TargetHw, Other}
use Rattle.cpe_name.specs.Names.{attributes, value_of}

abbrev pub attribute_name : Attribute → List ℕ
attribute_name Part = codes "part"
attribute_name Vendor = codes "vendor"
attribute_name Product = codes "product"
attribute_name Version = codes "version"
attribute_name Update = codes "update"
attribute_name Edition = codes "edition"
attribute_name Language = codes "language"
attribute_name SwEdition = codes "sw_edition"
attribute_name TargetSw = codes "target_sw"
attribute_name TargetHw = codes "target_hw"
attribute_name Other = codes "other"

-- the text of a value: `ANY`, `NA`, or the value's text between double quotes
abbrev pub value_text : Value → List ℕ
value_text value.Any = codes "ANY"
value_text value.Na = codes "NA"
value_text (value.Text t) = 34 ∷ (spelling style.Wfn t ++ 34 ∷ [])

-- the text of an attribute: its name, `=`, and its value
abbrev pub attribute_text : Values → Attribute → List ℕ
attribute_text v a = attribute_name a ++ 61 ∷ value_text (value_of v a)

-- the output text of a name: the texts of all attributes, joined by commas
abbrev pub output_text : Values → List ℕ
output_text v = codes "wfn:[" ++ join_with_byte 44 (map (attribute_text v) attributes) ++ codes "]"
