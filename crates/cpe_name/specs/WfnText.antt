-- The texts of a well-formed name (NIST IR 7695, 5). Such a text has some attributes in any order, each at most once. A
-- missing attribute is ANY. Spaces are only after commas.
use Rattle.std.specs.Prelude.{◌≡◌, ℕ, Bool, false, ◌==◌, List, [], ◌∷◌, ◌++◌, map, replicate, codes}
use Rattle.std.specs.List.{flat_map, list_any, IsDistinct}
use Rattle.cpe_values.specs.declared.value.Value.TheVariants as value
use Rattle.cpe_name.specs.Eleven.{Values}
use Rattle.cpe_name.specs.declared.attribute.Attribute.{Attribute}
use Rattle.cpe_name.specs.declared.attribute.Attribute.TheVariants.{Part, Vendor, Product, Version, Update, Edition, Language, SwEdition, TargetSw, TargetHw, Other}
use Rattle.cpe_name.specs.declared.read.WfnFault.{WfnFault}
use Rattle.cpe_name.specs.declared.read.WfnFault.TheVariants as fault
use Rattle.cpe_name.specs.Names.{value_of, IsName}
use Rattle.cpe_name.specs.Text.{attribute_text}

-- the number of an attribute in the order of the formatted string, from 0
abbrev pub attribute_rank : Attribute → ℕ
attribute_rank Part = 0
attribute_rank Vendor = 1
attribute_rank Product = 2
attribute_rank Version = 3
attribute_rank Update = 4
attribute_rank Edition = 5
attribute_rank Language = 6
attribute_rank SwEdition = 7
attribute_rank TargetSw = 8
attribute_rank TargetHw = 9
attribute_rank Other = 10

abbrev pub same_attribute : Attribute → Attribute → Bool
same_attribute a b = attribute_rank a == attribute_rank b

abbrev pub is_listed : Attribute → List Attribute → Bool
is_listed a which = list_any (same_attribute a) which

-- the attributes of a list, each of which has a number of spaces before it
abbrev pub tag_names : List (Attribute × ℕ) → List Attribute
tag_names items = map (λ i. i.0) items

-- a comma, spaces, and the text of an attribute
abbrev pub later_text : Values → Attribute × ℕ → List ℕ
later_text w i = 44 ∷ (replicate i.1 32 ++ attribute_text w i.0)

-- the text of a list of attributes; the first attribute has no comma and no spaces before it
abbrev pub list_text : Values → List (Attribute × ℕ) → List ℕ
list_text w [] = []
list_text w (i ∷ rest) = attribute_text w i.0 ++ flat_map (later_text w) rest

-- the name has this text
pub record WfnText (w : Values) (s : List ℕ) : Type 0 where
  pub name : IsName w
  pub items : List (Attribute × ℕ)
  pub once : IsDistinct same_attribute (tag_names items)
  pub absent : (a : Attribute) → is_listed a (tag_names items) ≡ false → value_of w a ≡ value.Any
  pub text : s ≡ codes "wfn:[" ++ list_text w items ++ codes "]"

-- some name has this text
abbrev pub IsWfnText : List ℕ → Type 0
IsWfnText s = (w : Values) × WfnText w s

-- the fault of a text that could not be read; `Memory` only if some name has the text
abbrev pub RefusesWfn : WfnFault → List ℕ → Type 0
RefusesWfn fault.NotWfn s = ¬ (IsWfnText s)
RefusesWfn fault.Memory s = IsWfnText s
