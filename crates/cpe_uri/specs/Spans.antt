-- The pieces of a URI that spell the values of its name, as `scan_uri` finds them. No public contract uses these
-- definitions.
use Rattle.std.specs.Prelude.{◌≡◌, ℕ, ◌≤◌, Bool, true, not, ◌==◌, List, length}
use Rattle.std.specs.List.{AllByRecursion, list_all}
use Rattle.cpe_values.specs.declared.value.Value.{Value}
use Rattle.cpe_values.specs.Lower.{lower_value}
use Rattle.cpe_values.specs.Values.{IsValue}
use Rattle.cpe_name.specs.Eleven.{Values, Written}
use Rattle.cpe_name.specs.declared.attribute.Attribute.{Attribute}
use Rattle.cpe_name.specs.Lower.{IsLower}
use Rattle.cpe_name.specs.Names.{attributes, value_of, Suits, IsName}
use Rattle.cpe_name.specs.Spans.{texts, total_length}
use Rattle.cpe_name.specs.Scanning.{slot}
use Rattle.cpe_uri.specs.Spelling.{IsSpellingOf}
use Rattle.cpe_uri.specs.Grammar.{IsEditionSpelling, Uri}

-- the component spells some value that suits the attribute and is in lower case
pub record IsUriComponent (a : Attribute) (s : List ℕ) : Type 0 where
  pub value : Value
  pub suits : Suits a value
  pub lower : lower_value value ≡ value
  pub present : IsSpellingOf value s

-- the component spells some value in lower case; in a packed field no tilde is bare
pub record IsTextComponent (packed : Bool) (s : List ℕ) : Type 0 where
  pub value : Value
  pub good : IsValue value
  pub lower : lower_value value ≡ value
  pub present : IsSpellingOf value s
  pub none : packed ≡ true → list_all (λ c. not (c == 126)) s ≡ true

-- the component spells the edition of some name in lower case, alone or packed
pub record IsEdition (s : List ℕ) : Type 0 where
  pub of : Values
  pub name : IsName of
  pub lower : IsLower of
  pub present : IsEditionSpelling of s

-- the pieces `c` spell the values of a name that has this URI
pub record AreUriComponents (s : List ℕ) (c : Written) : Type 0 where
  pub name : Values
  pub uri : Uri name s
  pub are : AllByRecursion (λ a. IsSpellingOf (value_of name a) (slot (texts c) a)) attributes
  pub within : total_length (texts c) ≤ length s
