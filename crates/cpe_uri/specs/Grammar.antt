-- URIs and their names (NIST IR 7695, 6.1.3), in each accepted spelling.
use Rattle.std.specs.Prelude.{◌≡◌, ◌⊎◌, ℕ, ◌≤◌, Bool, false, not, ◌==◌, List, [], ◌∷◌, ◌++◌, length, get_or, codes, IsTrue}
use Rattle.std.specs.List.{join_with_byte, list_all, AllByRecursion}
use Rattle.std.specs.Str.{str_to_ascii_lowercase}
use Rattle.name_grammar.specs.Place.{Leaves}
use Rattle.cpe_values.specs.declared.value.Value.TheVariants as value
use Rattle.cpe_name.specs.Eleven.{Values}
use Rattle.cpe_name.specs.declared.attribute.Attribute.{Attribute}
use Rattle.cpe_name.specs.declared.attribute.Attribute.TheVariants.{Edition}
use Rattle.cpe_name.specs.Names.{value_of, IsName}
use Rattle.cpe_name.specs.Lower.{IsLower}
use Rattle.cpe_uri.specs.declared.UriFault.{UriFault}
use Rattle.cpe_uri.specs.declared.UriFault.TheVariants as fault
use Rattle.cpe_uri.specs.Spelling.{IsSpellingOf}
use Rattle.cpe_uri.specs.Canon.{extended}

abbrev pub is_uri_colon : ℕ → Bool
is_uri_colon c = c == 58

-- ---- the component of the edition

abbrev pub is_tilde : ℕ → Bool
is_tilde c = c == 126

abbrev pub begins_with_tilde : List ℕ → Bool
begins_with_tilde [] = false
begins_with_tilde (c ∷ s) = is_tilde c

-- the component is the edition alone: it doesn't begin with `~`, and the four extended attributes are ANY
pub record Alone (w : Values) (s : List ℕ) : Type 0 where
  pub bare : begins_with_tilde s ≡ false
  pub edition : IsSpellingOf w.edition s
  pub others : AllByRecursion (λ a. value_of w a ≡ value.Any) extended

-- the component has a field for each of these attributes, with a tilde before the field and none in it
abbrev pub Fields : Values → List Attribute → List ℕ → Type 0
Fields w [] s = s ≡ []
Fields w (a ∷ rest) s = (field more : List ℕ) × (s ≡ 126 ∷ field ++ more) × IsSpellingOf (value_of w a) field × IsTrue (list_all (λ c. not (is_tilde c)) field) × Fields w rest more

-- the component spells the edition alone, or the edition packed with the four extended attributes
abbrev pub IsEditionSpelling : Values → List ℕ → Type 0
IsEditionSpelling w s = Alone w s ⊎ Fields w (Edition ∷ extended) s

-- ---- the whole URI

-- The name is in lower case, and has this URI of one to seven components. A missing component counts as empty.
pub record Uri (w : Values) (s : List ℕ) : Type 0 where
  pub name : IsName w
  pub lower : IsLower w
  pub prefix : List ℕ
  pub components : List (List ℕ)
  pub text : s ≡ prefix ++ join_with_byte 58 components
  pub begins : str_to_ascii_lowercase prefix ≡ codes "cpe:/"
  pub some : 1 ≤ length components
  pub few : length components ≤ 7
  pub part : IsSpellingOf w.part (get_or components 0 [])
  pub vendor : IsSpellingOf w.vendor (get_or components 1 [])
  pub product : IsSpellingOf w.product (get_or components 2 [])
  pub version : IsSpellingOf w.version (get_or components 3 [])
  pub update : IsSpellingOf w.update (get_or components 4 [])
  pub edition : IsEditionSpelling w (get_or components 5 [])
  pub language : IsSpellingOf w.language (get_or components 6 [])

-- some name has this URI
abbrev pub IsUri : List ℕ → Type 0
IsUri s = (w : Values) × Uri w s

-- no name has this text, and this is its place: the length of its longest beginning with which some URI begins
abbrev pub LeavesUri : List ℕ → ℕ → Type 0
LeavesUri s place = Leaves IsUri s place

-- What a fault says of a text. `At` has the place of a text that no name has. `Memory` means that some name has the
-- text.
abbrev pub RefusesUri : UriFault → List ℕ → Type 0
RefusesUri (fault.At place) s = LeavesUri s place
RefusesUri fault.Memory s = IsUri s
