-- What a text means in a binding: its name, and the text of this name in another binding. The parameter `Has` says
-- which names have which texts.
use Rattle.std.specs.Prelude.{◌≡◌, ℕ, ◌-◌, List, ◌++◌, length, map, Option, Result, Ok, Err}
use Rattle.std.specs.Option.{option_map}
use Rattle.name_grammar.specs.Scanners.{Scanner}
use Rattle.cpe_name.specs.Eleven.{Values}
use Rattle.cpe_name.specs.Names.{named}
use Rattle.cpe_name.specs.Unwriting.{value_from}
use Rattle.cpe_name.specs.WfnText.{WfnText}
use Rattle.cpe_name.specs.Scanning.{all_at}

-- a name has the text `s`, and `text` is the text that `write` makes of this name
pub record SaysBy (Has : Values → List ℕ → Type 0) (write : Values → List ℕ) (s text : List ℕ) : Type 0 where
  pub name : Values
  pub has : Has name s
  pub is : text ≡ write name

-- a name has the text `s`, and the text that `write` makes of this name is appended to `old`
pub record PutsBy (Has : Values → List ℕ → Type 0) (write : Values → List ℕ) (s old new : List ℕ) : Type 0 where
  pub name : Values
  pub has : Has name s
  pub written : new ≡ old ++ write name

-- some name has this text
abbrev pub IsHad : (Values → List ℕ → Type 0) → List ℕ → Type 0
IsHad Has s = (name : Values) × Has name s

-- ---- from the text of a well-formed name to a binding

-- a name has the text `s` of a well-formed name, and is bound to `text`
abbrev pub BindsBy : (Values → List ℕ) → List ℕ → List ℕ → Type 0
BindsBy bind = SaysBy WfnText bind

-- a name has the text `s` of a well-formed name, and the text to which it is bound is appended to `old`
abbrev pub WritesBy : (Values → List ℕ) → List ℕ → List ℕ → List ℕ → Type 0
WritesBy bind = PutsBy WfnText bind

-- The text to which the name of `s` is bound, or nothing if no name has the text `s`. A law of each binding describes
-- `bound_by`.
unfoldable pub bound_by : (Values → List ℕ) → List ℕ → Option (List ℕ)
bound_by bind s = option_map (λ given. bind (named (map value_from given))) (all_at s)

-- ---- from a binding to a name

abbrev found_by : (List ℕ → Values) → List ℕ → Result (List ℕ) ℕ → Result Values ℕ
found_by names s (Ok rest) = Ok (names s)
found_by names s (Err left) = Err (length s - left)

-- The name of a text that the scanner takes whole, or the place at which the scanner stops. A law of each binding
-- describes `read_by`.
unfoldable pub read_by : Scanner → (List ℕ → Values) → List ℕ → Result Values ℕ
read_by whole names s = found_by names s (whole s)
