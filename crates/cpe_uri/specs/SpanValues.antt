-- The value that a piece of a URI spells. A piece spells at most one value. Of the public definitions, only `read_uri`
-- uses this directly.
use Rattle.std.specs.Prelude.{ℕ, ◌==◌, List, length, if◌then◌else◌}
use Rattle.std.specs.List.{AllByRecursion}
use Rattle.cpe_values.specs.declared.value.Value.{Value}
use Rattle.cpe_values.specs.declared.value.Value.TheVariants as value
use Rattle.cpe_values.specs.Values.{IsValue}
use Rattle.cpe_values.specs.Unspelling.{parts_at}
use Rattle.cpe_uri.specs.Spelling.{IsSpellingOf}
use Rattle.cpe_uri.specs.Rewriting.{rewritten, is_uri_hyphen}

abbrev pub uri_value_at : List ℕ → Value
uri_value_at s = if length s == 0 then value.Any else (if is_uri_hyphen s then value.Na else value.Text (parts_at (rewritten s)))

-- the piece spells some value
pub record IsUriSpan (s : List ℕ) : Type 0 where
  pub value : Value
  pub good : IsValue value
  pub present : IsSpellingOf value s

-- each piece spells some value
abbrev pub AreSpans : List (List ℕ) → Type 0
AreSpans us = AllByRecursion IsUriSpan us
