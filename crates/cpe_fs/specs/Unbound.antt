-- What a text says as a formatted string: the name that has it, and this name's output text. If no name has the text,
-- it is the text's place.
use Rattle.std.specs.Prelude.{ℕ, List, drop, map, Result}
use Rattle.std.specs.Result.{result_map_both}
use Rattle.cpe_name.specs.Eleven.{Values}
use Rattle.cpe_name.specs.Names.{named, attributes}
use Rattle.cpe_name.specs.Text.{output_text}
use Rattle.cpe_name.specs.Binding.{SaysBy, read_by}
use Rattle.cpe_fs.specs.Grammar.{Fs}
use Rattle.cpe_fs.specs.Scanning.{whole_end}
use Rattle.cpe_fs.specs.Spans.{components_at}
use Rattle.cpe_fs.specs.SpanValues.{fs_value_at}

-- some name that has the formatted string `s` has the output text `text`
abbrev pub HasOutputText : List ℕ → List ℕ → Type 0
HasOutputText s text = SaysBy Fs output_text s text

-- the name whose values have the components of a formatted string
abbrev pub fs_name_of : List ℕ → Values
fs_name_of s = named (map fs_value_at (components_at attributes (drop 7 s)))

-- the name that has this formatted string, or the place of the text if no name has it; see the law `read_fs_is`
unfoldable pub read_fs : List ℕ → Result Values ℕ
read_fs s = read_by whole_end fs_name_of s

-- the output text of the name that has this formatted string, or the place of the text; see the law `unbound_is`
unfoldable pub unbound : List ℕ → Result (List ℕ) ℕ
unbound s = result_map_both output_text (λ (place : ℕ). place) (read_fs s)
