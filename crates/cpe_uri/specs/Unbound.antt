-- What a text says as a URI: the name that has it, and this name's output text. If no name has the text, it is the
-- text's place.
use Rattle.std.specs.Prelude.{ℕ, List, map, Result}
use Rattle.std.specs.Result.{result_map_both}
use Rattle.cpe_name.specs.Eleven.{Values}
use Rattle.cpe_name.specs.Names.{named}
use Rattle.cpe_name.specs.Text.{output_text}
use Rattle.cpe_name.specs.Binding.{SaysBy, read_by}
use Rattle.cpe_uri.specs.Grammar.{Uri}
use Rattle.cpe_uri.specs.Pieces.{pieces}
use Rattle.cpe_uri.specs.Scanning.{whole_end}
use Rattle.cpe_uri.specs.SpanValues.{uri_value_at}

-- some name that has the URI `s` has the output text `text`
abbrev pub SaysUri : List ℕ → List ℕ → Type 0
SaysUri s text = SaysBy Uri output_text s text

-- the name whose values the pieces of a URI spell
abbrev pub uri_name_of : List ℕ → Values
uri_name_of s = named (map uri_value_at (pieces s))

-- the name that has this URI, or the place of the text if no name has it; see the law `read_uri_is`
unfoldable pub read_uri : List ℕ → Result Values ℕ
read_uri s = read_by whole_end uri_name_of s

-- the output text of the name that has this URI, or the place of the text; see the law `unbound_uri_is`
unfoldable pub unbound_uri : List ℕ → Result (List ℕ) ℕ
unbound_uri s = result_map_both output_text (λ (place : ℕ). place) (read_uri s)
