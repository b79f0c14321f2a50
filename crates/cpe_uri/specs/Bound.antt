-- The canonical URI of the name that has a text.
use Rattle.std.specs.Prelude.{ℕ, List, Option}
use Rattle.cpe_name.specs.Binding.{BindsBy, bound_by}
use Rattle.cpe_uri.specs.Canon.{canon}

-- some name that has the text `s` has the canonical URI `text`
abbrev pub BindsUri : List ℕ → List ℕ → Type 0
BindsUri s text = BindsBy canon s text

-- the canonical URI of the name that has the text, or nothing if no name has it; see the law `bound_uri_is`
unfoldable pub bound_uri : List ℕ → Option (List ℕ)
bound_uri s = bound_by canon s
