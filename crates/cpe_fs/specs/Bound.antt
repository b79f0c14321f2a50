-- The formatted string of the name that has a text.
use Rattle.std.specs.Prelude.{ℕ, List, Option}
use Rattle.cpe_name.specs.Binding.{BindsBy, bound_by}
use Rattle.cpe_fs.specs.Grammar.{fs_text}

-- some name that has the text `s` has the formatted string `text`
abbrev pub Binds : List ℕ → List ℕ → Type 0
Binds s text = BindsBy fs_text s text

-- the formatted string of the name that has the text, or nothing if no name has it; see the law `bound_is`
unfoldable pub bound : List ℕ → Option (List ℕ)
bound s = bound_by fs_text s
