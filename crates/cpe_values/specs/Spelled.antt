-- The spellings of texts (NIST IR 7695, 5.3 and 6.2).
use Rattle.std.specs.Prelude.{◌≡◌, ℕ, List}
use Rattle.cpe_values.specs.declared.spelling.Style.{Style}
use Rattle.cpe_values.specs.Parts.{Parts, IsText}
use Rattle.cpe_values.specs.Spelling.{spelling}

-- some text has this spelling, in one of the styles
pub record IsSpelling (s : List ℕ) : Type 0 where
  pub spelled_in : Style
  pub text : Parts
  pub good : IsText text
  pub spells : spelling spelled_in text ≡ s
