-- The spellings of leads and trails, of bodies, and of bodies with trails (NIST IR 7695, 5.3 and 6.2).
use Rattle.std.specs.Prelude.{◌≡◌, ℕ, List, ◌∷◌, ◌++◌, IsTrue}
use Rattle.std.specs.List.{flat_map, list_all}
use Rattle.cpe_values.specs.declared.value.Edge.{Edge}
use Rattle.cpe_values.specs.declared.spelling.Style.{Style}
use Rattle.cpe_values.specs.Parts.{IsEdge, is_character}
use Rattle.cpe_values.specs.Spelling.{edge_text, style_character}
use Rattle.name_grammar.specs.Scanned.{HeadFails}
use Rattle.cpe_values.specs.Scanning.{is_star, is_mark, starts_body}

-- each byte of the body is printable
abbrev pub AreCharacters : List ℕ → Type 0
AreCharacters b = IsTrue (list_all is_character b)

-- the spelling of a body
abbrev pub body_text : Style → List ℕ → List ℕ
body_text here b = flat_map (style_character here) b

-- the bytes are the spelling of a lead or a trail, which may be empty
pub record IsEdgeText (u : List ℕ) : Type 0 where
  pub edge : Edge
  pub good : IsEdge edge
  pub is : u ≡ edge_text edge

-- the bytes are the spelling of a body of at least one character and of a trail
pub record IsStem (here : Style) (u : List ℕ) : Type 0 where
  pub first : ℕ
  pub bytes : List ℕ
  pub printable : AreCharacters (first ∷ bytes)
  pub trail : Edge
  pub good : IsEdge trail
  pub is : u ≡ body_text here (first ∷ bytes) ++ edge_text trail

-- the bytes begin with no special and no character of a body, so a body and trail before them end there
pub record EndsStem (here : Style) (r : List ℕ) : Type 0 where
  pub star : HeadFails is_star r
  pub mark : HeadFails is_mark r
  pub body : HeadFails (starts_body here) r
