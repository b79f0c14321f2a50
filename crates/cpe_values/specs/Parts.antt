-- A text as contracts see it: its lead, its body and its trail (NIST IR 7695, 5.3).
use Rattle.std.specs.Prelude.{◌≢◌, ℕ, ◌<◌, ◌^◌, Bool, true, false, not, ◌&&◌, ◌||◌, nat_le, IsTrue, List, [], ◌∷◌}
use Rattle.std.specs.List.{list_all}
use Rattle.cpe_values.specs.declared.value.Edge.{Edge}
use Rattle.cpe_values.specs.declared.value.Edge.TheVariants as edge

pub record Parts : Type 0 where
  pub lead : Edge
  pub body : List ℕ
  pub trail : Edge

abbrev pub parts : Edge → List ℕ → Edge → Parts
parts lead body trail = record { lead = lead; body = body; trail = trail }

-- a printable ASCII character, `!` to `~`
abbrev pub is_character : ℕ → Bool
is_character c = nat_le 33 c && nat_le c 126

-- a lawful lead or trail: nothing, an asterisk, or at least one and fewer than 2^32 question marks
abbrev pub IsEdge : Edge → Type 0
IsEdge edge.None = Unit {0}
IsEdge edge.Star = Unit {0}
IsEdge (edge.Marks n) = (0 < n) × (n < 2 ^ 32)

-- the lead or trail has no special
abbrev pub is_nothing : Edge → Bool
is_nothing edge.None = true
is_nothing edge.Star = false
is_nothing (edge.Marks n) = false

-- the text has a special before or after its body
abbrev pub has_special : Parts → Bool
has_special t = not (is_nothing t.lead) || not (is_nothing t.trail)

-- These parts make a text. The body has at least one character, and the whole is not a hyphen without specials.
pub record IsText (t : Parts) : Type 0 where
  pub lead : IsEdge t.lead
  pub characters : IsTrue (list_all is_character t.body)
  pub some : t.body ≢ []
  pub no_hyphen : t ≢ parts edge.None (45 ∷ []) edge.None
  pub trail : IsEdge t.trail
