-- How to find a name without specials that covers another: by the attributes at which it is ANY. No public clause uses these definitions.
use Rattle.std.specs.Prelude.{◌≡◌, Bool, true, false, ◌&&◌, ◌||◌, not, List, [], ◌∷◌, if◌then◌else◌}
use Rattle.std.specs.List.{list_all, list_any}
use Rattle.cpe_rows.specs.cpe_values.declared.value.Value.{Value}
use Rattle.cpe_rows.specs.cpe_values.declared.value.Value.TheVariants as value
use Rattle.cpe_rows.specs.cpe_name.Eleven.{Values, put}
use Rattle.cpe_rows.specs.cpe_name.declared.attribute.Attribute.{Attribute}
use Rattle.cpe_rows.specs.cpe_name.Names.{attributes, value_of}
use Rattle.cpe_rows.specs.Names.{has_wildcards}
use Rattle.cover_lines.specs.Cover.{covers_other}
use Rattle.cover_lines.specs.Laws.{is_among}

abbrev pub is_any_value : Value → Bool
is_any_value value.Any = true
is_any_value value.Na = false
is_any_value (value.Text t) = false

abbrev pub any_at : Values → Attribute → Bool
any_at n w = is_any_value (value_of n w)

-- both names are ANY at the same attributes: they have the same shape
abbrev pub same_shape : Values → Values → Bool
same_shape a b = list_all (λ w. if any_at a w then any_at b w else not (any_at b w)) attributes

-- the first name is ANY at each attribute at which the second is
abbrev pub is_as_wide : Values → Values → Bool
is_as_wide a b = list_all (λ w. any_at a w || not (any_at b w)) attributes

-- the first name is ANY at each attribute at which the second is, and at others too: its shape is wider
abbrev pub is_wider : Values → Values → Bool
is_wider a b = is_as_wide a b && not (same_shape a b)

-- the name with ANY at this attribute, if the shape is ANY there
abbrev pub widened_at : Values → Values → Attribute → Values
widened_at shape n w = if any_at shape w then put n w value.Any else n

abbrev pub widened_from : Values → Values → List Attribute → Values
widened_from shape n [] = n
widened_from shape n (w ∷ ws) = widened_from shape (widened_at shape n w) ws

-- the name with ANY at each attribute at which the shape is
unfoldable pub widened : Values → Values → Values
widened shape n = widened_from shape n attributes

-- the shape is wider than the shape of the name, and the name widened by it is one of the names
abbrev pub finds_wider : List Values → Values → Values → Bool
finds_wider names n shape = is_wider shape n && is_among names (widened shape n)

-- the shape of each of the names without specials is among these shapes
abbrev pub AreShapes : List Values → List Values → Type 0
AreShapes names shapes = (m : Values) → is_among names m ≡ true → has_wildcards m ≡ false → list_any (same_shape m) shapes ≡ true

-- another of the names has no special and covers this name
abbrev pub is_under : List Values → Values → Bool
is_under names n = list_any (λ m. not (has_wildcards m) && covers_other m n) names
