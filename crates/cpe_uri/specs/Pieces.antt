-- The pieces of a URI that spell the values of its name, as the scanners read them. Of the public definitions, only
-- `read_uri` uses them directly.
use Rattle.std.specs.Prelude.{ℕ, zero, suc, ◌-◌, Bool, true, false, if◌then◌else◌, List, [], ◌∷◌, length, take, drop, get_or, codes, Result, Ok, Err}
use Rattle.name_grammar.specs.Scanners.{Scanner}
use Rattle.cpe_name.specs.declared.attribute.Attribute.{Attribute}
use Rattle.cpe_name.specs.declared.attribute.Attribute.TheVariants.{Vendor, Product, Version, Update}
use Rattle.cpe_uri.specs.Grammar.{is_uri_colon, begins_with_tilde}
use Rattle.cpe_uri.specs.TextMachine.{text_end}
use Rattle.cpe_uri.specs.Languages.{part_end}
use Rattle.cpe_uri.specs.Scanning.{field_end, uri_component_end, later, later_end, prefix_end}

-- ---- what a scanner reads

abbrev pub rest_of_piece : Result (List ℕ) ℕ → List ℕ
rest_of_piece (Ok rest) = rest
rest_of_piece (Err left) = []

-- the bytes that are left after what the scanner reads
abbrev pub left_by : Scanner → List ℕ → List ℕ
left_by p s = rest_of_piece (p s)

-- the bytes of `s` before its end `rest`
abbrev pub prefix_before : List ℕ → List ℕ → List ℕ
prefix_before s rest = take (length s - length rest) s

abbrev pub piece : Scanner → List ℕ → List ℕ
piece p s = prefix_before s (left_by p s)

-- ---- components

abbrev pub begins_with_colon : List ℕ → Bool
begins_with_colon [] = false
begins_with_colon (c ∷ s) = is_uri_colon c

-- the bytes after a colon, or nothing if the text doesn't begin with a colon
abbrev pub behind_colon : List ℕ → List ℕ
behind_colon [] = []
behind_colon (c ∷ s) = if is_uri_colon c then s else []

-- the pieces of these attributes, each after a colon; a missing piece is empty
abbrev pub later_pieces : List Attribute → List ℕ → List (List ℕ)
later_pieces [] s = []
later_pieces (a ∷ rest) s = piece (uri_component_end a) (behind_colon s) ∷ later_pieces rest (left_by (later_end (uri_component_end a)) s)

-- the bytes that are left after the components of these attributes
abbrev pub left_of_components : List Attribute → List ℕ → List ℕ
left_of_components [] s = s
left_of_components (a ∷ rest) s = left_of_components rest (left_by (later_end (uri_component_end a)) s)

-- ---- the edition

-- the pieces of `n` fields, each after a tilde
abbrev pub field_pieces : ℕ → List ℕ → List (List ℕ)
field_pieces zero s = []
field_pieces (suc n) s = piece (text_end true) (drop 1 s) ∷ field_pieces n (left_by field_end s)

-- the pieces of the edition and of the four attributes that may be packed with it
abbrev pub edition_pieces : List ℕ → List (List ℕ)
edition_pieces s = if begins_with_tilde s then field_pieces 5 s else piece (text_end false) s ∷ [] ∷ [] ∷ [] ∷ [] ∷ []

-- ---- the whole URI

-- the pieces in the order of the attributes: `cs` has those of the components, and `es` those in the component of the
-- edition
abbrev pub in_order : List (List ℕ) → List (List ℕ) → List (List ℕ)
in_order cs es = get_or cs 0 [] ∷ get_or cs 1 [] ∷ get_or cs 2 [] ∷ get_or cs 3 [] ∷ get_or cs 4 [] ∷ get_or es 0 [] ∷ get_or cs 6 [] ∷ get_or es 1 [] ∷ get_or es 2 [] ∷ get_or es 3 [] ∷ get_or es 4 [] ∷ []

abbrev pub before_edition : List Attribute
before_edition = Vendor ∷ Product ∷ Version ∷ Update ∷ []

-- the pieces of a URI after its prefix
abbrev pub all_pieces : List ℕ → List (List ℕ)
all_pieces s = in_order (piece part_end s ∷ later_pieces later (left_by part_end s)) (edition_pieces (behind_colon (left_of_components before_edition (left_by part_end s))))

unfoldable pub pieces : List ℕ → List (List ℕ)
pieces s = all_pieces (left_by (prefix_end (codes "cpe:/")) s)
