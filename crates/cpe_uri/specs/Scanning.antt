-- The scanner of whole URIs, in the same form as in `src/`. Of the public definitions, only `read_uri` uses it
-- directly. The law `read_uri_is` says what `read_uri` returns, by the grammar alone.
use Rattle.std.specs.Prelude.{ℕ, zero, suc, List, [], ◌∷◌, false, true, ◌==◌, codes, Ok}
use Rattle.std.specs.Char.{to_ascii_lowercase}
use Rattle.name_grammar.specs.Scanners.{Scanner, ◌>>=◌, scan_both, choose, nothing, scan_ending, scan_one}
use Rattle.cpe_name.specs.declared.attribute.Attribute.{Attribute}
use Rattle.cpe_name.specs.declared.attribute.Attribute.TheVariants.{Part, Vendor, Product, Version, Update, Edition, Language, SwEdition, TargetSw, TargetHw, Other}
use Rattle.cpe_uri.specs.Grammar.{is_tilde, is_uri_colon}
use Rattle.cpe_uri.specs.TextMachine.{text_end}
use Rattle.cpe_uri.specs.Languages.{part_end, language_end}

-- ---- the component of the edition

-- a tilde and a field
unfoldable pub field_end : Scanner
field_end s = scan_one is_tilde s >>= text_end true

-- `n` fields, each after a tilde
abbrev pub uri_fields_end : ℕ → Scanner
uri_fields_end zero s = Ok s
uri_fields_end (suc n) s = field_end s >>= uri_fields_end n

unfoldable pub packed_end : Scanner
packed_end s = uri_fields_end 5 s

-- the component of the edition: packed, or the edition alone
unfoldable pub edition_end : Scanner
edition_end s = choose is_tilde packed_end (text_end false) s

-- ---- components

abbrev pub uri_component_end : Attribute → Scanner
uri_component_end Part = part_end
uri_component_end Vendor = text_end false
uri_component_end Product = text_end false
uri_component_end Version = text_end false
uri_component_end Update = text_end false
uri_component_end Edition = edition_end
uri_component_end Language = language_end
uri_component_end SwEdition = text_end true
uri_component_end TargetSw = text_end true
uri_component_end TargetHw = text_end true
uri_component_end Other = text_end true

-- the attributes after the part that have components of their own
abbrev pub later : List Attribute
later = Vendor ∷ Product ∷ Version ∷ Update ∷ Edition ∷ Language ∷ []

-- a colon and a component, or nothing if there is no colon
unfoldable pub later_end : Scanner → Scanner
later_end component s = choose is_uri_colon (scan_both (scan_one is_uri_colon) component) nothing s

-- the components of these attributes, one after the other
abbrev pub components_end : List Attribute → Scanner
components_end [] s = Ok s
components_end (a ∷ rest) s = later_end (uri_component_end a) s >>= components_end rest

-- ---- the whole URI

-- these bytes, with letters in either case
abbrev pub prefix_end : List ℕ → Scanner
prefix_end [] s = Ok s
prefix_end (c ∷ cs) s = scan_one (λ d. to_ascii_lowercase d == c) s >>= prefix_end cs

-- the component of the part, and the components after it
unfoldable pub all_end : Scanner
all_end s = part_end s >>= components_end later

-- the prefix, the components, and the end of the text
unfoldable pub whole_end : Scanner
whole_end s = prefix_end (codes "cpe:/") s >>= scan_both all_end scan_ending
