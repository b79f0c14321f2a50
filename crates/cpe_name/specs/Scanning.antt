-- Scanners of the text of a well-formed name, as the code has them. `bound_by` is the only public definition that uses
-- them. A law of each binding describes `bound_by`.
use Rattle.std.specs.Prelude.{◌≡◌, ℕ, zero, suc, ◌-◌, List, [], ◌∷◌, ◌++◌, length, take, map, get_or, codes, Bool, true, false, not, ◌&&◌, ◌||◌, ◌==◌, Result, Ok, Err, Option, Some, None, if◌then◌else◌}
use Rattle.name_grammar.specs.Scanners.{Scanner, ◌>>=◌, choose, scan_one, literal}
use Rattle.cpe_values.specs.declared.spelling.Style.TheVariants as style
use Rattle.cpe_values.specs.Spelling.{is_letter, is_digit}
use Rattle.cpe_values.specs.Scanning.{edge_end, stem_end}
use Rattle.cpe_name.specs.declared.attribute.Attribute.{Attribute}
use Rattle.cpe_name.specs.declared.attribute.Attribute.TheVariants.{Part, Language}
use Rattle.cpe_name.specs.Names.{attributes}
use Rattle.cpe_name.specs.Shapes.{is_part_letter}
use Rattle.cpe_name.specs.Text.{attribute_name}
use Rattle.cpe_name.specs.WfnText.{attribute_rank, same_attribute}

-- ---- texts between double quotes

abbrev pub is_quote : ℕ → Bool
is_quote c = c == 34

-- takes a lead, a body and a trail between double quotes
unfoldable pub quoted_end : Scanner
quoted_end s = scan_one is_quote s >>= edge_end >>= stem_end style.Wfn >>= scan_one is_quote

-- ---- values

abbrev pub begins_any : ℕ → Bool
begins_any c = c == 65

abbrev pub begins_na : ℕ → Bool
begins_na c = c == 78

-- takes `ANY`, `NA`, or a text between double quotes
unfoldable pub value_end : Scanner
value_end s = choose begins_any (literal (codes "ANY")) (choose begins_na (literal (codes "NA")) quoted_end) s

-- the bytes of `s` before its end `rest`
abbrev pub text_between : List ℕ → List ℕ → List ℕ
text_between s rest = take (length s - length rest) s

abbrev pub cut : List ℕ → Result (List ℕ) ℕ → Option (List ℕ × List ℕ)
cut s (Ok rest) = Some (text_between s rest, rest)
cut s (Err left) = None

-- the text of a value, and the bytes after it
unfoldable pub value_at : List ℕ → Option (List ℕ × List ℕ)
value_at s = cut s (value_end s)

-- the text is one hyphen between double quotes, which no value has
abbrev pub is_lone : List ℕ → Bool
is_lone [] = false
is_lone (a ∷ []) = false
is_lone (a ∷ b ∷ []) = false
is_lone (a ∷ b ∷ c ∷ []) = false
is_lone (a ∷ b ∷ c ∷ d ∷ []) = a == 34 && b == 92 && c == 45 && d == 34
is_lone (a ∷ b ∷ c ∷ d ∷ e ∷ s) = false

abbrev pub is_part_in_quotes : List ℕ → Bool
is_part_in_quotes [] = false
is_part_in_quotes (c ∷ []) = false
is_part_in_quotes (c ∷ q ∷ []) = is_part_letter c && q == 34
is_part_in_quotes (c ∷ q ∷ d ∷ s) = false

-- a text between quotes has to be that of a part; any other text passes
abbrev pub is_part_text : List ℕ → Bool
is_part_text [] = true
is_part_text (c ∷ s) = if c == 34 then is_part_in_quotes s else true

-- the bytes are a region, or nothing, and then the closing quote
abbrev pub is_region_behind : List ℕ → Bool
is_region_behind [] = false
is_region_behind (q ∷ []) = q == 34
is_region_behind (s ∷ h ∷ []) = false
is_region_behind (s ∷ h ∷ a ∷ []) = false
is_region_behind (s ∷ h ∷ a ∷ b ∷ []) = false
is_region_behind (s ∷ h ∷ a ∷ b ∷ q ∷ []) = s == 92 && h == 45 && is_letter a && is_letter b && q == 34
is_region_behind (s ∷ h ∷ a ∷ b ∷ c ∷ q ∷ []) = s == 92 && h == 45 && is_digit a && is_digit b && is_digit c && q == 34
is_region_behind (s ∷ h ∷ a ∷ b ∷ c ∷ q ∷ d ∷ t) = false

abbrev pub is_language_in_quotes : List ℕ → Bool
is_language_in_quotes [] = false
is_language_in_quotes (a ∷ []) = false
is_language_in_quotes (a ∷ b ∷ []) = false
is_language_in_quotes (a ∷ b ∷ c ∷ s) = is_letter a && is_letter b && (is_region_behind (c ∷ s) || is_letter c && is_region_behind s)

-- a text between quotes has to be that of a language; any other text passes
abbrev pub is_language_text : List ℕ → Bool
is_language_text [] = true
is_language_text (c ∷ s) = if c == 34 then is_language_in_quotes s else true

abbrev pub has_text_shape : Attribute → List ℕ → Bool
has_text_shape Part u = is_part_text u
has_text_shape Language u = is_language_text u
has_text_shape _ u = true

-- the attribute may have the value with this text
abbrev pub may_have_text : Attribute → List ℕ → Bool
may_have_text a u = not (is_lone u) && has_text_shape a u

-- ---- attributes

-- a function of the code returned the same as a definition, after `view` is applied to the code's result
abbrev pub FindsView : {X Y : Type 0} → (X → Y) → Option X → Option Y → Type 0
FindsView view (Some x) found = found ≡ Some (view x)
FindsView view None found = found ≡ None

infixl 10 ◌>>?◌
abbrev pub ◌>>?◌ : {A B : Type 0} → Option A → (A → Option B) → Option B
(Some x) >>? f = f x
None >>? f = None

abbrev pub left_of_scan : Result (List ℕ) ℕ → Option (List ℕ)
left_of_scan (Ok rest) = Some rest
left_of_scan (Err left) = None

-- the bytes after `cs`, if `s` begins with it
unfoldable pub after_at : List ℕ → List ℕ → Option (List ℕ)
after_at cs s = left_of_scan (literal cs s)

-- the name of an attribute, and `=`
abbrev pub key_text : Attribute → List ℕ
key_text a = attribute_name a ++ 61 ∷ []

abbrev pub or_found : Option (List ℕ) → Attribute → Option (Attribute × List ℕ) → Option (Attribute × List ℕ)
or_found (Some rest) a other = Some (a, rest)
or_found None a other = other

-- the attribute among these whose name is at the start, and the bytes after its name and `=`
unfoldable pub name_at : List Attribute → List ℕ → Option (Attribute × List ℕ)
name_at [] s = None
name_at (a ∷ which) s = or_found (after_at (key_text a) s) a (name_at which s)

-- an attribute, and the text of a value that it may have
unfoldable pub item_at : List ℕ → Option ((Attribute × List ℕ) × List ℕ)
item_at s = name_at attributes s >>? λ x. value_at x.1 >>? λ y. if may_have_text x.0 y.0 then Some ((x.0, y.0), y.1) else None

unfoldable pub skip : List ℕ → List ℕ
skip [] = []
skip (c ∷ s) = if c == 32 then skip s else c ∷ s

-- nothing at the end of the text, else the bytes after a comma and spaces
unfoldable pub next_at : List ℕ → Option (Option (List ℕ))
next_at [] = None
next_at (c ∷ s) = if c == 44 then Some (Some (skip s)) else (if c == 93 && length s == 0 then Some None else None)

-- ---- the texts of the values, in the order of the attributes (empty if an attribute was not given)

abbrev pub slot : List (List ℕ) → Attribute → List ℕ
slot l a = get_or l (attribute_rank a) []

abbrev pub put_text : List (List ℕ) → Attribute → List ℕ → List (List ℕ)
put_text l a u = map (λ b. if same_attribute a b then u else slot l b) attributes

abbrev pub none_given : List (List ℕ)
none_given = map (λ _. []) attributes

abbrev pub is_some_text : List ℕ → Bool
is_some_text [] = false
is_some_text (c ∷ s) = true

-- takes one attribute that was not given before; returns all texts and what follows this attribute
unfoldable pub step_at : List (List ℕ) → List ℕ → Option (List (List ℕ) × Option (List ℕ))
step_at l s = item_at s >>? λ x. if is_some_text (slot l x.0.0) then None else (next_at x.1 >>? λ next. Some (put_text l x.0.0 x.0.1, next))

abbrev pub go_on : Option (List ℕ) → List (List ℕ) → (List ℕ → Option (List (List ℕ))) → Option (List (List ℕ))
go_on None l more = Some l
go_on (Some s) l more = more s

-- takes at most n attributes, none of which was given before
unfoldable pub list_at : ℕ → List (List ℕ) → List ℕ → Option (List (List ℕ))
list_at zero l s = None
list_at (suc n) l s = step_at l s >>? λ x. go_on x.1 x.0 (list_at n x.0)

abbrev pub is_text_end : List ℕ → Bool
is_text_end [] = false
is_text_end (c ∷ []) = c == 93
is_text_end (c ∷ d ∷ s) = false

abbrev pub list_or_end : List ℕ → Option (List (List ℕ))
list_or_end s = if is_text_end s then Some none_given else list_at 11 none_given s

-- takes the whole text
unfoldable pub all_at : List ℕ → Option (List (List ℕ))
all_at s = after_at (codes "wfn:[") s >>? list_or_end
