-- A machine that reads a component of a URI byte by byte, in the same form as in `src/`. Of the public definitions,
-- only `read_uri` uses it directly.
use Rattle.std.specs.Prelude.{ℕ, ◌+◌, ◌*◌, Bool, true, false, not, ◌&&◌, ◌||◌, ◌==◌, nat_le, nat_lt, if◌then◌else◌, Option, Some, None, is_some, List, [], ◌∷◌, length, Result, Ok, Err}
use Rattle.std.specs.Option.{option_map}
use Rattle.name_grammar.specs.Scanners.{Scanner}
use Rattle.name_grammar.specs.Machines.{machine}
use Rattle.cpe_values.specs.Parts.{is_character}
use Rattle.cpe_values.specs.Spelling.{is_bare}
use Rattle.cpe_values.specs.declared.spelling.Style.TheVariants as style
use Rattle.cpe_uri.specs.Spelling.{is_hex, hex_value, has_percent_form}
use Rattle.cpe_uri.specs.declared.text.Stage.{Stage}
use Rattle.cpe_uri.specs.declared.text.Stage.TheVariants.{Start, Na, Hyphen, LeadStar, LeadMarks, Body, TrailMarks, TrailStar}
use Rattle.cpe_uri.specs.declared.text.TextState.{TextState}
use Rattle.cpe_uri.specs.declared.text.TextState.TheVariants.{Whole, Percent, Half}

-- ---- whole characters and specials

-- the stage after a question mark
abbrev pub after_mark : Stage → Option Stage
after_mark Start = Some (LeadMarks 1)
after_mark Na = Some (TrailMarks 1)
after_mark Hyphen = Some (TrailMarks 1)
after_mark LeadStar = None
after_mark (LeadMarks n) = if nat_lt n 4294967295 then Some (LeadMarks (n + 1)) else None
after_mark Body = Some (TrailMarks 1)
after_mark (TrailMarks n) = if nat_lt n 4294967295 then Some (TrailMarks (n + 1)) else None
after_mark TrailStar = None

-- the stage after an asterisk
abbrev pub after_star : Stage → Option Stage
after_star Start = Some LeadStar
after_star Na = Some TrailStar
after_star Hyphen = Some TrailStar
after_star LeadStar = None
after_star (LeadMarks n) = None
after_star Body = Some TrailStar
after_star (TrailMarks n) = None
after_star TrailStar = None

-- a character may follow
abbrev pub takes_character : Stage → Bool
takes_character Start = true
takes_character Na = true
takes_character Hyphen = true
takes_character LeadStar = true
takes_character (LeadMarks n) = true
takes_character Body = true
takes_character (TrailMarks n) = false
takes_character TrailStar = false

abbrev pub is_start : Stage → Bool
is_start Start = true
is_start Na = false
is_start Hyphen = false
is_start LeadStar = false
is_start (LeadMarks n) = false
is_start Body = false
is_start (TrailMarks n) = false
is_start TrailStar = false

-- the stage after a character; a hyphen at the beginning may not be the whole component
abbrev pub after_character : Stage → ℕ → Option Stage
after_character q c = if takes_character q then Some (if is_start q && c == 45 then Hyphen else Body) else None

-- the stage after the character or special with this code
abbrev pub next : Stage → ℕ → Option Stage
next q c = if c == 1 then after_mark q else (if c == 2 then after_star q else (if is_character c then after_character q c else None))

-- the component may end
abbrev pub is_over : Stage → Bool
is_over Start = true
is_over Na = true
is_over Hyphen = false
is_over LeadStar = false
is_over (LeadMarks n) = false
is_over Body = true
is_over (TrailMarks n) = true
is_over TrailStar = true

-- ---- bytes

-- the byte may be bare; a tilde may be bare except in a packed field
abbrev pub is_bare_here : Bool → ℕ → Bool
is_bare_here packed b = is_bare style.Formatted b || b == 126 && not packed

-- `%0` may follow, because a special may follow
abbrev pub takes_special : Stage → Bool
takes_special q = is_some (after_mark q) || is_some (after_star q)

-- a percent sign and this digit may follow: 0 for a special, 2 to 7 for a character
abbrev pub takes_digit : Stage → ℕ → Bool
takes_digit q h = if h == 0 then takes_special q else nat_le 2 h && nat_le h 7 && takes_character q

abbrev pub after_bare : Stage → ℕ → Option TextState
after_bare q b = if is_start q && b == 45 then Some (Whole Na) else option_map Whole (next q b)

abbrev pub after_percent : Stage → Option TextState
after_percent q = if takes_character q || takes_special q then Some (Percent q) else None

abbrev pub after_digit : Stage → ℕ → Option TextState
after_digit q h = if takes_digit q h then Some (Half q h) else None

abbrev pub after_code : Stage → ℕ → Option TextState
after_code q c = if has_percent_form c then option_map Whole (next q c) else None

-- the state after one more byte, in a packed field or not
abbrev pub text_step : Bool → TextState → ℕ → Option TextState
text_step packed (Whole q) b = if b == 37 then after_percent q else (if is_bare_here packed b then after_bare q b else None)
text_step packed (Percent q) b = if is_hex b then after_digit q (hex_value b) else None
text_step packed (Half q h) b = if is_hex b then after_code q (16 * h + hex_value b) else None

abbrev pub may_end : TextState → Bool
may_end (Whole q) = is_over q
may_end (Percent q) = false
may_end (Half q h) = false

-- the byte begins a body at the beginning of a component: a bare character except the hyphen, which may be NA
abbrev pub begins_body : ℕ → Bool
begins_body b = is_bare style.Formatted b && not (b == 45)

-- the machine has read a character of a body, and nothing after it
abbrev pub is_in_body : TextState → Bool
is_in_body (Whole Start) = false
is_in_body (Whole Na) = false
is_in_body (Whole Hyphen) = false
is_in_body (Whole LeadStar) = false
is_in_body (Whole (LeadMarks n)) = false
is_in_body (Whole Body) = true
is_in_body (Whole (TrailMarks n)) = false
is_in_body (Whole TrailStar) = false
is_in_body (Percent q) = false
is_in_body (Half q h) = false

-- the component ends before these bytes, if it may end
abbrev pub ends_component : List ℕ → Bool
ends_component [] = true
ends_component (c ∷ s) = c == 58

-- the bytes left if the component may end, and otherwise their number as an error
abbrev pub finished : TextState → List ℕ → Result (List ℕ) ℕ
finished q s = if may_end q then Ok s else Err (length s)

-- the scanner that reads a component from this state on
abbrev pub read_from : Bool → TextState → Scanner
read_from packed = machine (text_step packed) may_end

-- the scanner of a component of ANY, NA or a text
unfoldable pub text_end : Bool → Scanner
text_end packed s = read_from packed (Whole Start) s
