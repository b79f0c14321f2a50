-- Why three parts make no text (NIST IR 7695, 5.3): the faults, in the order in which they are tested.
use Rattle.std.specs.Prelude.{ℕ, Bool, true, false, not, ◌&&◌, ◌||◌, ◌==◌, List, [], ◌∷◌, length, position, Option, Some, None}
use Rattle.std.specs.Option.{option_map}
use Rattle.cpe_values.specs.declared.value.Edge.{Edge}
use Rattle.cpe_values.specs.declared.value.Edge.TheVariants as edge
use Rattle.cpe_values.specs.declared.value.ValueFault.{ValueFault}
use Rattle.cpe_values.specs.declared.value.ValueFault.TheVariants as fault
use Rattle.cpe_values.specs.Parts.{Parts, is_character, is_nothing}

-- this fault if the test is true, else none
abbrev cause : Bool → ValueFault → Option ValueFault
cause true f = Some f
cause false f = None

-- the first fault of a list, if there is one
abbrev first : List (Option ValueFault) → Option ValueFault
first [] = None
first (None ∷ causes) = first causes
first (Some f ∷ causes) = Some f

abbrev is_hyphen : List ℕ → Bool
is_hyphen [] = false
is_hyphen (c ∷ []) = c == 45
is_hyphen (c ∷ d ∷ cs) = false

-- the text is one hyphen without specials
abbrev pub is_lone_hyphen : Parts → Bool
is_lone_hyphen t = is_nothing t.lead && is_hyphen t.body && is_nothing t.trail

-- `Marks` with the number 0
abbrev pub has_no_marks : Edge → Bool
has_no_marks edge.None = false
has_no_marks edge.Star = false
has_no_marks (edge.Marks n) = n == 0

-- the first fault of three parts, or nothing if they make a text
abbrev pub first_value_fault : Parts → Option ValueFault
first_value_fault t = first (
    cause (length t.body == 0) fault.EmptyBody
    ∷ option_map fault.NotPrintable (position (λ c. not (is_character c)) t.body)
    ∷ cause (is_lone_hyphen t) fault.LoneHyphen
    ∷ cause (has_no_marks t.lead || has_no_marks t.trail) fault.ZeroMarks
    ∷ [])
