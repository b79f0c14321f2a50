-- The four truths and their tables.
use Rattle.std.specs.Prelude.{List, [], ◌∷◌, Bool, true, false, if◌then◌else◌}
use Rattle.std.specs.List.{list_any}
use Rattle.cpe_rows.specs.declared.truth.Truth.{Truth}
use Rattle.cpe_rows.specs.declared.truth.Truth.TheVariants.{True, False, Error, Unknown}

abbrev pub same_truth : Truth → Truth → Bool
same_truth True True = true
same_truth False False = true
same_truth Error Error = true
same_truth Unknown Unknown = true
same_truth _ _ = false

-- the first truth of the order that is in the list `ts`, or else `last`
abbrev pub first_of : List Truth → Truth → List Truth → Truth
first_of [] last ts = last
first_of (t ∷ order) last ts = if list_any (same_truth t) ts then t else first_of order last ts

-- AND of a list: the first of FALSE, ERROR, UNKNOWN and TRUE that is in the list
abbrev pub and_all : List Truth → Truth
and_all = first_of (False ∷ Error ∷ Unknown ∷ []) True

-- OR of a list: the first of TRUE, ERROR, UNKNOWN and FALSE that is in the list
abbrev pub or_all : List Truth → Truth
or_all = first_of (True ∷ Error ∷ Unknown ∷ []) False

abbrev pub and_of : Truth → Truth → Truth
and_of a b = and_all (a ∷ b ∷ [])

abbrev pub or_of : Truth → Truth → Truth
or_of a b = or_all (a ∷ b ∷ [])

-- the negation: TRUE and FALSE are exchanged, and the two others are unchanged
abbrev pub not_of : Truth → Truth
not_of True = False
not_of False = True
not_of Error = Error
not_of Unknown = Unknown
