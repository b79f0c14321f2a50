-- Giving all entries their deprecations in one call (NIST IR 7697).
use Rattle.std.specs.Prelude.{◌∷◌, List, [], Option}
use Rattle.cpe_rows.specs.declared.entry.Entry.{Entry}
use Rattle.cpe_rows.specs.declared.entry.Deprecation.{Deprecation}
use Rattle.cpe_dictionary.specs.declared.kept.EntryDetails.{EntryDetails}

-- each entry with the deprecation at its place, or none; its notes are unchanged
abbrev pub each_deprecated : List Entry → List (Option Deprecation) → List Entry
each_deprecated [] ds = []
each_deprecated (e ∷ es) [] = e ∷ es
each_deprecated (e ∷ es) (d ∷ ds) = record e { deprecation = d } ∷ each_deprecated es ds

-- each entry's details with the deprecation at its place, or none; notes are unchanged
abbrev pub details_given : List EntryDetails → List (Option Deprecation) → List EntryDetails
details_given [] ds = []
details_given (x ∷ xs) [] = x ∷ xs
details_given (x ∷ xs) (d ∷ ds) = record x { deprecation = d } ∷ details_given xs ds
