-- Bytes of a URI that equal the bytes of the text that they spell. No public contract uses these definitions.
use Rattle.std.specs.Prelude.{ℕ, Bool, List, [], ◌∷◌}
use Rattle.std.specs.List.{list_all}
use Rattle.cpe_uri.specs.Spelling.{spells}

-- the byte spells itself: it may be bare, and it is no capital letter
abbrev pub spells_itself : ℕ → Bool
spells_itself c = spells c (c ∷ [])

-- each byte of the piece spells itself
abbrev pub spell_themselves : List ℕ → Bool
spell_themselves s = list_all spells_itself s

-- each byte of each piece spells itself
abbrev pub all_spell_themselves : List (List ℕ) → Bool
all_spell_themselves us = list_all spell_themselves us
