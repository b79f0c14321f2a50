-- The numbers of rows, their limits, and the limit of an entry's ends.
use Rattle.std.specs.Prelude.{◌≡◌, ℕ, List, [], ◌∷◌, length, Bool, false, nat_lt}
use Rattle.std.specs.List.{list_any}
use Rattle.cpe_rows.specs.Rows.{Rows}
use Rattle.cpe_rows.specs.Chains.{ends}
use Rattle.cpe_rows.specs.FactNames.{number_of_facts}
use Rattle.cpe_rows.specs.Weight.{weight}
use Rattle.cpe_rows.specs.declared.entry.Entry.{Entry}
use Rattle.cpe_rows.specs.declared.fault.Which.{Which}
use Rattle.cpe_rows.specs.declared.fault.Which.TheVariants as limit
use Rattle.cpe_rows.specs.declared.limits.TheConstants.{MOST_ENTRIES, MOST_ITEMS, MOST_STATEMENTS, MOST_FACTS, MOST_CHECKS, MOST_WEIGHT, MOST_ENDS}

abbrev pub number_of : Which → Rows → ℕ
number_of limit.Entries rows = length rows.entries
number_of limit.Items rows = length rows.items
number_of limit.Statements rows = length rows.statements
number_of limit.Facts rows = number_of_facts rows.statements
number_of limit.Checks rows = length rows.checks
number_of limit.Weight rows = weight rows

-- the highest number allowed
abbrev pub most : Which → ℕ
most limit.Entries = MOST_ENTRIES
most limit.Items = MOST_ITEMS
most limit.Statements = MOST_STATEMENTS
most limit.Facts = MOST_FACTS
most limit.Checks = MOST_CHECKS
most limit.Weight = MOST_WEIGHT

-- all quantities that have a limit, in the order in which they are tested
abbrev pub limited : List Which
limited = limit.Entries ∷ limit.Items ∷ limit.Statements ∷ limit.Facts ∷ limit.Checks ∷ limit.Weight ∷ []

abbrev pub exceeds : Rows → Which → Bool
exceeds rows which = nat_lt (most which) (number_of which rows)

-- No number of the rows exceeds its limit.
abbrev pub AreWithin : Rows → Type 0
AreWithin rows = list_any (exceeds rows) limited ≡ false

-- The entry has more ends than allowed.
abbrev pub is_wide : List Entry → Entry → Bool
is_wide entries e = nat_lt MOST_ENDS (length (ends entries e.name))
