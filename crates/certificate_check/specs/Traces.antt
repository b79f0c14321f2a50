-- Traces: lists of names from a name to one of its ends.
use Rattle.std.specs.Prelude.{◌≡◌, ◌⊎◌, List, [], ◌∷◌, true, false, Some, None}
use Rattle.std.specs.List.{last_or}
use Rattle.cpe_rows.specs.cpe_name.Eleven.{Values}
use Rattle.cpe_rows.specs.Rows.{Rows, is_entry}
use Rattle.cpe_rows.specs.Chains.{successors_of, is_active}
use Rattle.cpe_rows.specs.Reach.{Among}
use Rattle.cpe_rows.specs.declared.entry.Entry.{Entry}
use Rattle.cpe_rows.specs.declared.statement.Mode.{Mode}
use Rattle.cpe_rows.specs.declared.statement.Mode.TheVariants.{Plain, Follow}

-- an entry that isn't deprecated has this name
abbrev pub IsActive : List Entry → Values → Type 0
IsActive entries n = (e : Entry) × Among entries e × (e.name ≡ n) × (is_active e ≡ true)

-- an entry has the first name, and the second name is one of its successors
abbrev pub Precedes : List Entry → Values → Values → Type 0
Precedes entries n m = (e : Entry) × Among entries e × (e.name ≡ n) × Among (successors_of e) m

-- the names of a path of entries: each entry is a successor of the entry before, and the last isn't deprecated
abbrev pub IsPath : List Entry → List Values → Type 0
IsPath entries [] = ⊥
IsPath entries (n ∷ []) = IsActive entries n
IsPath entries (n ∷ m ∷ names) = Precedes entries n m × IsPath entries (m ∷ names)

abbrev pub BeginsWithName : Values → List Values → Type 0
BeginsWithName n [] = ⊥
BeginsWithName n (m ∷ names) = m ≡ n

abbrev pub EndsWith : Values → List Values → Type 0
EndsWith n names = last_or None names ≡ Some n

-- in mode plain the name alone; in mode follow a path from the name to an entry that isn't deprecated, or the name
-- alone if it has no entry
abbrev pub IsTrace : Rows → Mode → Values → List Values → Type 0
IsTrace rows Plain n names = names ≡ n ∷ []
IsTrace rows Follow n names =
    (BeginsWithName n names × IsPath rows.entries names) ⊎ ((names ≡ n ∷ []) × (is_entry rows n ≡ false))
