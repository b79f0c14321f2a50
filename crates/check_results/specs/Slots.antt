-- The names in slots; a slot has a number of the table, or is empty.
use Rattle.std.specs.Prelude.{List, [], ◌∷◌, Option, Some, None, option_map}
use Rattle.std.specs.List.{cons_option, filter_map}
use Rattle.cpe_rows.specs.cpe_name.Eleven.{Values}
use Rattle.name_index.specs.declared.table.NameId.{NameId}
use Rattle.name_index.specs.Table.{Names as Table, find_kept}

-- the name in a slot; none if the slot is empty or its number isn't live
abbrev pub slot_name : Table → Option NameId → Option Values
slot_name table None = None
slot_name table (Some id) = option_map (λ k. k.name) (find_kept table id.0)

-- the names in the slots that have a name, in their order
abbrev pub slot_names : Table → List (Option NameId) → List Values
slot_names table [] = []
slot_names table (slot ∷ slots) = cons_option (slot_name table slot) (slot_names table slots)

-- the names of those numbers that are live
abbrev pub names_in_slots : Table → List NameId → List Values
names_in_slots table ids = filter_map (λ (id : NameId). slot_name table (Some id)) ids
