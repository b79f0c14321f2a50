-- The weight that an edit adds to the rows, and the weight that it removes, whether or not it is accepted.
use Rattle.std.specs.Prelude.{ℕ, ◌+◌, List, Bool, if◌then◌else◌, find}
use Rattle.std.specs.Option.{option_map_or}
use Rattle.cpe_rows.specs.cpe_name.Eleven.{Values}
use Rattle.cpe_rows.specs.Names.{is_same}
use Rattle.cpe_rows.specs.Rows.{Rows, is_named, is_entry, is_checked, has_id, has_key}
use Rattle.cpe_rows.specs.Weight.{name_weight, note_weight, deprecation_weight, entry_weight, statement_weight, key_weight, check_weight}
use Rattle.cpe_rows.specs.declared.entry.Entry.{Entry}
use Rattle.cpe_rows.specs.declared.entry.NoteKind.TheVariants as note
use Rattle.cpe_rows.specs.declared.edit.Edit.{Edit}
use Rattle.cpe_rows.specs.declared.edit.Edit.TheVariants as edit

-- the weight of the entry's deprecation, or 0 if it has none
abbrev pub deprecated_weight : Entry → ℕ
deprecated_weight e = option_map_or deprecation_weight e.deprecation 0

-- the weight of the first element that passes, or 0 if none does
abbrev pub weight_of_first : {A : Type 0} → (A → ℕ) → (A → Bool) → List A → ℕ
weight_of_first weight passes xs = option_map_or weight (find passes xs) 0

-- the given weight if there is an entry of this name, and otherwise 0
abbrev pub for_entry : Rows → Values → ℕ → ℕ
for_entry rows n weight = if is_entry rows n then weight else 0

abbrev pub gain : Rows → Edit → ℕ
gain rows (edit.Entry e) = entry_weight e
gain rows (edit.Item n) = name_weight n
gain rows (edit.DropItem n) = 0
gain rows (edit.Deprecate n d date comment) =
    for_entry rows n (note_weight (record { kind = note.Deprecation; date = date; comment = comment }) + deprecation_weight d)
gain rows (edit.Amend n d date comment) =
    for_entry rows n (note_weight (record { kind = note.DeprecationModification; date = date; comment = comment }) + deprecation_weight d)
gain rows (edit.Restore n date comment) =
    for_entry rows n (note_weight (record { kind = note.DeprecationModification; date = date; comment = comment }))
gain rows (edit.PutStatement s) = statement_weight s
gain rows (edit.DropStatement id) = 0
gain rows (edit.SetCheck k t) = if is_checked rows k then 0 else key_weight k
gain rows (edit.DropCheck k) = 0

abbrev pub loss : Rows → Edit → ℕ
loss rows (edit.Entry e) = 0
loss rows (edit.Item n) = 0
loss rows (edit.DropItem n) = weight_of_first name_weight (is_same n) rows.items
loss rows (edit.Deprecate n d date comment) = weight_of_first deprecated_weight (is_named n) rows.entries
loss rows (edit.Amend n d date comment) = weight_of_first deprecated_weight (is_named n) rows.entries
loss rows (edit.Restore n date comment) = weight_of_first deprecated_weight (is_named n) rows.entries
loss rows (edit.PutStatement s) = 0
loss rows (edit.DropStatement id) = weight_of_first statement_weight (has_id id) rows.statements
loss rows (edit.SetCheck k t) = 0
loss rows (edit.DropCheck k) = weight_of_first check_weight (has_key k) rows.checks
