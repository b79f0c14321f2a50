-- Lemmas: the change of the weight of all rows by an edit.
use Rattle.std.proofs.Common.{◌≡◌, ◌≤◌, ◌↔◌, ℕ, ◌+◌, List, map, length, true, cond, ◌&&◌, IsTrue, Some, None, Option, refl, sym, ap, arith}
use Rattle.std.specs.Option.{option_map_or}
use Rattle.std.specs.List.{list_any}
use Rattle.std.specs.Str.{bytes_eq}
use Rattle.std.proofs.lemmas.Bool.{and_parts}
use Rattle.std.proofs.lemmas.Slice.Eq.{bytes_eq-Decides}
use Rattle.cpe_rows.specs.cpe_name.Eleven.{Values}
use Rattle.cpe_rows.specs.Names.{is_same}
use Rattle.cpe_rows.specs.Rows.{Rows, is_named, is_checked, has_id, has_key, same_key}
use Rattle.cpe_rows.specs.After.{after, changed, deprecated}
use Rattle.cpe_rows.specs.Weight.{total_weight, weight, name_weight, note_weight, deprecation_weight, entry_weight, statement_weight, key_weight, check_weight}
use Rattle.cpe_rows.specs.declared.entry.Entry.{Entry}
use Rattle.cpe_rows.specs.declared.entry.Deprecation.{Deprecation}
use Rattle.cpe_rows.specs.declared.entry.NoteKind.{NoteKind}
use Rattle.cpe_rows.specs.declared.entry.NoteKind.TheVariants as note
use Rattle.cpe_rows.specs.declared.test.CheckKey.{CheckKey}
use Rattle.cpe_rows.specs.declared.edit.Edit.{Edit}
use Rattle.cpe_rows.specs.declared.edit.Edit.TheVariants as edit
use Rattle.row_weight.specs.Gain.{gain, loss, deprecated_weight, weight_of_first}
use Rattle.row_weight.proofs.Totals.{total-added, total-without, total-changed, total-checked, first-within, first-known}

-- ---- deprecations

module _ (d : Option Deprecation) (kind : NoteKind) (date comment : List ℕ) where
  abbrev gained : ℕ
  gained = note_weight (record { kind = kind; date = date; comment = comment }) + option_map_or deprecation_weight d 0

  entry-deprecated : (g : ℕ) → gained ≡ g → (e : Entry) → entry_weight (deprecated d kind date comment e) + deprecated_weight e ≡ entry_weight e + g
  entry-deprecated g is e =
      let more = total-added note_weight e.provenance.notes (record { kind = kind; date = date; comment = comment }) in omega (arith, more, is)

  entries-deprecated : (g : ℕ) → gained ≡ g → (n : Values) (es : List Entry)
      → total_weight (map entry_weight (changed (deprecated d kind date comment) n es)) + weight_of_first deprecated_weight (is_named n) es
      ≡ total_weight (map entry_weight es) + cond (list_any (is_named n) es) g 0
  entries-deprecated g is n es = total-changed entry_weight (deprecated d kind date comment) deprecated_weight g (entry-deprecated g is) n es

-- ---- all edits

no_deprecation : (n : ℕ) → n + 0 ≡ n
no_deprecation n = omega arith

pub weighs_after : (rows : Rows) (e : Edit) → weight (after rows e) + loss rows e ≡ weight rows + gain rows e
weighs_after rows (edit.Entry e) = let one = total-added entry_weight rows.entries e in omega (arith, one)
weighs_after rows (edit.Item n) = let one = total-added name_weight rows.items n in omega (arith, one)
weighs_after rows (edit.DropItem n) = let one = total-without name_weight (is_same n) rows.items in omega (arith, one)
weighs_after rows (edit.Deprecate n d date comment) =
    let more : ℕ = note_weight (record { kind = note.Deprecation; date = date; comment = comment }) + deprecation_weight d in
    let one = entries-deprecated (Some d) note.Deprecation date comment more refl n rows.entries in
    omega (arith, one)
weighs_after rows (edit.Amend n d date comment) =
    let more : ℕ = note_weight (record { kind = note.DeprecationModification; date = date; comment = comment }) + deprecation_weight d in
    let one = entries-deprecated (Some d) note.DeprecationModification date comment more refl n rows.entries in
    omega (arith, one)
weighs_after rows (edit.Restore n date comment) =
    let more : ℕ = note_weight (record { kind = note.DeprecationModification; date = date; comment = comment }) in
    let one = entries-deprecated None note.DeprecationModification date comment more (no_deprecation more) n rows.entries in
    omega (arith, one)
weighs_after rows (edit.PutStatement s) = let one = total-added statement_weight rows.statements s in omega (arith, one)
weighs_after rows (edit.DropStatement id) = let one = total-without statement_weight (has_id id) rows.statements in omega (arith, one)
weighs_after rows (edit.SetCheck k t) = let one = total-checked k t rows.checks in omega (arith, one)
weighs_after rows (edit.DropCheck k) = let one = total-without check_weight (has_key k) rows.checks in omega (arith, one)

-- ---- an edit removes at most the weight that was there

deprecation_within : (e : Entry) → deprecated_weight e ≤ entry_weight e
deprecation_within e = omega arith

within_itself : (n : ℕ) → n ≤ n
within_itself n = omega arith

in_entries : (rows : Rows) (n : Values) → weight_of_first deprecated_weight (is_named n) rows.entries ≤ weight rows
in_entries rows n =
    let part = first-within entry_weight deprecated_weight deprecation_within (is_named n) rows.entries in omega (arith, part)

pub lost_was_there : (rows : Rows) (e : Edit) → loss rows e ≤ weight rows
lost_was_there rows (edit.Entry e) = omega arith
lost_was_there rows (edit.Item n) = omega arith
lost_was_there rows (edit.DropItem n) =
    let part = first-within name_weight name_weight (λ n. within_itself (name_weight n)) (is_same n) rows.items in omega (arith, part)
lost_was_there rows (edit.Deprecate n d date comment) = in_entries rows n
lost_was_there rows (edit.Amend n d date comment) = in_entries rows n
lost_was_there rows (edit.Restore n date comment) = in_entries rows n
lost_was_there rows (edit.PutStatement s) = omega arith
lost_was_there rows (edit.DropStatement id) =
    let part = first-within statement_weight statement_weight (λ s. within_itself (statement_weight s)) (has_id id) rows.statements in omega (arith, part)
lost_was_there rows (edit.SetCheck k t) = omega arith
lost_was_there rows (edit.DropCheck k) =
    let part = first-within check_weight check_weight (λ c. within_itself (check_weight c)) (has_key k) rows.checks in omega (arith, part)

-- ---- removals

pub known_items : (rows : Rows) (n : Values) → ((a b : Values) → IsTrue (is_same a b) ↔ (a ≡ b)) → list_any (is_same n) rows.items ≡ true
    → loss rows (edit.DropItem n) ≡ name_weight n
known_items rows n same there = first-known name_weight (is_same n) (name_weight n) (λ a h. ap name_weight (sym ((same n a).0 h))) rows.items there

same_weight : (k j : CheckKey) → same_key k j ≡ true → key_weight j ≡ key_weight k
same_weight k j h =
    let first = and_parts (bytes_eq k.system j.system) (bytes_eq k.href j.href && bytes_eq k.id j.id) h in
    let rest = and_parts (bytes_eq k.href j.href) (bytes_eq k.id j.id) first.1 in
    let system : length k.system ≡ length j.system = ap length ((bytes_eq-Decides k.system j.system).0 first.0) in
    let href : length k.href ≡ length j.href = ap length ((bytes_eq-Decides k.href j.href).0 rest.0) in
    let id : length k.id ≡ length j.id = ap length ((bytes_eq-Decides k.id j.id).0 rest.1) in
    omega (arith, system, href, id)

pub known_checks : (rows : Rows) (k : CheckKey) → is_checked rows k ≡ true → loss rows (edit.DropCheck k) ≡ key_weight k
known_checks rows k there = first-known check_weight (has_key k) (key_weight k) (λ c h. same_weight k c.0 h) rows.checks there

-- If an edit adds no weight, the weight doesn't grow.
pub not_more : (a b l : ℕ) → a + l ≡ b + 0 → a ≤ b
not_more a b l h = omega (arith, h)
