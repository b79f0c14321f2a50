-- The rows after each edit, if the edit is accepted.
use Rattle.std.specs.Prelude.{ℕ, List, [], ◌∷◌, ◌++◌, Bool, if◌then◌else◌, Option, Some, None}
use Rattle.cpe_name.specs.Eleven.{Values}
use Rattle.cpe_rows.specs.Names.{is_same}
use Rattle.cpe_rows.specs.Rows.{Rows, is_named, has_id, has_key}
use Rattle.cpe_rows.specs.declared.truth.Truth.{Truth}
use Rattle.cpe_rows.specs.declared.test.CheckKey.{CheckKey}
use Rattle.cpe_rows.specs.declared.entry.Entry.{Entry}
use Rattle.cpe_rows.specs.declared.entry.Deprecation.{Deprecation}
use Rattle.cpe_rows.specs.declared.entry.Provenance.{Provenance}
use Rattle.cpe_rows.specs.declared.entry.NoteKind.{NoteKind}
use Rattle.cpe_rows.specs.declared.entry.NoteKind.TheVariants as note
use Rattle.cpe_rows.specs.declared.edit.Edit.{Edit}
use Rattle.cpe_rows.specs.declared.edit.Edit.TheVariants as edit

-- the entries, with a change of the entry of this name
abbrev pub changed : (Entry → Entry) → Values → List Entry → List Entry
changed f n [] = []
changed f n (e ∷ es) = if is_named n e then f e ∷ es else e ∷ changed f n es

-- the provenance with one more note, which is the last
abbrev pub noted : NoteKind → List ℕ → List ℕ → Provenance → Provenance
noted kind date comment v = record v { notes = v.notes ++ record { kind = kind; date = date; comment = comment } ∷ [] }

-- the entry with another deprecation or with none, and with a note about the change
abbrev pub deprecated : Option Deprecation → NoteKind → List ℕ → List ℕ → Entry → Entry
deprecated d kind date comment e = record e { deprecation = d; provenance = noted kind date comment e.provenance }

-- the list without its first element that passes
abbrev pub without_first : {A : Type 0} → (A → Bool) → List A → List A
without_first passes [] = []
without_first passes (x ∷ xs) = if passes x then xs else x ∷ without_first passes xs

-- The result replaces the result of an equal key. If there is none, it is appended.
abbrev pub with_check : CheckKey → Truth → List (CheckKey × Truth) → List (CheckKey × Truth)
with_check k t [] = (k, t) ∷ []
with_check k t (c ∷ cs) = if has_key k c then (c.0, t) ∷ cs else c ∷ with_check k t cs

abbrev pub after : Rows → Edit → Rows
after rows (edit.Entry e) = record rows { entries = rows.entries ++ e ∷ [] }
after rows (edit.Item n) = record rows { items = rows.items ++ n ∷ [] }
after rows (edit.DropItem n) = record rows { items = without_first (is_same n) rows.items }
after rows (edit.Deprecate n d date comment) = record rows { entries = changed (deprecated (Some d) note.Deprecation date comment) n rows.entries }
after rows (edit.Amend n d date comment) = record rows { entries = changed (deprecated (Some d) note.DeprecationModification date comment) n rows.entries }
after rows (edit.Restore n date comment) = record rows { entries = changed (deprecated None note.DeprecationModification date comment) n rows.entries }
after rows (edit.PutStatement s) = record rows { statements = rows.statements ++ s ∷ [] }
after rows (edit.DropStatement id) = record rows { statements = without_first (has_id id) rows.statements }
after rows (edit.SetCheck k t) = record rows { checks = with_check k t rows.checks }
after rows (edit.DropCheck k) = record rows { checks = without_first (has_key k) rows.checks }
