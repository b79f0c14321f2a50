-- The texts of the rows that an edit leaves are UTF-8, if the texts of the rows before and of the edit are.
use Rattle.std.proofs.Common.{ℕ, List, [], ◌∷◌, ◌++◌, Bool, true, false, cond, Option, Some, None}
use Rattle.std.specs.List.{AllByRecursion}
use Rattle.cpe_rows.specs.cpe_name.Eleven.{Values}
use Rattle.cpe_rows.specs.Rows.{Rows, no_rows, is_named, has_id, has_key}
use Rattle.cpe_rows.specs.After.{after, changed, deprecated, without_first, with_check}
use Rattle.cpe_rows.specs.declared.edit.Edit.{Edit}
use Rattle.cpe_rows.specs.declared.edit.Edit.TheVariants as edit
use Rattle.cpe_rows.specs.declared.entry.Deprecation.{Deprecation}
use Rattle.cpe_rows.specs.declared.entry.Entry.{Entry}
use Rattle.cpe_rows.specs.declared.entry.Note.{Note}
use Rattle.cpe_rows.specs.declared.entry.NoteKind.{NoteKind}
use Rattle.cpe_rows.specs.declared.entry.NoteKind.TheVariants as note
use Rattle.cpe_rows.specs.declared.test.CheckKey.{CheckKey}
use Rattle.cpe_rows.specs.declared.truth.Truth.{Truth}
use Rattle.snapshot_bytes.specs.States.{AreTexts, IsString, IsTextEntry, IsTextKey, IsTextStatement}
use Rattle.cpe_records.specs.Texts.{IsTextEdit}

pushed : {A : Type 0} (P : A → Type 0) (xs : List A) (x : A) → AllByRecursion P xs → P x → AllByRecursion P (xs ++ x ∷ [])
pushed P [] x h one = (one, tt)
pushed P (y ∷ ys) x h one = (h.0, pushed P ys x h.1 one)

without : {A : Type 0} (P : A → Type 0) (p : A → Bool) (xs : List A) → AllByRecursion P xs → AllByRecursion P (without_first p xs)
without P p [] h = h
without P p (x ∷ xs) h = by (p x) (without P p xs h.1) where
  by : (b : Bool) → AllByRecursion P (without_first p xs) → AllByRecursion P (cond b xs (x ∷ without_first p xs))
  by true later = h.1
  by false later = (h.0, later)

each_changed : (f : Entry → Entry) (n : Values) → ((e : Entry) → IsTextEntry e → IsTextEntry (f e)) → (es : List Entry) → AllByRecursion IsTextEntry es → AllByRecursion IsTextEntry (changed f n es)
each_changed f n keeps [] h = h
each_changed f n keeps (e ∷ es) h = by (is_named n e) (each_changed f n keeps es h.1) where
  by : (b : Bool) → AllByRecursion IsTextEntry (changed f n es) → AllByRecursion IsTextEntry (cond b (f e ∷ es) (e ∷ changed f n es))
  by true later = (keeps e h.0, h.1)
  by false later = (h.0, later)

deprecated_text : (d : Option Deprecation) (kind : NoteKind) (date comment : List ℕ) → IsString comment → (e : Entry) → IsTextEntry e → IsTextEntry (deprecated d kind date comment e)
deprecated_text d kind date comment text e h = record {
  title = h.title;
  submitter = h.submitter;
  authority = h.authority;
  comments = pushed (λ (n : Note). IsString n.comment) e.provenance.notes (record { kind = kind; date = date; comment = comment }) h.comments text;
}

abbrev IsTextResult : CheckKey × Truth → Type 0
IsTextResult c = IsTextKey c.0

each_set : (k : CheckKey) (t : Truth) → IsTextKey k → (cs : List (CheckKey × Truth)) → AllByRecursion IsTextResult cs → AllByRecursion IsTextResult (with_check k t cs)
each_set k t one [] h = (one, tt)
each_set k t one (c ∷ cs) h = by (has_key k c) (each_set k t one cs h.1) where
  by : (b : Bool) → AllByRecursion IsTextResult (with_check k t cs) → AllByRecursion IsTextResult (cond b ((c.0, t) ∷ cs) (c ∷ with_check k t cs))
  by true later = (h.0, h.1)
  by false later = (h.0, later)

-- with other entries, the texts of the rows are UTF-8 if the texts of these entries are
with_entries : (rows : Rows) (es : List Entry) → AreTexts rows → AllByRecursion IsTextEntry es → AreTexts (record rows { entries = es })
with_entries rows es h all = record { entries = all; statements = h.statements; checks = h.checks }

pub texts_stay : (rows : Rows) (e : Edit) → AreTexts rows → IsTextEdit e → AreTexts (after rows e)
texts_stay rows (edit.Entry e) h new = with_entries rows (rows.entries ++ e ∷ []) h (pushed IsTextEntry rows.entries e h.entries new)
texts_stay rows (edit.Item n) h new = record { entries = h.entries; statements = h.statements; checks = h.checks }
texts_stay rows (edit.DropItem n) h new = record { entries = h.entries; statements = h.statements; checks = h.checks }
texts_stay rows (edit.Deprecate n d date comment) h new =
    let f = deprecated (Some d) note.Deprecation date comment in
    with_entries rows (changed f n rows.entries) h (each_changed f n (deprecated_text (Some d) note.Deprecation date comment new) rows.entries h.entries)
texts_stay rows (edit.Amend n d date comment) h new =
    let f = deprecated (Some d) note.DeprecationModification date comment in
    with_entries rows (changed f n rows.entries) h (each_changed f n (deprecated_text (Some d) note.DeprecationModification date comment new) rows.entries h.entries)
texts_stay rows (edit.Restore n date comment) h new =
    let f = deprecated None note.DeprecationModification date comment in
    with_entries rows (changed f n rows.entries) h (each_changed f n (deprecated_text None note.DeprecationModification date comment new) rows.entries h.entries)
texts_stay rows (edit.PutStatement s) h new = record { entries = h.entries; statements = pushed IsTextStatement rows.statements s h.statements new; checks = h.checks }
texts_stay rows (edit.DropStatement id) h new = record { entries = h.entries; statements = without IsTextStatement (has_id id) rows.statements h.statements; checks = h.checks }
texts_stay rows (edit.SetCheck k t) h new = record { entries = h.entries; statements = h.statements; checks = each_set k t new rows.checks h.checks }
texts_stay rows (edit.DropCheck k) h new = record { entries = h.entries; statements = h.statements; checks = without IsTextResult (has_key k) rows.checks h.checks }

pub texts_at_start : AreTexts no_rows
texts_at_start = record { entries = tt; statements = tt; checks = tt }
